-- A verdict, by its case.
use mathlib.Core.Path.{◌≡◌, sym, subst}
use Prim.Native.Nat.{ℕ, ◌+◌, ◌≤◌}
use lib.ListN.{length}
use Rattle.rules.specs.Text.Bytes.{Bytes}
use Rattle.rules.specs.declared.Verdict.{Verdict}
use Rattle.rules.specs.declared.Foretold.{Foretold}
use Rattle.text.specs.Wrote.{WroteAt}
use Rattle.rules.specs.Face.Shown.{verdict_text}

module _ (v w : Verdict) (f : Foretold) (d : Bytes) (at : ℕ) (e : v ≡ w) where
  pub judged-room : at + length (verdict_text v f) ≤ length d → at + length (verdict_text w f) ≤ length d
  judged-room h = subst (λ (x : Verdict). at + length (verdict_text x f) ≤ length d) e h

  pub judged-said : {r : ℕ} {d' : Bytes} → WroteAt (verdict_text w f) d at r d' → WroteAt (verdict_text v f) d at r d'
  judged-said {r} {d'} s = subst (λ (x : Verdict). WroteAt (verdict_text x f) d at r d') (sym e) s
