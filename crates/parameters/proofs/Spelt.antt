-- The words that a parameter may have and the text has not, behind the text's normal form.
use mathlib.Core.Path.{◌≡◌, sym, ap, ◌∙◌}
use mathlib.Core.List.{[], ◌∷◌, ◌++◌}
use Prim.Native.Nat.{ℕ, ◌+◌, ◌-◌}
use native.Mathlib.Omega.{arith}
use lib.ListN.{length, take, drop, length-append}
use lib.Seq.{drop_at, drop-drop}
use Rattle.rules.specs.Text.Ascii.{ascii}
use Rattle.rules.specs.Text.Bytes.{Bytes}
use Rattle.rules.specs.Text.Normal.{normal}
use Rattle.text.specs.Wrote.{Wrote, Holds}
use Rattle.text.proofs.Wrote.{wrote-front}
use Rattle.parameters.specs.Elements.{Spelt}

-- `_nametrue`
abbrev pub spelled : Bytes
spelled = 95 ∷ 110 ∷ 97 ∷ 109 ∷ 101 ∷ 116 ∷ 114 ∷ 117 ∷ 101 ∷ []

pub spelt-behind : (t : Bytes) (n : ℕ) → length t ≡ n → Spelt (t ++ spelled) n
unfolding ascii
spelt-behind t n e =
    let d : drop n (t ++ spelled) ≡ spelled = drop_at t spelled n e in
    let f : drop (n + 5) (t ++ spelled) ≡ 116 ∷ 114 ∷ 117 ∷ 101 ∷ [] = sym (drop-drop 5 n (t ++ spelled)) ∙ ap (drop 5) d in
    let j : n + 5 - n ≡ 5 = omega arith in
    let k : n + 9 - (n + 5) ≡ 4 = omega arith in
    record { ends = omega (arith, length-append t spelled); name-there = rw (j, d); true-there = rw (k, f) }

module _ (t : Bytes) {n : ℕ} {a₁ : Bytes} (w : Holds (normal t) n a₁) {m : ℕ} {a₂ : Bytes} (v : Wrote (take n a₁ ++ spelled) a₁ m a₂) where
  pub front : take m a₂ ≡ normal t ++ spelled
  front = wrote-front v ∙ ap (λ (u : Bytes). u ++ spelled) (wrote-front w)

  pub front-spelt : Spelt (take m a₂) n
  front-spelt = rw front (spelt-behind (normal t) n (sym w.count))
