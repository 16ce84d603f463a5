-- `parameters` on its way: the normal form, with `_nametrue` behind it, has room, and what is replied of it is what the promise names.
use Rattle.rules.specs.declared.Refusal.{Refusal}
use Rattle.std.specs.Prelude.{Result}
use mathlib.Core.Path.{◌≡◌, refl, sym, ap, ◌∙◌}
use mathlib.Core.Bool.{true}
use mathlib.Core.List.{◌++◌}
use Prim.Native.Nat.{ℕ, ◌+◌, ◌*◌, ◌≤◌}
use native.Mathlib.Omega.{arith}
use lib.ListN.{length, take, length-append}
use lib.Seq.{take_at}
use Rattle.rules.specs.Text.Bytes.{Bytes, in_domain}
use Rattle.rules.specs.Text.Refusal.{Writes, Lends}
use Rattle.rules.specs.Text.Normal.{normal}
use Rattle.rules.specs.Text.Parameters.{parameters_of, parameters}
use Rattle.laws_text.specs.Entry.{lends-so}
use Rattle.laws_text.specs.Sizes.{normal-length}
use Rattle.text.specs.Wrote.{Wrote, Holds}
use Rattle.parameters.proofs.Spelt.{spelled, front}
use Rattle.parameters.specs.Replies.{text_reply}

-- ten times as long, and nine bytes more
pub nine-room : (t : Bytes) (most : ℕ) {x y : ℕ} → length t ≤ most → 10 * most + 9 ≤ x → x ≡ y → 10 * length t + 9 ≤ y
nine-room t most h l e = omega arith

is-parameters : (t : Bytes) → parameters t ≡ text_reply (normal t)
unfolding parameters parameters_of
is-parameters t = refl

module _ (t : Bytes) {n : ℕ} {a₁ : Bytes} (w : Holds (normal t) n a₁) where
  pub words-room : {x y : ℕ} → 10 * length t + 9 ≤ x → y ≡ x → n + 9 ≤ y
  words-room h e = omega (arith, w.count, normal-length t)

  module _ {m : ℕ} {a₂ : Bytes} (v : Wrote (take n a₁ ++ spelled) a₁ m a₂) where
    pub front-small : length t ≤ 4096 → length (take m a₂) ≤ 40969
    front-small h = omega (arith, ap length (front t w v), length-append (normal t) spelled, normal-length t)

    front-normal : take n (take m a₂) ≡ normal t
    front-normal = ap (take n) (front t w v) ∙ take_at (normal t) spelled n (sym w.count)

    pub parameters-so : {out out' : Bytes} {r : Result ℕ Refusal} → length t ≤ 4096 → in_domain t ≡ true → Lends (text_reply (take n (take m a₂))) out r out' → Writes parameters t out r out'
    parameters-so h d x = lends-so h d (is-parameters t) (rw front-normal at x)
