-- Cleaning a PROJ text: that each text on the way has room, and that the last is the one that is meant.
use mathlib.Core.Path.{◌≡◌, refl, ap, ◌∙◌}
use Prim.Native.Nat.{ℕ, ◌-◌, ◌*◌, ◌≤◌, ◌<◌}
use native.Mathlib.Omega.{arith}
use lib.ListN.{length, take, drop}
use Rattle.rules.specs.Text.Ascii.{ascii, is}
use Rattle.rules.specs.Text.Bytes.{Bytes, white, replace, trim_start, trimmed}
use Rattle.rules.specs.Text.Normal.{normal}
use Rattle.rules.specs.Text.Comments.{newlines, lined}
use Rattle.rules.specs.Proj.Words.{unplussed}
use Rattle.laws_text.specs.Sizes.{weight_of, weight, length-weight, weight-length, replace-weight, newlines-weight, unplussed-weight, lined-longer, lined-trimmed}
use Rattle.text.specs.Wrote.{Wrote, Holds}
use Rattle.text.specs.Places.{LeftFrom}
use Rattle.text.proofs.Wrote.{wrote-front, wrote-holds}
use Rattle.text.proofs.Lead.{part-from}
use Rattle.proj_words.specs.Clean.{signless, spaced, unsigned, cleaned}

-- ---- the signs

signless-weight : (t : Bytes) → weight (signless t) ≤ weight t
unfolding signless ascii weight weight_of
signless-weight t =
    let a = replace (ascii " +") (ascii " ") t in
    omega (arith, replace-weight (ascii " +") (ascii " ") t (omega arith) (omega arith), replace-weight (ascii "\n+") (ascii " ") a (omega arith) (omega arith))

module _ (t : Bytes) {a₀ a : Bytes} {n : ℕ} (w : Wrote (newlines t) a₀ n a) where
  pub signless-room : {x y : ℕ} → weight t ≤ x → y ≡ x → length (signless (take n a)) ≤ y
  signless-room h e = rw (wrote-front w) (omega (arith, length-weight (signless (newlines t)), signless-weight (newlines t), newlines-weight t))

  pub signless-holds : {b₀ b : Bytes} {r : ℕ} → Wrote (signless (take n a)) b₀ r b → Holds (spaced t) r b
  unfolding spaced
  signless-holds v = wrote-holds (rw (wrote-front w) at v)

-- what is left of the trimmed text
pub unsigned_is : (s : Bytes) {t : Bytes} {k : ℕ} → t ≡ trimmed white s → LeftFrom (is "+") t k → take (length t - k) (drop k t) ≡ unsigned s
unfolding unsigned
unsigned_is s {t} {k} e l = part-from t k ∙ l.part ∙ ap (trim_start (is "+")) e

-- ---- the whole

unplussed-so : (t : Bytes) → unsigned (spaced t) ≡ unplussed (newlines t)
unfolding unsigned spaced signless unplussed
unplussed-so t = refl

module _ (t : Bytes) {c : Bytes} {n : ℕ} (w : Holds (spaced t) n c) {u : Bytes} (e : u ≡ unsigned (take n c)) where
  unplussed-is : u ≡ unplussed (newlines t)
  unplussed-is = e ∙ ap unsigned (wrote-front w) ∙ unplussed-so t

  weighs : weight (unplussed (newlines t)) ≤ 10 * length t
  weighs = omega (arith, unplussed-weight (newlines t), newlines-weight t, weight-length t)

  pub lines-room : {x : ℕ} → 10 * length t < x → length (lined u) ≤ x
  lines-room h = rw unplussed-is (omega (arith, length-weight (lined (unplussed (newlines t))), lined-longer (unplussed (newlines t)), weighs))

  module _ {b₀ b : Bytes} {m : ℕ} (v : Wrote (lined u) b₀ m b) where
    pub normal-room : {x y : ℕ} → 10 * length t ≤ x → y ≡ x → weight (trimmed white (take m b)) ≤ y
    normal-room h k = rw (wrote-front v, unplussed-is) (omega (arith, lined-trimmed (unplussed (newlines t)), weighs))

    pub cleaned-holds : {a : Bytes} {r : ℕ} → Holds (normal (take m b)) r a → Holds (cleaned t) r a
    unfolding cleaned
    cleaned-holds z = rw (wrote-front v, unplussed-is) at z
