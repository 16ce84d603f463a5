-- Stripping comments: each text on the way has room where the first has, by its weight.
use mathlib.Core.Path.{◌≡◌, refl, sym, ap, ◌∙◌}
use mathlib.Core.List.{[], ◌∷◌}
use mathlib.Core.Bool.{Bool, true, false, cond, ◌&&◌}
use Prim.Native.Nat.{ℕ, suc, ◌+◌, ◌≤◌, ◌<◌}
use lib.Dec.{eqb}
use native.Mathlib.Omega.{arith}
use lib.ListN.{length, take}
use Rattle.rules.specs.Text.Ascii.{ascii}
use Rattle.rules.specs.Text.Bytes.{Bytes, white, starts, replace, trimmed}
use Rattle.rules.specs.Text.Normal.{continued}
use Rattle.rules.specs.Text.Comments.{newlines, lined, stripped}
use Rattle.laws_text.specs.Sizes.{weight_of, weight, length-weight, replace-weight, trimmed-weight, newline-weight, newlines-weight, lined-longer}
use Rattle.text.specs.Wrote.{Wrote, Holds}
use Rattle.text.specs.Places.{ahead}
use Rattle.text.proofs.Replaced.{replace-none}
use Rattle.text.proofs.Wrote.{wrote-front, wrote-holds}

-- ---- line ends

-- CR LF becomes a newline
abbrev once : Bytes → Bytes
once t = replace (13 ∷ 10 ∷ []) (10 ∷ []) t

once-weight : (t : Bytes) → weight (once t) ≤ weight t
unfolding weight weight_of
once-weight t = replace-weight (13 ∷ 10 ∷ []) (10 ∷ []) t (omega arith) (omega arith)

newlines-is : (t : Bytes) → newlines t ≡ replace (13 ∷ []) (10 ∷ []) (once t)
unfolding newlines ascii
newlines-is t = refl

pub once-room : (t : Bytes) {x : ℕ} → weight t ≤ x → length (once t) ≤ x
once-room t h = omega (arith, length-weight (once t), once-weight t)

module _ (t : Bytes) {a₀ a : Bytes} {n : ℕ} (w : Wrote (once t) a₀ n a) where
  pub twice-room : {x : ℕ} → weight t ≤ x → length (replace (13 ∷ []) (10 ∷ []) (take n a)) ≤ x
  twice-room h = rw (wrote-front w, ← newlines-is t) (omega (arith, length-weight (newlines t), newlines-weight t))

  pub twice-wrote : {b₀ b : Bytes} {r : ℕ} → Wrote (replace (13 ∷ []) (10 ∷ []) (take n a)) b₀ r b → Wrote (newlines t) b₀ r b
  twice-wrote v = rw (newlines-is t) (rw (wrote-front w) at v)

-- where there is no carriage return, nothing changes
ahead-longer : (p : ℕ) (old t : Bytes) → ahead (p ∷ []) t ≤ ahead (p ∷ old) t
unfolding ahead starts
ahead-longer p old [] = omega arith
ahead-longer p old (x ∷ t) = go (eqb x p) (starts old t) (ahead-longer p old t)
  where
    go : (b c : Bool) → ahead (p ∷ []) t ≤ ahead (p ∷ old) t → cond (b && true) 0 (suc (ahead (p ∷ []) t)) ≤ cond (b && c) 0 (suc (ahead (p ∷ old) t))
    go true c h = omega arith
    go false c h = omega arith

pub newlines-none : (t : Bytes) {k : ℕ} → k ≡ 0 + ahead (13 ∷ []) t → length t ≤ k → newlines t ≡ t
newlines-none t e h =
    let l : length t ≤ ahead (13 ∷ []) t = omega arith in
    let n : once t ≡ t = replace-none (13 ∷ 10 ∷ []) (10 ∷ []) t (omega (arith, ahead-longer 13 (10 ∷ []) t)) in
    newlines-is t ∙ rw n (replace-none (13 ∷ []) (10 ∷ []) t l)

pub none-room : (t : Bytes) {x : ℕ} → weight t ≤ x → 0 + length t ≤ x
none-room t h = omega (arith, length-weight t)

pub none-wrote : (t : Bytes) {k : ℕ} {b₀ b : Bytes} {r : ℕ} → k ≡ 0 + ahead (13 ∷ []) t → length t ≤ k → Wrote t b₀ r b → Wrote (newlines t) b₀ r b
none-wrote t e h w = rw (newlines-none t e h) w

-- ---- comments

continued-is : (t : Bytes) → continued t ≡ replace (10 ∷ 58 ∷ []) (10 ∷ []) t
unfolding continued ascii
continued-is t = refl

module _ (text : Bytes) {t : Bytes} (p : t ≡ trimmed white text) where
  trim-weight : weight t ≤ weight text
  trim-weight = rw p (trimmed-weight white text)

  pub trim-room : {x : ℕ} → weight text ≤ x → weight t ≤ x
  trim-room h = omega (arith, trim-weight)

  pub trim-more-room : {x : ℕ} → weight text < x → weight t ≤ x
  trim-more-room h = omega (arith, trim-weight)

  module _ {b₀ b : Bytes} {n : ℕ} (w : Wrote (newlines t) b₀ n b) where
    folded : Bytes
    folded = continued (newlines t)

    folded-is : replace (10 ∷ 58 ∷ []) (10 ∷ []) (take n b) ≡ continued (newlines t)
    folded-is = rw (wrote-front w) (sym (continued-is (newlines t)))

    folded-weight : weight (continued (newlines t)) ≤ weight text
    folded-weight = omega (arith, newline-weight (newlines t), newlines-weight t, trim-weight)

    pub folded-room : {x y : ℕ} → weight text ≤ x → y ≡ x → length (replace (10 ∷ 58 ∷ []) (10 ∷ []) (take n b)) ≤ y
    folded-room h e = rw folded-is (omega (arith, length-weight (continued (newlines t)), folded-weight))

    module _ {a₀ a : Bytes} {m : ℕ} (v : Wrote (replace (10 ∷ 58 ∷ []) (10 ∷ []) (take n b)) a₀ m a) where
      lined-is : lined (take m a) ≡ stripped text
      unfolding stripped
      lined-is = ap lined (wrote-front v ∙ folded-is) ∙ rw p

      pub stripped-room : {x y : ℕ} → weight text < x → y ≡ x → length (lined (take m a)) ≤ y
      stripped-room h e = rw (wrote-front v, folded-is) (omega (arith, length-weight (lined (continued (newlines t))), lined-longer (continued (newlines t)), folded-weight))

      pub stripped-holds : {c₀ c : Bytes} {r : ℕ} → Wrote (lined (take m a)) c₀ r c → Holds (stripped text) r c
      stripped-holds u = wrote-holds (rw lined-is at u)
