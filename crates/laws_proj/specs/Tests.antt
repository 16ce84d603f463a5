-- Laws of tests and of keys that the others share.
use Rattle.std.specs.Prelude.{◌≡◌, Bool, cond, ◌&&◌, ◌||◌, length, drop, eqb}
use Rattle.std.proofs.Math.Path.{refl, ap, sym}
use Rattle.std.proofs.Common.{◌∙◌, arith, eqb-true}
use Rattle.std.proofs.Math.Bool.{true, false, or_assoc, and_assoc}
use Rattle.std.proofs.lemmas.Bool.{false≢true}
use mathlib.Core.List.{List, [], ◌∷◌, ◌++◌}
use Prim.Native.Nat.{ℕ, zero, suc, ◌≤◌}
use Rattle.rules.specs.Text.Lists.{any_of, all_of, kept, non_empty}
use Rattle.rules.specs.Text.Bytes.{Bytes, starts}
use Rattle.laws_lists.specs.Tests.{and_left, and_right}

module _ {A : Type 0} (test : A → Bool) where
  pub any_append : (l k : List A) → any_of test (l ++ k) ≡ (any_of test l || any_of test k)
  unfolding any_of
  any_append [] k = refl
  any_append (x ∷ l) k = ap (λ (b : Bool). test x || b) (any_append l k) ∙ sym (or_assoc (test x) (any_of test l) (any_of test k))

  pub all_append : (l k : List A) → all_of test (l ++ k) ≡ (all_of test l && all_of test k)
  unfolding all_of
  all_append [] k = refl
  all_append (x ∷ l) k = ap (λ (b : Bool). test x && b) (all_append l k) ∙ sym (and_assoc (test x) (all_of test l) (all_of test k))

-- a word that begins with one key does not begin with another whose first byte is another
pub starts_other : (p q : ℕ) (ps qs w : Bytes) → starts (p ∷ ps) w ≡ true → eqb p q ≡ false → starts (q ∷ qs) w ≡ false
unfolding starts
starts_other p q ps qs [] e n = refl
starts_other p q ps qs (x ∷ w) e n =
    let z : x ≡ p = eqb-true x p (and_left (eqb x p) (starts ps w) e) in
    rw (z, n)

-- a word that begins with a key is as long as it
pub starts-long : (key w : Bytes) → starts key w ≡ true → length key ≤ length w
unfolding starts
starts-long [] w e = omega arith
starts-long (p ∷ key) [] e = absurd (false≢true e)
starts-long (p ∷ key) (x ∷ w) e = omega (arith, starts-long key w (and_right (eqb x p) (starts key w) e))

pub both : {a b : Bool} → a ≡ true → b ≡ true → (a && b) ≡ true
both e f = rw (e, f)

module _ {A : Type 0} (test : A → Bool) where
  pub all-kept : (which : A → Bool) (l : List A) → all_of test l ≡ true → all_of test (kept which l) ≡ true
  unfolding all_of kept
  all-kept which [] e = refl
  all-kept which (x ∷ l) e = go (which x) (all-kept which l (and_right (test x) (all_of test l) e))
    where
      go : (b : Bool) → all_of test (kept which l) ≡ true → all_of test (cond b (x ∷ kept which l) (kept which l)) ≡ true
      go true h = both (and_left (test x) (all_of test l) e) h
      go false h = h

  pub all_drop : (n : ℕ) (l : List A) → all_of test l ≡ true → all_of test (drop n l) ≡ true
  unfolding all_of
  all_drop zero l e = e
  all_drop (suc n) [] e = refl
  all_drop (suc n) (x ∷ l) e = all_drop n l (and_right (test x) (all_of test l) e)

  pub all-each : (other : A → Bool) → ((x : A) → test x ≡ true → other x ≡ true) → (l : List A) → all_of test l ≡ true → all_of other l ≡ true
  unfolding all_of
  all-each other f [] e = refl
  all-each other f (x ∷ l) e = both (f x (and_left (test x) (all_of test l) e)) (all-each other f l (and_right (test x) (all_of test l) e))

  pub kept-all : (l : List A) → all_of test (kept test l) ≡ true
  unfolding all_of kept
  kept-all [] = refl
  kept-all (x ∷ l) = go (test x) refl (kept-all l)
    where
      go : (b : Bool) → test x ≡ b → all_of test (kept test l) ≡ true → all_of test (cond b (x ∷ kept test l) (kept test l)) ≡ true
      go true e h = both e h
      go false e h = h

-- an empty text, and one that is not
pub empty-is : (x : Bytes) → length x ≡ 0 → x ≡ []
empty-is [] e = refl
empty-is (y ∷ x) e = absurd (never e)
  where
    never : suc (length x) ≡ 0 → ⊥
    never e = omega arith

pub some_is : (x : Bytes) → (length x ≡ 0 → ⊥) → non_empty x ≡ true
unfolding non_empty
some_is [] n = absurd (n refl)
some_is (y ∷ x) n = refl
