-- What a test that passed, or did not, says of its parts: of one that is turned, of two joined, of two texts compared, of every number below a
-- bound and of either Boolean.
use Rattle.std.specs.Prelude.{◌≡◌, refl, Bool, true, false, not, ◌&&◌, ◌||◌, [], ◌∷◌, ℕ, zero, suc, ◌<◌, T, eqb}
use Rattle.std.proofs.Common.{sym, subst, arith, eqb-true, eq-eqb}
use Rattle.std.specs.Bool.{beq}
use Rattle.std.proofs.lemmas.Bool.{false≢true, eqb-false}
use Rattle.rules.specs.Text.Bytes.{Bytes, same}

-- Two constructors are never equal: from such an equation `cc` proves this one.
pub never : ◌≡◌ {A = ℕ} 0 1 → ⊥
never z = omega arith

-- a test that passed, as the library's tests have it
pub so : {b : Bool} → b ≡ true → T b
so e = subst T (sym e) tt

-- ---- one test

-- a test that the code turns
pub not_so : {b : Bool} → not b ≡ true → b ≡ false
not_so {b = true} e = absurd (never (cc e))
not_so {b = false} e = refl

pub not_left : {b : Bool} → not b ≡ false → b ≡ true
not_left {b = true} e = refl
not_left {b = false} e = absurd (never (cc e))

-- ---- two tests

pub or_left : (a b : Bool) → a || b ≡ false → a ≡ false
or_left true b e = e
or_left false b e = refl

pub or_right : (a b : Bool) → a || b ≡ false → b ≡ false
or_right true b e = absurd (false≢true (sym e))
or_right false b e = e

pub and_left : (a b : Bool) → a && b ≡ true → a ≡ true
and_left true b e = refl
and_left false b e = e

pub and_right : (a b : Bool) → a && b ≡ true → b ≡ true
and_right true b e = e
and_right false b e = absurd (false≢true e)

-- two tests that compare as the same are the same
pub beq-is : (a b : Bool) → beq a b ≡ true → a ≡ b
beq-is true true h = refl
beq-is true false h = sym h
beq-is false true h = h
beq-is false false h = refl

-- ---- two texts

-- a text compares as the same with itself
pub same_self : (a : Bytes) → same a a ≡ true
unfolding same
same_self [] = refl
same_self (x ∷ a) = rw (eq-eqb x x refl) (same_self a)

-- and with no other
pub same-is : (a b : Bytes) → same a b ≡ true → a ≡ b
unfolding same
same-is [] [] e = refl
same-is [] (y ∷ b) e = absurd (false≢true e)
same-is (x ∷ a) [] e = absurd (false≢true e)
same-is (x ∷ a) (y ∷ b) e =
    let p : x ≡ y = eqb-true x y (and_left (eqb x y) (same a b) e) in
    let q : a ≡ b = same-is a b (and_right (eqb x y) (same a b) e) in
    cc

-- ---- a test of each of finitely many, which is computed

-- every number below n
unfoldable pub below : ℕ → (ℕ → Bool) → Bool
below zero test = true
below (suc n) test = test n && below n test

pub below_at : (n : ℕ) (test : ℕ → Bool) → below n test ≡ true → (k : ℕ) → k < n → test k ≡ true
unfolding below
below_at zero test h k l = absurd (none l)
  where
    none : k < 0 → ⊥
    none l = omega arith
below_at (suc n) test h k l = go (eqb k n) refl (below_at n test (and_right (test n) (below n test) h) k)
  where
    go : (b : Bool) → eqb k n ≡ b → (k < n → test k ≡ true) → test k ≡ true
    go true e f = rw (eqb-true k n e) (and_left (test n) (below n test) h)
    go false e f = let d = eqb-false k n e in f (omega arith)

-- either Boolean
unfoldable pub both : (Bool → Bool) → Bool
both test = test true && test false

pub both_at : (test : Bool → Bool) → both test ≡ true → (b : Bool) → test b ≡ true
unfolding both
both_at test h true = and_left (test true) (test false) h
both_at test h false = and_right (test true) (test false) h
