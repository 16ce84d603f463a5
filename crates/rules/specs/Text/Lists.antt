-- Tests on lists: what the definitions on texts, words and steps share.
use Rattle.std.specs.Prelude.{ℕ, suc, Bool, true, false, cond, ◌&&◌, ◌||◌, List, [], ◌∷◌, Option, None, Some}

module _ {A : Type 0} where
  -- does one of them pass the test?
  unfoldable pub any_of : (A → Bool) → List A → Bool
  any_of test [] = false
  any_of test (x ∷ l) = test x || any_of test l

  -- do all of them?
  unfoldable pub all_of : (A → Bool) → List A → Bool
  all_of test [] = true
  all_of test (x ∷ l) = test x && all_of test l

  -- those that do, in their order
  unfoldable pub kept : (A → Bool) → List A → List A
  kept test [] = []
  kept test (x ∷ l) = cond (test x) (x ∷ kept test l) (kept test l)

  -- the place of the first that does, counted from 1
  unfoldable pub place_of : (A → Bool) → List A → ℕ
  place_of test [] = 0
  place_of test (x ∷ l) = cond (test x) 1 (suc (place_of test l))

  -- is there one at all?
  unfoldable pub non_empty : List A → Bool
  non_empty [] = false
  non_empty (x ∷ l) = true

  -- is there none?
  unfoldable pub is_none : Option A → Bool
  is_none None = true
  is_none (Some x) = false
