-- A table never gets shorter.
use mathlib.Core.Bool.{Bool, true, false, cond}
use mathlib.Core.List.{List, [], ◌∷◌}
use Prim.Native.Nat.{◌≤◌}
use native.Mathlib.Nat.{le_trans}
use native.Mathlib.Omega.{arith}
use lib.ListN.{length}
use Rattle.rules.specs.Text.Bytes.{Bytes, same}
use Rattle.rules.specs.Text.Parameters.{precedes, entered_by, entered_all_by}

module _ {A : Type 0} (key : A → Bytes) where
  pub entered-longer : (p : A) (l : List A) → length l ≤ length (entered_by key p l)
  unfolding entered_by
  entered-longer p [] = omega arith
  entered-longer p (q ∷ l) = go (same (key p) (key q)) (precedes (key p) (key q)) (entered-longer p l)
    where
      go : (b d : Bool) → length l ≤ length (entered_by key p l) → length (q ∷ l) ≤ length (cond b (p ∷ l) (cond d (p ∷ (q ∷ l)) (q ∷ entered_by key p l)))
      go true d h = omega arith
      go false true h = omega arith
      go false false h = omega arith

  pub entered-all-longer : (ps l : List A) → length l ≤ length (entered_all_by key ps l)
  unfolding entered_all_by
  entered-all-longer [] l = omega arith
  entered-all-longer (p ∷ ps) l = le_trans (entered-longer p l) (entered-all-longer ps (entered_by key p l))
