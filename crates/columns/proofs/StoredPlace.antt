-- A row of places with one stored: from there on it begins with that one.
use mathlib.Core.Path.{◌≡◌, ap, ◌∙◌}
use Prim.Native.Nat.{ℕ, suc, ◌<◌}
use mathlib.Core.List.{List, ◌∷◌}
use native.Mathlib.Omega.{arith}
use lib.ListN.{length, set, drop, length-set}
use lib.Seq.{drop-cons, drop-set-lt, get_or-set_same}
use Rattle.rules.specs.Pipeline.Check.{no_place}
use Rattle.rules.specs.declared.Place.{Place}

pub drop-set : (l : List Place) (j : ℕ) (v : Place) → j < length l → drop j (set l j v) ≡ v ∷ drop (suc j) l
drop-set l j v h =
    drop-cons (set l j v) j no_place (rw length-set h)
    ∙ ap (λ (x : Place). x ∷ drop (suc j) (set l j v)) (get_or-set_same l j v no_place h)
    ∙ ap (λ (r : List Place). v ∷ r) (drop-set-lt (suc j) l j v (omega arith))
