-- A local array of plain records, as memory that can be lent.
--     aval, avals      an array's machine value, from its elements'
--     lay-row, lift-row    the local's cell, full, is its elements as a row, of which one can be taken out (`denote.Index.elem_out`); and back, with the relation of what then lies there in hand
--     lay, lift            the same with the elements side by side: what `denote.Lend.lends_slice` lends as a `&mut [T]`, and what comes back
-- Assumes `Logic`. The element type owns facts alone, and its relation tells its machine value.
use mathlib.Core.Path.{◌≡◌, refl, subst}
use Prim.Native.Nat.{ℕ}
use mathlib.Core.List.{List, [], ◌∷◌}
use lib.ListN.{length}
use seplogic.Ra.Ura.{Ura}
use base.Fraction.{full_share}
use mir.Syntax.{Ty, ty_array}
use mir.Val.{Val}
use base.Logic.{ent, via, guard}
use base.Fml.{fsep, fat}
use types.Logic.{Logic, sem}
use types.Kit.{‵, ◌$◌, ◌∵◌, !, qed, by, move, use1, drop, check, rewrite, fsplit, fjoin, fpick, fpack, feq_i, done}
use types.SemTy.{cells}
use types.Share.{arr_parts}
use denote.Array.{Array, array_vals, Array-Tells, Array-Makes}
use denote.ArrayMemory.{Single, Array-apart, Array-whole}
use denote.Index.{row, whole_in, whole_out}
use denote.Laws.{Is, Tells, Makes, shows}
use denote.Memory.{cell_at, part_at, part_of, lone, mem, shares}
use denote.RattleType.{RattleType}
use denote.Steps.{owned, facts, only}

module _ (R : RattleType) (one : R.Denot → Val) (tells : Tells R (Is R) (λ x. one x ∷ [])) (n : ℕ) where
  abbrev pub avals : List R.Denot → List Val
  avals xs = array_vals (λ x. one x ∷ []) xs

  abbrev pub aval : List R.Denot → Val
  aval xs = only (avals xs)

  -- the local's MIR type
  abbrev pub arr : Ty
  arr = ty_array (lone R.mir) n

  module _ {M : Type 1} {𝓤 : Ura M} (𝓛 : Logic 𝓤) (makes : Makes 𝓛 R (Is R)) (l : ℕ) where
    open 𝓛 use {H}

    pub lay-row : Single R.mir → (xs : List R.Denot) → Is (Array R n) xs (avals xs) → ent 𝓤 (H.at full_share arr l 0 (aval xs)) (sem 𝓛 (row R full_share xs l 0))
    unfolding part_of
    lay-row s xs is =
        qed 𝓛 (‵ (fat full_share arr l 0 (aval xs)) ∷ []) ∵ use1 𝓛 (‵ (cell_at full_share (Array R n).mir (avals xs) l 0)) (𝓛.laws.at_raw full_share arr l 0 (aval xs)) $
        owned ! (Array R n) (Is (Array R n)) (Array-Makes 𝓛 R makes n) xs (avals xs) is $ move ! (1 ∷ 0 ∷ []) $ fjoin ! $
        fpack ! (List Val) (λ us. fsep (cell_at full_share (Array R n).mir us l 0) ((Array R n).own_val xs us)) (avals xs) $
        use1 𝓛 (‵ ((arr_parts (shares R) n).part full_share xs l 0)) (Array-apart 𝓛 R full_share s n xs l 0) $ fsplit ! $ drop ! $ done !

    pub lay : Single R.mir → (xs : List R.Denot) → Is (Array R n) xs (avals xs) → ent 𝓤 (H.at full_share arr l 0 (aval xs)) (sem 𝓛 (cells (mem R) xs l 0))
    lay s xs is = via 𝓤 _ (lay-row s xs is) (whole_in 𝓛 R xs l 0)

    pub lift-row : (xs : List R.Denot) → length xs ≡ n → ent 𝓤 (sem 𝓛 (row R full_share xs l 0)) (guard 𝓤 (Is (Array R n) xs (avals xs)) (H.at full_share arr l 0 (aval xs)))
    unfolding part_of
    lift-row xs e =
        qed 𝓛 (‵ (row R full_share xs l 0) ∷ []) ∵ feq_i ! ℕ (length xs) n e $ fjoin ! $
        use1 𝓛 (‵ (part_at (Array R n) full_share xs l 0)) (Array-whole 𝓛 R full_share n xs l 0) $ fpick ! (λ vs. fsplit ! $ move ! (1 ∷ []) $
        facts ! (Array R n) (Is (Array R n)) (shows 𝓛 (Array R n)) xs vs (λ is. rewrite ! 0 (λ (us : List Val). ‵ (cell_at full_share (Array R n).mir us l 0)) (Array-Tells R (λ x. one x ∷ []) tells n xs vs is) refl $
        check ! (subst (Is (Array R n) xs) (Array-Tells R (λ x. one x ∷ []) tells n xs vs is) is) $ by ! (𝓛.laws.raw_at full_share arr l 0 (aval xs))))

    pub lift : (xs : List R.Denot) → length xs ≡ n → ent 𝓤 (sem 𝓛 (cells (mem R) xs l 0)) (guard 𝓤 (Is (Array R n) xs (avals xs)) (H.at full_share arr l 0 (aval xs)))
    lift xs e = via 𝓤 _ (whole_out 𝓛 R xs l 0) (lift-row xs e)
