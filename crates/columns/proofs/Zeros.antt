-- How the columns stand in a store: one after the other, the bottom one first.
use mathlib.Core.Path.{◌≡◌, refl, sym, ap, ◌∙◌}
use Prim.Native.Nat.{ℕ, zero, suc, ◌*◌}
use mathlib.Core.List.{List, [], ◌∷◌, ◌++◌, append_assoc, append-nil, reverse, reverse-cons, flat_map}
use native.Mathlib.Nat.{suc-mul, zero-mul}
use lib.ListN.{take, drop}
use lib.Seq.{take-add}
use lib.Ieee.{Float}
use Rattle.columns.specs.Stores.{columns_of}

abbrev flat : List (List Float) → List Float
flat l = flat_map (λ (v : List Float). v) l

flat_append : (l m : List (List Float)) → flat (l ++ m) ≡ flat l ++ flat m
unfolding flat_map
flat_append [] m = refl
flat_append (v ∷ l) m = ap (λ (r : List Float). v ++ r) (flat_append l m) ∙ sym (append_assoc v (flat l) (flat m))

-- The columns, the bottom one first, are the store's front.
pub columns-flat : (n d : ℕ) (s : List Float) → flat_map (λ (v : List Float). v) (reverse (columns_of n d s)) ≡ take (d * n) s
unfolding columns_of flat_map
columns-flat n zero s = ap (λ (k : ℕ). take k s) (sym (zero-mul n))
columns-flat n (suc d) s =
    let top = take n (drop (d * n) s) in
    ap flat (reverse-cons top (columns_of n d s))
    ∙ flat_append (reverse (columns_of n d s)) (top ∷ [])
    ∙ (λ i. columns-flat n d s i ++ append-nil top i)
    ∙ sym (take-add (d * n) n s)
    ∙ ap (λ (k : ℕ). take k s) (sym (suc-mul d n))
