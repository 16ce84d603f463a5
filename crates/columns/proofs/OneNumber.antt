-- One number of every tuple: read into a column, and stored from one.
use mathlib.Core.Path.{◌≡◌, refl, sym, ap, ◌∙◌}
use Prim.Native.Nat.{ℕ, zero, suc, ◌+◌, ◌/◌, ◌<◌, ◌≤◌}
use mathlib.Core.Bool.{Bool, true, false}
use mathlib.Core.List.{List, [], ◌∷◌}
use native.Mathlib.Nat.{le_of_suc-le-suc, not-suc-le-zero}
use native.Mathlib.Omega.{arith}
use borrow.Author.Tests.{ltb-true, ltb-false}
use lib.Dec.{ltb}
use lib.ListN.{length, get_or, set, drop, length-map, length-set}
use lib.Seq.{drop-cons, ext_get_or, get_or-set_same, get_or-set_other}
use lib.Ieee.{Float, nan}
use Rattle.rules.specs.Operators.Numbers.{number, put}
use Rattle.rules.specs.Pipeline.Tuples.{tuples, column, stored}
use Rattle.rules.specs.declared.Coord.{Coord}
use Rattle.laws_steps.specs.Lengths.{tuples-length}
use Rattle.columns.specs.Coords.{no_tuple}
use Rattle.columns.proofs.Firsts.{each_from, firsts_at}
use Rattle.columns.proofs.EachTuple.{Each, each-end}

-- the number of tuple k in a column
pub column-at : (i k : ℕ) (ts : List Coord) → k < length ts → number i (get_or ts k no_tuple) ≡ get_or (column i ts) k nan
unfolding column
column-at i k [] h = absurd (not-suc-le-zero h)
column-at i zero (t ∷ ts) h = refl
column-at i (suc k) (t ∷ ts) h = column-at i k ts (le_of_suc-le-suc h)

pub column-length : (i : ℕ) (xs : List Float) → length (column i (tuples xs)) ≡ length xs / 4
unfolding column
column-length i xs = length-map (tuples xs) _ ∙ tuples-length xs

-- each tuple with its number of a column
each-stored : (i k : ℕ) (v : List Float) (ts : List Coord) → k + length ts ≤ length v
    → each_from k (λ t c. put i (get_or v t nan) c) ts ≡ stored i (drop k v) ts
unfolding each_from stored
each-stored i k v [] h = refl
each-stored i k v (t ∷ ts) h =
    (λ n. put i (get_or v k nan) t ∷ each-stored i (suc k) v ts (omega arith) n)
    ∙ ap (λ (w : List Float). stored i w (t ∷ ts)) (sym (drop-cons v k nan (omega arith)))

-- ---- the loops over the tuples

-- what stores number i of each tuple from a column
abbrev pub storing : ℕ → List Float → ℕ → Coord → Coord
storing i v k c = put i (get_or v k nan) c

pub stored-end : (i : ℕ) (v : List Float) {k : ℕ} {xs₀ xs : List Float} → Each (storing i v) xs₀ xs k → length v ≡ length xs₀ / 4 → length v ≤ k
    → tuples xs ≡ stored i v (tuples xs₀)
stored-end i v {k} {xs₀} {xs} e many h = each-end e (omega (arith, h, many)) ∙ each-stored i 0 v (tuples xs₀) (omega (arith, many, tuples-length xs₀))

-- a tuple that the loop has not come to
pub not_yet : {f : ℕ → Coord → Coord} {xs₀ xs : List Float} {k : ℕ} → Each f xs₀ xs k → get_or (tuples xs) k no_tuple ≡ get_or (tuples xs₀) k no_tuple
not_yet {f} {xs₀} {xs} {k} e = ap (λ (z : List Coord). get_or z k no_tuple) e.changed ∙ firsts_at 0 k f (tuples xs₀) no_tuple

-- the first k numbers of a column are those of v, the others as they were
pub record Copied (v s₀ s : List Float) (k : ℕ) : Type 0 where
  pub done : (j : ℕ) → j < k → get_or s j nan ≡ get_or v j nan
  pub rest : (j : ℕ) → k ≤ j → get_or s j nan ≡ get_or s₀ j nan
  pub same_length : length s ≡ length s₀

pub copied_none : (v s : List Float) → Copied v s s 0
copied_none v s = record { done = λ j h. absurd (omega (arith, h)); rest = λ j h. refl; same_length = refl }

pub copied_turn : {v s₀ s : List Float} {k : ℕ} {x : Float} → Copied v s₀ s k → k < length s → x ≡ get_or v k nan → Copied v s₀ (set s k x) (k + 1)
copied_turn {v} {s₀} {s} {k} {x} c h e =
    record { done = λ j l. done j (ltb j k) refl l; rest = λ j l. get_or-set_other s k j x nan (above j l) ∙ c.rest j (omega arith); same_length = length-set s k x ∙ c.same_length }
  where
    above : (j : ℕ) → k + 1 ≤ j → j ≡ k → ⊥
    above j l f = omega arith

    done : (j : ℕ) (b : Bool) → ltb j k ≡ b → j < k + 1 → get_or (set s k x) j nan ≡ get_or v j nan
    done j true f l = let g = ltb-true j k f in get_or-set_other s k j x nan (below g) ∙ c.done j g
      where
        below : j < k → j ≡ k → ⊥
        below g z = omega arith
    done j false f l =
        let g : j ≡ k = omega (arith, ltb-false j k f) in
        ap (λ (z : ℕ). get_or (set s k x) z nan) g ∙ get_or-set_same s k x nan h ∙ e ∙ ap (λ (z : ℕ). get_or v z nan) (sym g)

pub copied-end : {v s₀ s : List Float} {k : ℕ} → Copied v s₀ s k → length v ≡ length s₀ → length s₀ ≤ k → s ≡ v
copied-end {v} {s₀} {s} {k} c e h = ext_get_or nan s v (c.same_length ∙ sym e) (λ j b. c.done j (omega (arith, b, h, c.same_length)))
