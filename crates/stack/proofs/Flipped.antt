-- A flip on numbers: what has been exchanged after some of its places; and all of them are what the act does.
use mathlib.Core.Path.{◌≡◌, refl, sym, ap, ◌∙◌, subst}
use Prim.Native.Nat.{ℕ, ◌+◌, ◌-◌, ◌*◌, ◌/◌, ◌<◌, ◌≤◌, max}
use mathlib.Core.Bool.{Bool, true, false}
use mathlib.Core.List.{List, [], ◌∷◌}
use native.Mathlib.Omega.{arith}
use borrow.Author.Tests.{eqb-true, eqb-false}
use lib.Dec.{eqb}
use lib.ListN.{length, get_or, set, take, drop, length-map, length-set}
use lib.Seq.{take_all, get_or-set_same, get_or-set_other, paste}
use lib.IntN.{ℤ, pos}
use lib.Ieee.{Float, nan}
use Rattle.rules.specs.Operators.Arguments.{size, places}
use Rattle.rules.specs.Operators.Acts.{flips}
use Rattle.rules.specs.Pipeline.Columns.{flipped, topped, moved, takes}
use Rattle.rules.specs.Pipeline.Tuples.{State, tuples, column, stored, on_numbers}
use Rattle.rules.specs.declared.Coord.{Coord}
use Rattle.laws_steps.specs.PlacesOf.{places-length, places-many, places-more}
use Rattle.laws_steps.specs.Walk.{flipped-more}
use Rattle.columns.specs.Stores.{col, columns_of, held, Stacked}
use Rattle.columns.specs.Machine.{Acted}
use Rattle.columns.proofs.Acted.{acted-so, enough-so}
use Rattle.columns.proofs.InStore.{under, drop-same, columns-length, columns-at, columns-are, put-own, put-else, put-after}

-- ---- one of the columns stored anew

columns-put : (n d j : ℕ) (s s' v : List Float) → s' ≡ paste s ((d - 1 - j) * n) v n → j < d → (d - 1 - j) * n + n ≤ length s → d * n ≤ length s → length v ≡ n → length s' ≡ length s
    → columns_of n d s' ≡ set (columns_of n d s) j v
columns-put n d j s s' v e h fits room long len =
    columns-are n d s' (set (columns_of n d s) j v) (length-set (columns_of n d s) j v ∙ columns-length n d s) (λ i b. go i b (eqb i j) refl)
  where
    q : ℕ
    q = d - 1 - j

    go : (i : ℕ) → i < d → (b : Bool) → eqb i j ≡ b → col n (d - 1 - i) s' ≡ get_or (set (columns_of n d s) j v) i []
    go i b true f =
        let same : i ≡ j = eqb-true i j f in
        ap (λ (z : ℕ). col n (d - 1 - z) s') same
        ∙ put-own n q s s' v e fits long len
        ∙ sym (get_or-set_same (columns_of n d s) j v [] (omega (arith, columns-length n d s)))
        ∙ ap (λ (z : ℕ). get_or (set (columns_of n d s) j v) z []) (sym same)
    go i b false f =
        let differ : i ≡ j → ⊥ = eqb-false i j f in
        put-else n q s s' v e fits long len (d - 1 - i) (apart differ) (omega (arith, under (d - 1 - i) d n (omega arith)))
        ∙ sym (columns-at n d i s b)
        ∙ sym (get_or-set_other (columns_of n d s) j i v [] differ)
      where
        apart : (i ≡ j → ⊥) → d - 1 - i ≡ q → ⊥
        apart x y = x (omega arith)

-- ---- flip

-- j places have been exchanged
pub record Flipping (n d : ℕ) (l : List ℤ) (ts₀ : List Coord) (s₀ : List Float) (ts : List Coord) (s : List Float) (j : ℕ) : Type 0 where
  pub tuples : ts ≡ (flipped on_numbers (places (take j l)) ts₀ (columns_of n d s₀)).tuples
  pub here : columns_of n d s ≡ (flipped on_numbers (places (take j l)) ts₀ (columns_of n d s₀)).columns
  pub beyond : (i : ℕ) → d * n ≤ i → get_or s i nan ≡ get_or s₀ i nan
  pub same_length : length s ≡ length s₀
  pub upto : j ≤ length l

-- the columns below the places are as they were
flip-below : (is : List ℕ) (ts : List Coord) (l : List (List Float)) → get_or (flipped on_numbers is ts l).columns (length is) [] ≡ get_or l (length is) []
unfolding flipped topped
flip-below [] ts l = refl
flip-below (i ∷ is) ts [] = refl
flip-below (i ∷ is) ts (v ∷ l) = flip-below is (stored i v ts) l

module _ (n d : ℕ) (l : List ℤ) (ts₀ : List Coord) (s₀ : List Float) where
  pub flip-none : Flipping n d l ts₀ s₀ ts₀ s₀ 0
  unfolding flipped places
  flip-none = record { tuples = refl; here = refl; beyond = λ i h. refl; same_length = refl; upto = omega arith }

  pub flip-turn : (ts ts' : List Coord) (s s' : List Float) (j r : ℕ) → Flipping n d l ts₀ s₀ ts s j → j < length l → length l ≤ d → length ts ≡ n → d * n ≤ length s₀
      → r ≡ size (get_or l j (pos 0)) → length s' ≡ length s
      → ts' ≡ stored r (col n (d - 1 - j) s) ts → s' ≡ paste s ((d - 1 - j) * n) (column r ts) n
      → Flipping n d l ts₀ s₀ ts' s' (j + 1)
  unfolding column
  flip-turn ts ts' s s' j r inv h deep many room er len et es =
      let i = size (get_or l j (pos 0)) in
      let is = places (take j l) in
      let c₀ = columns_of n d s₀ in
      let f = flipped on_numbers is ts₀ c₀ in
      let q = d - 1 - j in
      let v = column r ts in
      let long : length v ≡ n = length-map ts _ ∙ many in
      let fits : q * n + n ≤ length s = omega (arith, under q d n (omega arith), inv.same_length) in
      let count : length is ≡ j = places-many l j (omega arith) in
      let whole : flipped on_numbers (places (take (j + 1) l)) ts₀ c₀
      ≡ record { tuples = stored i (get_or c₀ (length is) []) f.tuples; columns = set f.columns (length is) (column i f.tuples) } =
      ap (λ (z : List ℕ). flipped on_numbers z ts₀ c₀) (places-more l j h) ∙ flipped-more on_numbers is i [] ts₀ c₀ (omega (arith, columns-length n d s₀)) in
      let was : col n q s ≡ get_or c₀ (length is) [] =
      sym (columns-at n d j s (omega arith)) ∙ ap (λ (z : List (List Float)). get_or z j []) inv.here ∙ ap (λ (z : ℕ). get_or f.columns z []) (sym count) ∙ flip-below is ts₀ c₀ in
      let now : columns_of n d s' ≡ set (columns_of n d s) j v = columns-put n d j s s' v es (omega arith) fits (omega (arith, inv.same_length)) long len in
      record {
        tuples =
            et
            ∙ ap (λ (z : ℕ). stored z (col n q s) ts) er
            ∙ (λ t. stored i (was t) (inv.tuples t))
            ∙ sym (ap (λ (z : State). z.tuples) whole);
        here =
            now
            ∙ (λ t. set (inv.here t) (sym count t) ((ap (λ (z : ℕ). column z ts) er ∙ ap (column i) inv.tuples) t))
            ∙ sym (ap (λ (z : State). z.columns) whole);
        beyond = λ x b. put-after n q s s' v es fits long x (omega (arith, under q d n (omega arith))) ∙ inv.beyond x b;
        same_length = len ∙ inv.same_length;
        upto = omega arith;
      }

  pub flip-end : (ts : List Coord) (s : List Float) (j : ℕ) → Flipping n d l ts₀ s₀ ts s j → length l ≤ j
      → (ts ≡ (flipped on_numbers (places l) ts₀ (columns_of n d s₀)).tuples) × Stacked n d (flipped on_numbers (places l) ts₀ (columns_of n d s₀)).columns s₀ s
  flip-end ts s j inv h =
      let e : take j l ≡ l = take_all j l h in (
        inv.tuples ∙ ap (λ (z : List ℤ). (flipped on_numbers (places z) ts₀ (columns_of n d s₀)).tuples) e,
        record {
          columns = inv.here ∙ ap (λ (z : List ℤ). (flipped on_numbers (places z) ts₀ (columns_of n d s₀)).columns) e;
          beyond = drop-same (d * n) s₀ s inv.same_length inv.beyond;
        },
      )

-- ---- the act

pub flip-acted : (l : List ℤ) (d : ℕ) (xs s xs' s' : List Float) → length l ≤ d → length xs' ≡ length xs → tuples xs' ≡ (flipped on_numbers (places l) (tuples xs) (columns_of (length xs / 4) d s)).tuples
    → Stacked (length xs / 4) d (flipped on_numbers (places l) (tuples xs) (columns_of (length xs / 4) d s)).columns s s' → Acted (flips (places l)) d xs s xs' s'
unfolding held moved takes
flip-acted l d xs s xs' s' deep len h k =
    let same : max d d ≡ d = omega arith in
    let all = ap (λ (z : ℕ). columns_of (z / 4) d s') len ∙ k.columns in
    acted-so (flips (places l)) d xs s d xs' s'
    ((λ i. record { tuples = h i; columns = all i }) ∙ sym (enough-so (flips (places l)) d xs s (omega (arith, places-length l))))
    (subst (λ (e : ℕ). drop (e * (length xs / 4)) s' ≡ drop (e * (length xs / 4)) s) (sym same) k.beyond)
