-- A push on numbers: what has been pushed after some of its places; and all of them are what the act does.
use mathlib.Core.Path.{◌≡◌, refl, sym, ap, ◌∙◌, subst}
use Prim.Native.Nat.{ℕ, suc, ◌+◌, ◌*◌, ◌/◌, ◌<◌, ◌≤◌, max}
use mathlib.Core.List.{List, [], ◌∷◌}
use native.Mathlib.Omega.{arith}
use lib.ListN.{length, get_or, take, drop, length-map}
use lib.Seq.{take_all, paste}
use lib.IntN.{ℤ, pos}
use lib.Ieee.{Float, nan}
use Rattle.rules.specs.Operators.Acts.{pushes}
use Rattle.rules.specs.Operators.Arguments.{size, places}
use Rattle.rules.specs.Pipeline.Columns.{pushed, moved, takes}
use Rattle.rules.specs.Pipeline.Tuples.{tuples, column, on_numbers}
use Rattle.rules.specs.declared.Coord.{Coord}
use Rattle.laws_steps.specs.PlacesOf.{places-more}
use Rattle.laws_steps.specs.Walk.{pushed_more}
use Rattle.columns.specs.Stores.{columns_of, held, Stacked}
use Rattle.columns.specs.Machine.{Acted}
use Rattle.columns.proofs.Acted.{acted-so, enough-so}
use Rattle.columns.proofs.InStore.{under, drop-same, columns-same, put-own, put-else, put-after}

-- j places have been pushed
pub record Pushing (n d : ℕ) (l : List ℤ) (ts : List Coord) (s₀ s : List Float) (j : ℕ) : Type 0 where
  pub here : columns_of n (j + d) s ≡ pushed on_numbers (places (take j l)) ts (columns_of n d s₀)
  pub beyond : (i : ℕ) → (length l + d) * n ≤ i → get_or s i nan ≡ get_or s₀ i nan
  pub same_length : length s ≡ length s₀
  pub upto : j ≤ length l

module _ (n d : ℕ) (l : List ℤ) (ts : List Coord) (s₀ : List Float) where
  pub push-none : Pushing n d l ts s₀ s₀ 0
  unfolding places pushed
  push-none = record { here = ap (λ (q : ℕ). columns_of n q s₀) (own d); beyond = λ i h. refl; same_length = refl; upto = omega arith }
    where
      own : (d : ℕ) → 0 + d ≡ d
      own d = omega arith

  pub push-turn : (s s' : List Float) (j r : ℕ) → Pushing n d l ts s₀ s j → j < length l → length ts ≡ n → (length l + d) * n ≤ length s₀
      → r ≡ size (get_or l j (pos 0)) → length s' ≡ length s → s' ≡ paste s ((d + j) * n) (column r ts) n
      → Pushing n d l ts s₀ s' (j + 1)
  unfolding pushed columns_of column
  push-turn s s' j r inv h many room er len e =
      let i = size (get_or l j (pos 0)) in
      let v = column r ts in
      let long : length v ≡ n = length-map ts _ ∙ many in
      let fits : (d + j) * n + n ≤ length s = omega (arith, under (d + j) (length l + d) n (omega arith), inv.same_length) in
      let lower : columns_of n (d + j) s' ≡ columns_of n (d + j) s =
      columns-same n (d + j) s s' (λ q b. put-else n (d + j) s s' v e fits long len q (other q b) (omega (arith, under q (d + j) n b))) in
      record {
        here =
            ap (λ (q : ℕ). columns_of n q s') (one d j)
            ∙ (λ t. put-own n (d + j) s s' v e fits long len t ∷ lower t)
            ∙ (λ t. ap (λ (z : ℕ). column z ts) er t ∷ (ap (λ (q : ℕ). columns_of n q s) (back d j) ∙ inv.here) t)
            ∙ sym (pushed_more on_numbers (places (take j l)) (i ∷ []) ts (columns_of n d s₀))
            ∙ ap (λ (is : List ℕ). pushed on_numbers is ts (columns_of n d s₀)) (sym (places-more l j h));
        beyond = λ x b. put-after n (d + j) s s' v e fits long x (omega (arith, under (d + j) (length l + d) n (omega arith))) ∙ inv.beyond x b;
        same_length = len ∙ inv.same_length;
        upto = omega arith;
      }
    where
      one : (d j : ℕ) → j + 1 + d ≡ suc (d + j)
      one d j = omega arith

      back : (d j : ℕ) → d + j ≡ j + d
      back d j = omega arith

      other : (q : ℕ) → q < d + j → q ≡ d + j → ⊥
      other q b f = omega arith

  pub push-end : (s : List Float) (j : ℕ) → Pushing n d l ts s₀ s j → length l ≤ j → Stacked n (length l + d) (pushed on_numbers (places l) ts (columns_of n d s₀)) s₀ s
  push-end s j inv h =
      let e : j ≡ length l = omega (arith, inv.upto) in
      record {
        columns = ap (λ (i : ℕ). columns_of n (i + d) s) (sym e) ∙ inv.here ∙ ap (λ (z : List ℤ). pushed on_numbers (places z) ts (columns_of n d s₀)) (take_all j l h);
        beyond = drop-same ((length l + d) * n) s₀ s inv.same_length inv.beyond;
      }

-- all places: what the act does
pub push-acted : (l : List ℤ) (d : ℕ) (xs s s' : List Float) → Stacked (length xs / 4) (length l + d) (pushed on_numbers (places l) (tuples xs) (columns_of (length xs / 4) d s)) s s'
    → Acted (pushes (places l)) d xs s xs s'
unfolding held moved takes
push-acted l d xs s s' h =
    let deeper : max d (length l + d) ≡ length l + d = omega arith in
    acted-so (pushes (places l)) d xs s (length l + d) xs s'
    ((λ i. record { tuples = tuples xs; columns = h.columns i }) ∙ sym (enough-so (pushes (places l)) d xs s (omega arith)))
    (subst (λ (e : ℕ). drop (e * (length xs / 4)) s' ≡ drop (e * (length xs / 4)) s) (sym deeper) h.beyond)
