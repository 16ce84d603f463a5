-- A swap on numbers: the two top columns of the store exchanged; and that is what the act does.
use mathlib.Core.Path.{◌≡◌, refl, sym, ◌∙◌, subst}
use Prim.Native.Nat.{ℕ, zero, suc, ◌+◌, ◌-◌, ◌*◌, ◌/◌, ◌<◌, ◌≤◌, max}
use mathlib.Core.List.{List, ◌∷◌}
use native.Mathlib.Omega.{arith}
use lib.ListN.{length, drop}
use lib.Ieee.{Float}
use Rattle.rules.specs.Operators.Acts.{swaps}
use Rattle.rules.specs.Pipeline.Columns.{swapped_top, moved, takes}
use Rattle.rules.specs.Pipeline.Tuples.{tuples}
use Rattle.columns.specs.Stores.{columns_of, held, Stacked, Exchanged}
use Rattle.columns.specs.Machine.{Acted}
use Rattle.columns.proofs.Acted.{acted-so, enough-so}
use Rattle.columns.proofs.InStore.{under, drop-same, columns-same}
use Rattle.columns.proofs.Reversals.{low-col, high-col, other-col, above-both}

-- below two columns there is nothing to exchange
pub swap-few : (n d : ℕ) (s : List Float) → d < 2 → Stacked n d (swapped_top (columns_of n d s)) s s
unfolding columns_of swapped_top
swap-few n zero s h = record { columns = refl; beyond = refl }
swap-few n (suc zero) s h = record { columns = refl; beyond = refl }
swap-few n (suc (suc d)) s h = absurd (none h)
  where
    none : suc (suc d) < 2 → ⊥
    none h = omega arith

pub swap-end : (n d : ℕ) (s s' : List Float) → 2 ≤ d → d * n ≤ length s → length s' ≡ length s → Exchanged ((d - 2) * n) ((d - 1) * n) n s s' → Stacked n d (swapped_top (columns_of n d s)) s s'
unfolding columns_of swapped_top
swap-end n zero s s' h room len e = absurd (none h)
  where
    none : 2 ≤ 0 → ⊥
    none h = omega arith
swap-end n (suc zero) s s' h room len e = absurd (none h)
  where
    none : 2 ≤ 1 → ⊥
    none h = omega arith
swap-end n (suc (suc d)) s s' h room len e =
    let low : suc (suc d) - 2 ≡ d = omega arith in
    let high : suc (suc d) - 1 ≡ suc d = omega arith in
    let x : Exchanged (d * n) (suc d * n) n s s' = subst (λ (z : ℕ). Exchanged (d * n) (z * n) n s s') high (subst (λ (z : ℕ). Exchanged (z * n) ((suc (suc d) - 1) * n) n s s') low e) in
    let fits : suc d * n + n ≤ length s = omega (arith, under (suc d) (suc (suc d)) n (omega arith)) in
    let lower : columns_of n d s' ≡ columns_of n d s =
    columns-same n d s s' (λ q l. other-col n d (suc d) s s' x (omega arith) fits len q (less q l) (less-still q l) (omega (arith, under q (suc d) n (omega arith)))) in
    record {
      columns = λ i. high-col n d (suc d) s s' x (omega arith) fits len i ∷ low-col n d (suc d) s s' x (omega arith) fits len i ∷ lower i;
      beyond = drop-same (suc (suc d) * n) s s' len (λ i l. above-both n d (suc d) s s' x (omega arith) fits len i (omega (arith, under (suc d) (suc (suc d)) n (omega arith))));
    }
  where
    less : (q : ℕ) → q < d → q ≡ d → ⊥
    less q l f = omega arith

    less-still : (q : ℕ) → q < d → q ≡ suc d → ⊥
    less-still q l f = omega arith

-- ---- the act

pub swap-acted : (d : ℕ) (xs s s' : List Float) → Stacked (length xs / 4) d (swapped_top (columns_of (length xs / 4) d s)) s s' → Acted swaps d xs s xs s'
unfolding held moved takes
swap-acted d xs s s' h =
    let same : max d d ≡ d = omega arith in
    acted-so swaps d xs s d xs s'
    ((λ i. record { tuples = tuples xs; columns = h.columns i }) ∙ sym (enough-so swaps d xs s (omega arith)))
    (subst (λ (e : ℕ). drop (e * (length xs / 4)) s' ≡ drop (e * (length xs / 4)) s) (sym same) h.beyond)
