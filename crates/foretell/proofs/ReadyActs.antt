-- One step: what each act needs, out of what the check has found.
use mathlib.Core.Logic.{◌⊎◌, inl, inr}
use mathlib.Core.Path.{◌≡◌, refl}
use Prim.Native.Nat.{ℕ, ◌+◌, ◌*◌, ◌≤◌, ◌<◌, ◌-◌}
use mathlib.Core.Bool.{Bool, true, false, not}
use mathlib.Core.List.{List, [], ◌∷◌}
use native.Mathlib.Omega.{arith}
use lib.Dec.{ltb→lt}
use lib.IntN.{ℤ}
use lib.ListN.{length}
use Rattle.rules.specs.Text.Lists.{all_of}
use Rattle.rules.specs.Text.Decimal.{minus}
use Rattle.rules.specs.Operators.Arguments.{is_place, places, is_order}
use Rattle.rules.specs.declared.Mode.{Mode}
use Rattle.rules.specs.Operators.Acts.{pops, pops_all, drops, adapts}
use Rattle.rules.specs.Pipeline.Columns.{takes, moved}
use Rattle.laws_steps.specs.Depth.{grown}
use Rattle.laws_steps.specs.PlacesOf.{places-length}
use Rattle.columns.specs.declared.acts.Act.{Act}
use Rattle.columns.specs.declared.acts.Act.TheVariants.{Pushes, Pops, PopsAll, Flips, Rolls, Swaps, Drops, Orders, Adapts}
use Rattle.columns.proofs.ActVariants.{By, Found, found}
use Rattle.rules.specs.Pipeline.Check.{adapting}
use Rattle.laws_lists.specs.Lists.{all_so}
use Rattle.laws_lists.specs.Tests.{so, and_right}
use Rattle.columns.specs.Doings.{does, able}
use Rattle.columns.specs.declared.traced.Traced.{Traced}
use Rattle.numbers.specs.Axes.{is_axis}
use Rattle.columns.specs.Traces.{machine, depth, Whole, Moved}
use Rattle.foretell.specs.Judgement.{Ready}

places-axes : (l : List ℤ) → all_of is_place l ≡ true → all_of is_axis l ≡ true
unfolding is_place is_axis
places-axes l e = all_so is_place is_axis (λ x h. and_right (not (minus x)) _ h) l e

-- a column for each place
taking : (t : Traced) (l : List ℤ) → Whole t → all_of is_place l ≡ true → length (places l) ≤ 64 - t.top → Whole t × ((all_of is_axis l ≡ true) × (t.top + length l ≤ 64))
taking t l w e h = (w, (places-axes l e, omega (arith, h, w.within, places-length l)))

module _ {t : Traced} {l : List ℤ} where
  pub ready-push : Ready t Pushes l → Whole t × ((all_of is_axis l ≡ true) × (length l ≤ t.top))
  unfolding able does grown depth
  ready-push r = (r.whole, (places-axes l r.rule, omega (arith, r.room, r.whole.within, places-length l)))

  pub ready-pops : Ready t Pops l ⊎ Ready t PopsAll l → Whole t × ((all_of is_axis l ≡ true) × (t.top + length l ≤ 64))
  unfolding able does takes depth
  ready-pops (inl r) = taking t l r.whole r.rule r.enough
  ready-pops (inr r) = taking t l r.whole r.rule r.enough

  pub ready-flip : Ready t Flips l → Whole t × ((all_of is_axis l ≡ true) × (t.top + length l ≤ 64))
  unfolding able does takes depth
  ready-flip r = taking t l r.whole r.rule r.enough

  pub ready-roll : {m n : ℕ} → Ready t (Rolls m n) l → Whole t × ((t.top + m ≤ 64) × (n < 2 * m))
  unfolding able does takes depth
  ready-roll {m} {n} r = (r.whole, (omega (arith, r.enough, r.whole.within), ltb→lt n (2 * m) (so r.rule)))

  pub ready-order : {back : Bool} → Ready t (Orders back) l → Whole t × (is_order l ≡ true)
  unfolding able
  ready-order r = (r.whole, r.rule)

pub moves-all : {t r : Traced} {is : List ℕ} → Moved (pops is) t r → Moved (pops_all is) t r
unfolding moved
moves-all m = record { whole = m.whole; same = m.same }

pub moves-none : {t : Traced} → Whole t → Moved drops t t
unfolding moved
moves-none w = record { whole = w; same = refl }

-- `adapt` moves no place
pub moves-no-place : {t : Traced} {mode : Mode} {back : Bool} {l : List ℤ} → Whole t → Moved (adapts mode back l) t t
unfolding moved machine
moves-no-place w = record { whole = w; same = refl }

-- and it alone adapts
pub others-not : (l : List ℤ) (a : Act) → Found (0 ∷ 1 ∷ 2 ∷ 3 ∷ 4 ∷ 5 ∷ 6 ∷ 7 ∷ []) a → false ≡ adapting (does a l)
unfolding does adapting
others-not l a h = go a (found (0 ∷ 1 ∷ 2 ∷ 3 ∷ 4 ∷ 5 ∷ 6 ∷ 7 ∷ []) a h)
  where
    go : (a : Act) → By (0 ∷ 1 ∷ 2 ∷ 3 ∷ 4 ∷ 5 ∷ 6 ∷ 7 ∷ []) a → false ≡ adapting (does a l)
    go Pushes h = refl
    go Pops h = refl
    go PopsAll h = refl
    go Flips h = refl
    go (Rolls m n) h = refl
    go Swaps h = refl
    go Drops h = refl
    go (Orders back) h = refl
    go (Adapts mode back) h = absurd h
