-- What each action does in each direction, by its number.
use mathlib.Core.Path.{◌≡◌, refl, ap}
use Prim.Native.Nat.{ℕ}
use mathlib.Core.List.{List, reverse}
use lib.IntN.{ℤ}
use lib.ListN.{take}
use Rattle.rules.specs.Operators.Acts as rules
use Rattle.rules.specs.Operators.Arguments.{is_place, arg}
use Rattle.rules.specs.Operators.Stack.{rolling, unrolling}
use Rattle.rules.specs.Operators.Table.{operator_of, is_args, forward, inverse}
use Rattle.laws_lists.specs.Lists.{all-reverse}
use Rattle.laws_steps.specs.PlacesOf.{places-reverse}
use Rattle.columns.specs.Doings.{does, doing, able, Does}
use Rattle.columns.specs.declared.acts.Act.{Act}
use Rattle.columns.specs.declared.acts.Act.TheVariants.{Pushes, PopsAll, Flips, Swaps, Drops}
use Rattle.columns.specs.declared.acts.Doing.{Doing}
use Rattle.stack.specs.Actions.{Action, Roll, Rolled, acting}
use Rattle.stack.proofs.RollActs.{roll-made}
use Rattle.stack.proofs.SomePlaces.{some-places}

module _ {k : ℕ} {args : List ℤ} {n : ℕ} (a : Action k args n) {r : Doing} where
  -- ---- forward

  pub forward-push : k ≡ 2 → r ≡ acting Pushes args n → Does (forward (operator_of k) (take n args)) r
  unfolding forward operator_of does doing able is_args
  forward-push e f = rw (e, f) (record { same = refl; slots = a.slots; rule = some-places (take n args) (rw e at a.rule) })

  pub forward-pop : k ≡ 3 → r ≡ acting PopsAll args n → Does (forward (operator_of k) (take n args)) r
  unfolding forward operator_of does doing able is_args
  forward-pop e f = rw (e, f) (record { same = refl; slots = a.slots; rule = some-places (take n args) (rw e at a.rule) })

  pub forward-flip : k ≡ 4 → r ≡ acting Flips args n → Does (forward (operator_of k) (take n args)) r
  unfolding forward operator_of does doing able is_args
  forward-flip e f = rw (e, f) (record { same = refl; slots = a.slots; rule = some-places (take n args) (rw e at a.rule) })

  pub forward-roll : {act : Act} → k ≡ 5 → Rolled (rolling (arg 1 (take n args)) (arg 2 (take n args))) (take n args) act → r ≡ acting act args n → Does (forward (operator_of k) (take n args)) r
  unfolding forward operator_of doing
  forward-roll e h f = rw (e, f) (record { same = h.same; slots = a.slots; rule = h.rule })

  pub forward-unroll : {act : Act} → k ≡ 6 → Rolled (unrolling (arg 1 (take n args)) (arg 2 (take n args))) (take n args) act → r ≡ acting act args n → Does (forward (operator_of k) (take n args)) r
  unfolding forward operator_of doing
  forward-unroll e h f = rw (e, f) (record { same = h.same; slots = a.slots; rule = h.rule })

  pub forward-swap : k ≡ 7 → r ≡ acting Swaps args n → Does (forward (operator_of k) (take n args)) r
  unfolding forward operator_of does doing able
  forward-swap e f = rw (e, f) (record { same = refl; slots = a.slots; rule = refl })

  pub forward-drop : k ≡ 8 → r ≡ acting Drops args n → Does (forward (operator_of k) (take n args)) r
  unfolding forward operator_of does doing able
  forward-drop e f = rw (e, f) (record { same = refl; slots = a.slots; rule = refl })

  -- ---- inverse

  pub inverse-push : {turned : List ℤ} → k ≡ 2 → take n turned ≡ reverse (take n args) → r ≡ acting PopsAll turned n → Does (inverse (operator_of k) (take n args)) r
  unfolding inverse operator_of does doing able is_args
  inverse-push e t f =
      rw (e, f) (record
      { same = rw t (ap rules.pops_all (places-reverse (take n args))); slots = a.slots; rule = rw t (all-reverse is_place (take n args) (some-places (take n args) (rw e at a.rule))) })

  pub inverse-pop : {turned : List ℤ} → k ≡ 3 → take n turned ≡ reverse (take n args) → r ≡ acting Pushes turned n → Does (inverse (operator_of k) (take n args)) r
  unfolding inverse operator_of does doing able is_args
  inverse-pop e t f =
      rw (e, f) (record
      { same = rw t (ap rules.pushes (places-reverse (take n args))); slots = a.slots; rule = rw t (all-reverse is_place (take n args) (some-places (take n args) (rw e at a.rule))) })

  pub inverse-flip : k ≡ 4 → r ≡ acting Flips args n → Does (inverse (operator_of k) (take n args)) r
  unfolding inverse operator_of does doing able is_args
  inverse-flip e f = rw (e, f) (record { same = refl; slots = a.slots; rule = some-places (take n args) (rw e at a.rule) })

  pub inverse-roll : {act : Act} → k ≡ 5 → Rolled (unrolling (arg 1 (take n args)) (arg 2 (take n args))) (take n args) act → r ≡ acting act args n → Does (inverse (operator_of k) (take n args)) r
  unfolding inverse operator_of doing
  inverse-roll e h f = rw (e, f) (record { same = h.same; slots = a.slots; rule = h.rule })

  pub inverse-unroll : {act : Act} → k ≡ 6 → Rolled (rolling (arg 1 (take n args)) (arg 2 (take n args))) (take n args) act → r ≡ acting act args n → Does (inverse (operator_of k) (take n args)) r
  unfolding inverse operator_of doing
  inverse-unroll e h f = rw (e, f) (record { same = h.same; slots = a.slots; rule = h.rule })

  pub inverse-swap : k ≡ 7 → r ≡ acting Swaps args n → Does (inverse (operator_of k) (take n args)) r
  unfolding inverse operator_of does doing able
  inverse-swap e f = rw (e, f) (record { same = refl; slots = a.slots; rule = refl })

  pub inverse-drop : k ≡ 8 → r ≡ acting Drops args n → Does (inverse (operator_of k) (take n args)) r
  unfolding inverse operator_of does doing able
  inverse-drop e f = rw (e, f) (record { same = refl; slots = a.slots; rule = refl })

module _ {k : ℕ} {args : List ℤ} {n : ℕ} (a : Action k args n) where
  -- a roll's arguments
  pub roll-rule : k ≡ 5 → Roll (take n args)
  unfolding operator_of is_args
  roll-rule e = roll-made (take n args) a.digits (rw e at a.rule)

  pub unroll-rule : k ≡ 6 → Roll (take n args)
  unfolding operator_of is_args
  unroll-rule e = roll-made (take n args) a.digits (rw e at a.rule)
