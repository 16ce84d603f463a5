-- `step`: each arm knows which act it has, and there the act of the doing is what the operator's own call on places ensures. What a call
-- requires is in `Ready`. Both pops are the same on places; a drop and an `adapt` move no place.
use mathlib.Core.Logic.{inl, inr}
use mathlib.Core.Path.{◌≡◌, sym, subst}
use Prim.Native.Nat.{◌≤◌}
use native.Mathlib.Omega.{arith}
use lib.ListN.{length, take}
use lib.Seq.{length-take-le}
use Rattle.columns.specs.declared.acts.Act as code
use Rattle.columns.specs.Doings.{does, doing}
use Rattle.foretell.specs.Judgement.{Ready}
use Rattle.foretell.proofs.ReadyActs.{ready-push, ready-pops, ready-flip, ready-roll, ready-order, moves-all, moves-none, moves-no-place}
use borrow.Author.Rules.{rules}
use Rattle.foretell.proofs.acts.step.Goals as goal
use Rattle.foretell.proofs.acts.step.Goals.{Start}

-- the eight slots hold as many arguments as are used
shared : (c : Start) → c.args.d.n ≤ length c.args.d.args
shared c = omega (arith, c.requires.n_bound, (let e : length c.args.d.args ≡ 8 = search rules in e))

many : (c : Start) → c.args.d.n ≡ length (take c.args.d.n c.args.d.args)
many c = sym (length-take-le _ c.args.d.args (shared c))

-- what the act needs is there, once a match has found which act it is
ready : (c : Start) {a : code.Act} → c.args.d.act ≡ a → Ready c.args.t a (take c.args.d.n c.args.d.args)
ready c e = subst (λ (a : code.Act). Ready c.args.t a (take c.args.d.n c.args.d.args)) e c.requires.ready

pub slice_bounds-l-end : goal.slice_bounds-l-end
slice_bounds-l-end c = many (goal.at.slice_bounds-l-end c).Start

pub push_places-requires : goal.push_places-requires
push_places-requires c = let all = ready-push (ready (goal.at.push_places-requires c).Start c.in-Pushes.is) in record { whole = all.0; l_value = all.1.0; l_len_bound = all.1.1 }

pub pop_places-requires : goal.pop_places-requires
pop_places-requires c =
    let all = ready-pops (elim c.in-Pops.is [ inl e ↦ inl (ready (goal.at.pop_places-requires c).Start e) | inr e ↦ inr (ready (goal.at.pop_places-requires c).Start e) ]) in
    record { whole = all.0; l_value = all.1.0; l_bound = all.1.1 }

pub flip_places-requires : goal.flip_places-requires
flip_places-requires c = let all = ready-flip (ready (goal.at.flip_places-requires c).Start c.in-Flips.is) in record { whole = all.0; l_value = all.1.0; l_bound = all.1.1 }

pub roll_places-requires : goal.roll_places-requires
roll_places-requires c = let all = ready-roll (ready (goal.at.roll_places-requires c).Start c.in-Rolls.is) in record { whole = all.0; m_bound = all.1.0; n_bound = all.1.1 }

pub swap_places-requires : goal.swap_places-requires
swap_places-requires c = c.requires.ready.whole

pub order_places-requires : goal.order_places-requires
order_places-requires c = let all = ready-order (ready (goal.at.order_places-requires c).Start c.in-Orders.is) in record { whole = all.0; l_value = all.1 }

pub returns-in-Pushes : goal.returns-in-Pushes
unfolding doing does
returns-in-Pushes c = rw c.in-Pushes.is c.push_places.ensures

pub returns-in-Pops : goal.returns-in-Pops
unfolding doing does
returns-in-Pops c = elim c.in-Pops.is [ inl e ↦ rw e c.pop_places.ensures | inr e ↦ rw e (moves-all c.pop_places.ensures) ]

pub returns-in-Flips : goal.returns-in-Flips
unfolding doing does
returns-in-Flips c = rw c.in-Flips.is c.flip_places.ensures

pub returns-in-Rolls : goal.returns-in-Rolls
unfolding doing does
returns-in-Rolls c = rw c.in-Rolls.is c.roll_places.ensures

pub returns-in-Swaps : goal.returns-in-Swaps
unfolding doing does
returns-in-Swaps c = rw c.in-Swaps.is c.swap_places.ensures

pub returns-in-Drops : goal.returns-in-Drops
unfolding doing does
returns-in-Drops c = elim c.in-Drops.is [ inl e ↦ rw e (moves-none c.requires.ready.whole) | inr x ↦ rw x.2 (moves-no-place c.requires.ready.whole) ]

pub returns-in-Orders : goal.returns-in-Orders
unfolding doing does
returns-in-Orders c = rw c.in-Orders.is c.order_places.ensures
