-- `slot_at`: where the order has an argument i its size names the slot (`slot-named`); past its arguments the number stays (`slot-stays`).
use Rattle.std.proofs.Common.{sym, ap, ◌∙◌, rules, tests, pos, to_z-of_z, SFits, w32}
use Rattle.rules.specs.Operators.Arguments.{size}
use Rattle.columns.specs.Coords.{slot}
use Rattle.columns.proofs.BySlot.{slot-named, slot-stays}
use Rattle.columns.proofs.slots.slot_at.Goals as goal

pub returns-in-Some-clause-named : goal.returns-in-Some-clause-named
returns-in-Some-clause-named c =
    let h = c.in-Some.ensures.lookup in
    let f : SFits w32 c.in-Some.x.now = search rules in
    c.slot_of.ensures.named ∙ ap slot (simp (to_z-of_z f) at c.size_of.ensures ∙ ap size (h.3.1 (pos 0))) ∙ sym (slot-named c.args.args.now c.args.i h.3.0)

pub returns-in-None-clause-named : goal.returns-in-None-clause-named
returns-in-None-clause-named c = sym (slot-stays c.args.args.now c.args.i (search (rules, tests)))
