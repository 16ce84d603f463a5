-- `axisswap`: each call of the closure orders by slots and signs that are made once, which is to do what the order says (`all-swapped`).
use Rattle.std.proofs.Common.{rules, ◌∙◌}
use Rattle.rules.specs.Pipeline.Tuples.{tuples}
use Rattle.axisswap.specs.Signs.{ordered_by}
use Rattle.axisswap.proofs.OrderedNumbers.{all-swapped}
use Rattle.axisswap.proofs.coords.axisswap.Goals as goal

pub returns : goal.returns
returns c =
    c.each_coord.ensures (ordered_by c.args.back c.slots_of-o.result.at c.turns_of-t.result) (λ x r p. search rules)
    ∙ all-swapped c.args.args.now c.requires _ _ c.slots_of-o.ensures c.turns_of-t.ensures c.args.back (tuples c.args.xs.now)
