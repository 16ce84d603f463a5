-- `adapt_crate`: a no-op leaves every tuple, as its definition says. Else, to scale by slots and factors made once is to do what the arguments say.
use mathlib.Core.Path.{sym, ◌∙◌}
use native.Mathlib.Omega.{arith}
use lib.Seq.{length-take-le}
use Rattle.rules.specs.Pipeline.Tuples.{tuples}
use Rattle.adapt.proofs.Scaled.{all-still, all-scaled}
use Rattle.adapt.proofs.coords.adapt_crate.Goals as goal

pub slice_bounds-slots_of-end : goal.slice_bounds-slots_of-end
slice_bounds-slots_of-end c =
    sym (length-take-le 4 c.args.args (omega (arith, c.well_formed.1.1.0.1.0.1)))

pub returns-then-is_noop : goal.returns-then-is_noop
returns-then-is_noop c =
    all-still c.args.args c.requires _ _ _ (tuples c.args.xs.now) c.slots_of-o.ensures c.mults_of-m.ensures c.is_noop.ensures c.args.back c.if-is_noop.true

pub returns : goal.returns
returns c =
    c.scale_all.ensures
    ∙ all-scaled c.args.args c.requires _ _ _ (tuples c.args.xs.now) c.slots_of-o.ensures c.mults_of-m.ensures c.is_noop.ensures
    c.args.back _ c.if-is_noop.false c.factors_for.ensures
