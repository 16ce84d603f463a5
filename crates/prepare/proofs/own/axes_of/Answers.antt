-- Four flags, one after the other, and at most one slot more for each.
use Rattle.rules.specs.Text.Ascii.{ascii}
use native.Mathlib.Omega.{arith}
use Rattle.prepare.proofs.Recorded.{axes-so, axes-count}
use Rattle.prepare.proofs.own.axes_of.Goals as goal

pub with_flag-a-requires : goal.with_flag-a-requires
with_flag-a-requires c = record { good = c.nothing.ensures.good; n_bound = omega (arith, axes-count c.nothing.ensures) }

pub with_flag-b-requires : goal.with_flag-b-requires
with_flag-b-requires c = record { good = c.with_flag-a.ensures.axes.good; n_bound = omega (arith, axes-count c.nothing.ensures, c.with_flag-a.ensures.few) }

pub with_flag-c-requires : goal.with_flag-c-requires
with_flag-c-requires c = record { good = c.with_flag-b.ensures.axes.good; n_bound = omega (arith, axes-count c.nothing.ensures, c.with_flag-a.ensures.few, c.with_flag-b.ensures.few) }

pub with_flag-requires : goal.with_flag-requires
with_flag-requires c = record { good = c.with_flag-c.ensures.axes.good; n_bound = omega (arith, axes-count c.nothing.ensures, c.with_flag-a.ensures.few, c.with_flag-b.ensures.few, c.with_flag-c.ensures.few) }

pub returns : goal.returns
unfolding ascii
returns c =
    axes-so _ c.nothing.ensures c.with_flag-a.ensures c.with_flag-b.ensures c.with_flag-c.ensures c.with_flag.ensures
