-- The axis is there exactly where its flag is given.
use mathlib.Core.Path.{sym, ◌∙◌}
use Rattle.laws_lists.specs.Signed.{as_is}
use Rattle.prepare.proofs.Recorded.{flag-set, flag-not}
use Rattle.prepare.proofs.own.with_flag.Goals as goal

pub returns-then-is_given : goal.returns-then-is_given
returns-then-is_given c =
    flag-set c.requires.good (sym c.is_given.ensures ∙ c.if-is_given.true) (rw (as_is c.args.axis c.ranges.axis) at c.extended.ensures)

pub returns : goal.returns
returns c = flag-not _ c.requires.good (sym c.is_given.ensures ∙ c.if-is_given.false)
