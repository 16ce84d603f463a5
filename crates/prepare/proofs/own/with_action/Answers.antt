-- One action more is looked at: the choice stays, or there is one more.
use mathlib.Core.Path.{sym, ◌∙◌}
use Rattle.laws_lists.specs.Tests.{not_so, not_left}
use Rattle.prepare.proofs.OneAction.{with-same, with-one, with-two, with-more}
use Rattle.prepare.proofs.own.with_action.Goals as goal

pub returns-then-not-is_given : goal.returns-then-not-is_given
returns-then-not-is_given c =
    with-same _ c.args.c c.requires.le_operator.0 c.requires.le_operator.1 c.requires.key_value c.requires.chosen (sym c.is_given.ensures ∙ not_so c.if-not-is_given.true-raw)

pub returns-in-None : goal.returns-in-None
returns-in-None c =
    with-one _ c.args.c c.requires.le_operator.0 c.requires.le_operator.1 c.requires.key_value c.requires.chosen (sym c.is_given.ensures ∙ not_left c.if-not-is_given.false-raw) c.in-None.is

pub returns-in-One : goal.returns-in-One
returns-in-One c =
    with-two _ c.args.c c.requires.le_operator.0 c.requires.le_operator.1 c.requires.key_value c.requires.chosen (sym c.is_given.ensures ∙ not_left c.if-not-is_given.false-raw) c.in-One.is

pub returns-in-More : goal.returns-in-More
returns-in-More c =
    with-more _ c.args.c c.requires.le_operator.0 c.requires.le_operator.1 c.requires.key_value c.requires.chosen (sym c.is_given.ensures ∙ not_left c.if-not-is_given.false-raw) c.in-More.is
