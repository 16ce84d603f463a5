-- A verdict behind its direction, and a newline behind it.
use Rattle.text.proofs.WroteAt.{line-room, line-place, line-done}
use Rattle.rules.specs.Face.Shown.{verdict_text, verdict_line}
use mathlib.Core.List.{◌++◌}
use borrow.Author.Rules.{rules}
use Rattle.show.proofs.checks.say_check.Goals as goal

pub say_verdict-o-requires : goal.say_verdict-o-requires
unfolding verdict_line
say_verdict-o-requires c =
    line-room (c.args.direction.now ++ verdict_text c.args.f.verdict c.args.f) c.args.out.now c.args.at c.requires

pub bounds-out-o : goal.bounds-out-o
unfolding verdict_line
bounds-out-o c =
    (line-place (c.args.direction.now ++ verdict_text c.args.f.verdict c.args.f) c.args.out.now c.args.at c.requires c.say_verdict-o.ensures).0

pub overflow_add-result : goal.overflow_add-result
unfolding verdict_line
overflow_add-result c =
    let h = (line-place (c.args.direction.now ++ verdict_text c.args.f.verdict c.args.f) c.args.out.now c.args.at c.requires c.say_verdict-o.ensures).1 in
    search rules

pub returns : goal.returns
unfolding verdict_line
returns c =
    line-done (c.args.direction.now ++ verdict_text c.args.f.verdict c.args.f) c.args.out.now c.args.at c.requires c.say_verdict-o.ensures
