-- A refusal, and a newline behind it.
use Rattle.text.proofs.WroteAt.{line-room, line-place, line-done}
use Rattle.rules.specs.Face.Shown.{refusal_text}
use borrow.Author.Rules.{rules}
use Rattle.show.proofs.pieces.say_refusal.Goals as goal

pub say_refused-o-requires : goal.say_refused-o-requires
say_refused-o-requires c =
    line-room (refusal_text c.args.number c.args.place) c.args.out.now c.args.at c.requires

pub bounds-out-o : goal.bounds-out-o
bounds-out-o c =
    (line-place (refusal_text c.args.number c.args.place) c.args.out.now c.args.at c.requires c.say_refused-o.ensures).0

pub overflow_add-result : goal.overflow_add-result
overflow_add-result c =
    let h = (line-place (refusal_text c.args.number c.args.place) c.args.out.now c.args.at c.requires c.say_refused-o.ensures).1 in search rules

pub returns : goal.returns
returns c =
    line-done (refusal_text c.args.number c.args.place) c.args.out.now c.args.at c.requires c.say_refused-o.ensures
