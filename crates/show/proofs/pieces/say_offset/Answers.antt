-- The refusal with its offset, and a newline behind it.
use Rattle.text.proofs.WroteAt.{line-room, line-place, line-done}
use Rattle.rules.specs.Face.Shown.{offset_text}
use borrow.Author.Rules.{rules}
use Rattle.show.proofs.pieces.say_offset.Goals as goal

pub say_faulty-o-requires : goal.say_faulty-o-requires
say_faulty-o-requires c =
    line-room (offset_text c.args.place c.args.offset) c.args.out.now c.args.at c.requires

pub bounds-out-o : goal.bounds-out-o
bounds-out-o c =
    (line-place (offset_text c.args.place c.args.offset) c.args.out.now c.args.at c.requires c.say_faulty-o.ensures).0

pub overflow_add-result : goal.overflow_add-result
overflow_add-result c =
    let h = (line-place (offset_text c.args.place c.args.offset) c.args.out.now c.args.at c.requires c.say_faulty-o.ensures).1 in search rules

pub returns : goal.returns
returns c =
    line-done (offset_text c.args.place c.args.offset) c.args.out.now c.args.at c.requires c.say_faulty-o.ensures
