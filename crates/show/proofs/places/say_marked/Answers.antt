-- Two pieces: the word, and a minus or nothing.
use Rattle.show.proofs.TwoPieces.{put_written, first-room}
use Rattle.show.proofs.OptionalPieces.{minus-place, minus-said, plain-said}
use Rattle.rules.specs.Text.Ascii.{ascii}
use mathlib.Core.List.{[]}
use mathlib.Core.Bool.{cond}
use borrow.Author.Rules.{rules}
use Rattle.show.proofs.places.say_marked.Goals as goal

pub put-o-requires : goal.put-o-requires
put-o-requires c =
    first-room c.args.word.now (cond c.args.minus (ascii "-") []) c.args.out.now c.args.at c.requires

pub bounds-out-o : goal.bounds-out-o
bounds-out-o c =
    (minus-place c.args.word.now c.args.minus c.args.out.now c.args.at c.requires c.if-minus.true (put_written c.put-o.ensures)).0

pub overflow_add-result : goal.overflow_add-result
overflow_add-result c =
    let h = (minus-place c.args.word.now c.args.minus c.args.out.now c.args.at c.requires c.if-minus.true (put_written c.put-o.ensures)).1 in search rules

pub returns-then-minus : goal.returns-then-minus
returns-then-minus c =
    minus-said c.args.word.now c.args.minus c.args.out.now c.args.at c.requires c.if-minus.true (put_written c.put-o.ensures)

pub returns : goal.returns
returns c =
    plain-said c.args.word.now c.args.minus c.args.out.now c.args.at c.requires c.if-minus.false (put_written c.put-o.ensures)
