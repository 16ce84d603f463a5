-- A word and the text, and a newline behind them.
use Rattle.text.proofs.WroteAt.{line-room, line-place, line-done}
use Rattle.rules.specs.Face.Shown.{translated_line}
use Rattle.rules.specs.Text.Ascii.{ascii}
use mathlib.Core.List.{◌++◌}
use borrow.Author.Rules.{rules}
use Rattle.show.proofs.say_translation.Goals as goal

pub say_words-o-requires : goal.say_words-o-requires
unfolding translated_line ascii
say_words-o-requires c =
    line-room (ascii "translated: " ++ c.args.text.now) c.args.out.now c.args.at c.requires

pub bounds-out-o : goal.bounds-out-o
unfolding translated_line ascii
bounds-out-o c =
    (line-place (ascii "translated: " ++ c.args.text.now) c.args.out.now c.args.at c.requires c.say_words-o.ensures).0

pub overflow_add-result : goal.overflow_add-result
unfolding translated_line ascii
overflow_add-result c =
    let h = (line-place (ascii "translated: " ++ c.args.text.now) c.args.out.now c.args.at c.requires c.say_words-o.ensures).1 in search rules

pub returns : goal.returns
unfolding translated_line ascii
returns c =
    line-done (ascii "translated: " ++ c.args.text.now) c.args.out.now c.args.at c.requires c.say_words-o.ensures
