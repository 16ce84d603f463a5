-- `words`: the word `from`, with the name in front, and behind it the word `to`.
use Prim.Native.Nat.{◌/◌}
use Rattle.rules.specs.Text.Ascii.{ascii}
use Rattle.numbers.proofs.InTurn.{first-room, then-room, both-written}
use Rattle.adapt.specs.Text.{word_text, words_text}
use Rattle.adapt.proofs.writing.words.Goals as goal

pub word-e-requires : goal.word-e-requires
unfolding words_text ascii
word-e-requires c = record { l_value = c.requires.from_value; room = first-room (word_text (ascii "adapt from=") c.args.from.now (c.args.code / 3)) _ c.requires.room }

pub word-requires : goal.word-requires
unfolding words_text ascii
word-requires c = record { l_value = c.requires.to_value; room = then-room (word_text (ascii "adapt from=") c.args.from.now (c.args.code / 3)) _ c.requires.room c.word-e.ensures }

pub returns : goal.returns
unfolding words_text ascii
returns c =
    both-written (word_text (ascii "adapt from=") c.args.from.now (c.args.code / 3)) _ c.requires.room c.word-e.ensures c.word.ensures
