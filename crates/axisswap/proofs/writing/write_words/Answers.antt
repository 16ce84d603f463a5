-- `write_words`: the text is the name and the key, and then the numbers with commas between.
use Rattle.rules.specs.Text.Ascii.{ascii}
use Rattle.numbers.proofs.Listed.{put_written}
use Rattle.axisswap.proofs.Words.{front-room, list-room, words-written}
use Rattle.axisswap.proofs.writing.write_words.Goals as goal

pub put-e-requires : goal.put-e-requires
unfolding ascii
put-e-requires c = (front-room _ c.requires).fits

pub put_list-requires : goal.put_list-requires
unfolding ascii
put_list-requires c =
    list-room _ c.requires (put_written c.put-e.ensures)

pub returns : goal.returns
unfolding ascii
returns c =
    words-written _ c.requires (put_written c.put-e.ensures) c.put_list.ensures
