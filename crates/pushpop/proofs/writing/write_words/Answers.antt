-- `write_words`: the text is the name and then each flag after a space; places that rise are places, so each has its flag.
use Rattle.laws_records.specs.Operators.PushPop.{rising-places}
use Rattle.pushpop.proofs.Words.{name-room, flags-room, words-written}
use Rattle.pushpop.proofs.writing.write_words.Goals as goal

pub name-e-requires : goal.name-e-requires
name-e-requires c = record { operator_bound = c.requires.operator_bound; room = name-room _ _ c.requires.operator_bound c.requires.room }

pub flags-requires : goal.flags-requires
flags-requires c = record { l_value = rising-places 0 _ c.requires.l_value; room = flags-room _ _ c.requires.operator_bound c.requires.room c.name-e.ensures }

pub returns : goal.returns
returns c =
    words-written _ _ c.requires.operator_bound c.requires.room c.name-e.ensures c.flags.ensures
