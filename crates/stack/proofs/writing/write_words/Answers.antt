-- `write_words`: the text is the action's name and key, and then the numbers with commas between; a swap and a drop have none, so theirs
-- ends there.
use Rattle.stack.proofs.Texts.{action-room, list-room, words-written}
use Rattle.stack.proofs.writing.write_words.Goals as goal

pub action-e-requires : goal.action-e-requires
action-e-requires c = record { le_operator = c.requires.le_operator; room = action-room _ _ c.requires.le_operator c.requires.l_value c.requires.room }

pub put_list-requires : goal.put_list-requires
put_list-requires c =
    list-room _ _ c.requires.le_operator c.requires.l_value c.requires.room c.action-e.ensures

pub returns : goal.returns
returns c =
    words-written _ _ c.requires.le_operator c.requires.l_value c.requires.room c.action-e.ensures c.put_list.ensures
