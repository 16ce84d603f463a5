-- `space_into`: with its line ends made newlines the text weighs no more, and without its signs still no more: so both have room, and are
-- `spaced`.
use Rattle.proj_words.proofs.Room.{signless-room, signless-holds}
use Rattle.proj_words.proofs.clean.space_into.Goals as goal

pub signless_into-requires : goal.signless_into-requires
signless_into-requires c =
    signless-room c.args.text.now c.newlines_into-n.ensures c.requires.text_in_bounds_2 c.newlines_into-n.auto.a

pub returns : goal.returns
returns c =
    signless-holds c.args.text.now c.newlines_into-n.ensures c.signless_into.ensures
