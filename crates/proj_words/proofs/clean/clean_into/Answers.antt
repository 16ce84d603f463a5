-- `clean_into`: the passes are those of `cleaned`, in its order: line ends and signs, the trim and the sign in front, comments, the normal
-- form. Each text on the way has room by its weight.
use Rattle.laws_text.specs.Sizes.{tenfold-weight}
use Rattle.proj_words.proofs.Room.{lines-room, normal-room, cleaned-holds}
use Rattle.proj_words.proofs.clean.clean_into.Goals as goal

pub space_into-n-requires : goal.space_into-n-requires
space_into-n-requires c = record { text_in_bounds = tenfold-weight c.args.text.now c.requires.text_in_bounds; text_in_bounds_2 = tenfold-weight c.args.text.now c.requires.text_in_bounds_3 }

pub lines_into-m-requires : goal.lines_into-m-requires
lines_into-m-requires c =
    lines-room c.args.text.now c.space_into-n.ensures c.unsign.ensures c.requires.text_in_bounds_2

pub normal_of-requires : goal.normal_of-requires
normal_of-requires c = record { text_in_bounds = normal-room c.args.text.now c.space_into-n.ensures c.unsign.ensures c.lines_into-m.ensures c.requires.text_in_bounds c.space_into-n.auto.a; text_in_bounds_2 = normal-room c.args.text.now c.space_into-n.ensures c.unsign.ensures c.lines_into-m.ensures c.requires.text_in_bounds_3 c.space_into-n.auto.b }

pub returns : goal.returns
returns c =
    cleaned-holds c.args.text.now c.space_into-n.ensures c.unsign.ensures c.lines_into-m.ensures c.normal_of.ensures
