-- `newlines_into`: where `find` finds no carriage return, the text has its newlines already; else the two replacements are those of
-- `newlines`, and neither makes a text heavier.
use native.Mathlib.Omega.{arith}
use Rattle.normalise.proofs.Stripped.{none-room, none-wrote, once-room, twice-room, twice-wrote}
use Rattle.normalise.proofs.comments.newlines_into.Goals as goal

pub put-requires : goal.put-requires
put-requires c =
    none-room c.args.text.now c.requires.text_in_bounds_2

pub returns-then-text-find : goal.returns-then-text-find
returns-then-text-find c =
    none-wrote c.args.text.now c.find.ensures c.if-text-find.true c.put.ensures

pub replace_into-n-requires : goal.replace_into-n-requires
replace_into-n-requires c = record { nonzero = omega arith; src_in_bounds = once-room c.args.text.now c.requires.text_in_bounds }

pub replace_into-requires : goal.replace_into-requires
replace_into-requires c = record { nonzero = omega arith; src_in_bounds = twice-room c.args.text.now c.replace_into-n.ensures c.requires.text_in_bounds_2 }

pub returns : goal.returns
returns c =
    twice-wrote c.args.text.now c.replace_into-n.ensures c.replace_into.ensures
