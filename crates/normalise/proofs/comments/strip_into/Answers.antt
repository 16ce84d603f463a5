-- `strip_into`: the trim, the newlines, the line continuations and the lines are those of `stripped`, in its order; each text on the way
-- has room by its weight.
use native.Mathlib.Omega.{arith}
use Rattle.normalise.proofs.Stripped.{trim-room, trim-more-room, folded-room, stripped-room, stripped-holds}
use Rattle.normalise.proofs.comments.strip_into.Goals as goal

pub newlines_into-n-requires : goal.newlines_into-n-requires
newlines_into-n-requires c =
    record {
      text_in_bounds = trim-room c.args.text.now c.trim-t.ensures c.requires.text_in_bounds;
      text_in_bounds_2 = trim-more-room c.args.text.now c.trim-t.ensures c.requires.text_in_bounds_2;
    }

pub replace_into-m-requires : goal.replace_into-m-requires
replace_into-m-requires c =
    record {
      nonzero = omega arith;
      src_in_bounds = folded-room c.args.text.now c.trim-t.ensures c.newlines_into-n.ensures c.requires.text_in_bounds c.newlines_into-n.auto.a;
    }

pub lines_into-requires : goal.lines_into-requires
lines_into-requires c =
    stripped-room c.args.text.now c.trim-t.ensures c.newlines_into-n.ensures c.replace_into-m.ensures c.requires.text_in_bounds_2 c.newlines_into-n.auto.b

pub returns : goal.returns
returns c =
    stripped-holds c.args.text.now c.trim-t.ensures c.newlines_into-n.ensures c.replace_into-m.ensures c.lines_into.ensures
