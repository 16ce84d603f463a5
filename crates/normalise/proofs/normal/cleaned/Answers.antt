-- `cleaned`: the two trims, the line continuations and the words, one after the other, are as the definition of `normal` begins; each text
-- on the way has room by its weight.
use native.Mathlib.Omega.{arith}
use Rattle.normalise.proofs.Weights.{opened-room, begun-room, begun-wrote}
use Rattle.normalise.proofs.normal.cleaned.Goals as goal

pub replace_into-n-requires : goal.replace_into-n-requires
replace_into-n-requires c = record { nonzero = omega arith; src_in_bounds = opened-room c.args.text.now c.trim-t.ensures c.trim-u.ensures c.requires.text_in_bounds }

pub squeeze_into-requires : goal.squeeze_into-requires
squeeze_into-requires c =
    begun-room c.args.text.now c.trim-t.ensures c.trim-u.ensures c.replace_into-n.ensures c.requires.text_in_bounds_2

pub returns : goal.returns
returns c =
    begun-wrote c.args.text.now c.trim-t.ensures c.trim-u.ensures c.replace_into-n.ensures c.squeeze_into.ensures
