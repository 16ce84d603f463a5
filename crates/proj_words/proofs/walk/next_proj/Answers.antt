-- `next_proj`: a `step` in front of everything is passed, then the piece from its first word on is cut off, and a `step` in front of it is
-- noise: so the first step is found, and the walk goes on behind it.
use Rattle.proj_words.proofs.Words.{word-within, word-ends}
use Rattle.proj_words.proofs.Pieces.{walk_none, walk_step}
use Rattle.proj_words.proofs.walk.next_proj.Goals as goal

pub piece_from-piece-requires : goal.piece_from-piece-requires
piece_from-piece-requires c = record { k_in_bounds = word-within c.in-Some.ensures; n_value = word-ends c.in-Some.ensures }

pub returns-in_default : goal.returns-in_default
returns-in_default c = walk_none c.start_of-start.ensures c.in_default.ensures

pub returns : goal.returns
returns c = walk_step c.start_of-start.ensures c.in-Some.ensures c.piece_from-piece.ensures c.unnoised.ensures
