-- `unsign`: the white space at both ends goes, then the `+` in front of what is left: that is `unsigned`.
use Rattle.proj_words.proofs.Room.{unsigned_is}
use Rattle.proj_words.proofs.clean.unsign.Goals as goal

pub returns : goal.returns
returns c = unsigned_is c.args.s.now c.trim-t.ensures c.start_of-k.ensures
