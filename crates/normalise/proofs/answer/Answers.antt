-- `answer`: a holds the normal form, for which ten times the text's length is room (its weight is no more), and it is handed out.
use lib.ListN.{length-replicate}
use Rattle.normalise.proofs.Laws.{normalise-so}
use Rattle.normalise.proofs.Weights.{text-weight}
use Rattle.normalise.proofs.answer.Goals as goal

pub normal_of-n-requires : goal.normal_of-n-requires
normal_of-n-requires g c =
    let room = text-weight c.args.text.now (rw length-replicate c.requires.room) in record { text_in_bounds = room; text_in_bounds_2 = room }

pub returns : goal.returns
returns g c =
    normalise-so c.requires.text_len_bound c.requires.text_value c.normal_of-n.ensures c.hand_out.ensures
