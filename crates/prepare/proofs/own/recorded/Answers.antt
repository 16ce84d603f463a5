-- The marks are those that the parameters give.
use Rattle.rules.specs.Text.Ascii.{ascii}
use Rattle.prepare.proofs.Recorded.{record-so}
use Rattle.prepare.proofs.own.recorded.Goals as goal

pub returns : goal.returns
unfolding ascii
returns c =
    record-so _ _ _ _ _ _ c.step_of.ensures c.is_given-inv.ensures c.is_given-omit_fwd.ensures c.is_given-omit_inv.ensures
