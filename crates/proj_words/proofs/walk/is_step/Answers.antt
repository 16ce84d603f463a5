-- `is_step`: the comparison is the one of `is_step`.
use Rattle.rules.specs.Proj.Words.{is_step}
use Rattle.rules.specs.Text.Ascii.{ascii}
use Rattle.proj_words.proofs.walk.is_step.Goals as goal

pub returns : goal.returns
unfolding is_step ascii
returns c = c.is_same.ensures
