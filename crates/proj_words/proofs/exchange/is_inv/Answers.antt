-- `is_inv`: the comparison is the one of `is_inv`.
use Rattle.rules.specs.Text.Ascii.{ascii}
use Rattle.rules.specs.Proj.Translate.{is_inv}
use Rattle.proj_words.proofs.exchange.is_inv.Goals as goal

pub returns : goal.returns
unfolding is_inv ascii
returns c = c.is_same.ensures
