-- `is_proj`: the comparison is the one of `is_proj`.
use Rattle.rules.specs.Text.Ascii.{ascii}
use Rattle.rules.specs.Proj.Words.{is_proj}
use Rattle.proj_words.proofs.exchange.is_proj.Goals as goal

pub returns : goal.returns
unfolding is_proj ascii
returns c = c.starts_at.ensures
