use Rattle.text.proofs.Finds.{passed-by, starts-two}
use Rattle.text.proofs.search.skip.Goals as goal

pub returns-in-len2-up : goal.returns-in-len2-up
returns-in-len2-up c = passed-by _ (starts-two _ c.in-len2-up.len_at_least) c.skip_to-in-len2-up.ensures
