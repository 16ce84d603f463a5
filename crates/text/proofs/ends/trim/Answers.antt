-- `trim`: the end is looked for in what the start leaves, as `trimmed` trims the end of what was trimmed at the start.
use Rattle.text.proofs.Trimmed.{trimmed-is}
use Rattle.text.proofs.ends.trim.Goals as goal

pub returns : goal.returns
returns c = trimmed-is c.start_of-a.ensures c.end_of-k.ensures
