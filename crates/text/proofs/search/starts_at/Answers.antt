-- `starts_at`: the library's `starts_with` compares byte by byte, as the definition does.
use Rattle.text.proofs.Finds.{starts-is}
use Rattle.text.proofs.search.starts_at.Goals as goal

pub returns : goal.returns
returns c = starts-is c.args.src.now c.args.at _ c.starts_with.ensures.value
