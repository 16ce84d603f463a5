-- `swap_places`: a top above 62 means fewer than two columns, and nothing is exchanged; else the two columns at the top are.
use Rattle.rules.specs.Pipeline.Check.{no_place}
use Rattle.stack.proofs.TracedRoll.{swaps-few, swaps-some}
use Rattle.stack.proofs.places.swap_places.Goals as goal

pub returns-then-top-gt62 : goal.returns-then-top-gt62
returns-then-top-gt62 c = swaps-few c.requires c.if-top-gt62.true

pub returns : goal.returns
returns c = rw (c.swap.ensures.by_index.3 no_place) (swaps-some c.requires c.if-top-gt62.false)
