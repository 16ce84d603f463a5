-- `word`: the space that is wanted, and then both pieces, one behind the other, are the word with its gap (`gapped`).
use Rattle.proj_steps.proofs.Penned.{word-gap, word-front, word-back, word-done}
use Rattle.proj_steps.proofs.pen.Pen.word.Goals as goal

pub gap-requires : goal.gap-requires
gap-requires c = word-gap c.args.front.now c.args.x.now c.args.self.now c.requires

pub add-requires : goal.add-requires
add-requires c = word-front c.args.front.now c.args.x.now c.args.self.now c.requires c.gap.ensures

pub add-requires-2 : goal.add-requires-2
add-requires-2 c = word-back c.args.front.now c.args.x.now c.args.self.now c.requires c.gap.ensures c.add.ensures

pub returns : goal.returns
returns c = word-done c.args.front.now c.args.x.now c.args.self.now c.requires c.gap.ensures c.add.ensures c.add-2.ensures
