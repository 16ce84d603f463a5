-- `add_line`: a space, and then what stands before the first `#`: `add_short` writes it where the line is short, and else `find` finds it.
use Rattle.normalise.proofs.Lined.{short-room, short-done, line-part, line-place, line-room, line-done}
use Rattle.normalise.proofs.comments.add_line.Goals as goal

pub bounds-dst-at : goal.bounds-dst-at
bounds-dst-at c = line-place c.args.line.now c.args.dst.now c.args.at c.requires

pub add_short-requires : goal.add_short-requires
add_short-requires c = short-room c.args.line.now c.args.dst.now c.args.at c.requires

pub returns-then-line-lt-SHORT : goal.returns-then-line-lt-SHORT
returns-then-line-lt-SHORT c = short-done c.args.line.now c.args.dst.now c.args.at c.requires c.add_short.ensures

pub slice_bounds-put-end : goal.slice_bounds-put-end
slice_bounds-put-end c = line-part c.args.line.now c.args.dst.now c.args.at c.requires c.find-end.ensures

pub put-requires : goal.put-requires
put-requires c = line-room c.args.line.now c.args.dst.now c.args.at c.requires c.find-end.ensures

pub returns : goal.returns
returns c = line-done c.args.line.now c.args.dst.now c.args.at c.requires c.find-end.ensures c.put.ensures
