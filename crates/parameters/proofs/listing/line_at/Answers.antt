-- `line_at`: the key, `=`, the value and a newline are written one behind the other, which is the line of the parameter; each has room
-- since the whole line has.
use Rattle.parameters.proofs.Lines.{key-room, equals-room, value_room, end-room, line-done, line_kept}
use borrow.Author.Rules.{rules}
use Rattle.parameters.proofs.listing.line_at.Goals as goal

pub put-o-requires : goal.put-o-requires
put-o-requires c =
    key-room c.args.key.now c.args.value.now c.args.dst.now c.args.at c.requires

pub bounds-dst-o : goal.bounds-dst-o
bounds-dst-o c =
    (equals-room c.args.key.now c.args.value.now c.args.dst.now c.args.at c.requires c.put-o.ensures).0

pub overflow_add-o : goal.overflow_add-o
overflow_add-o c =
    let h = (equals-room c.args.key.now c.args.value.now c.args.dst.now c.args.at c.requires c.put-o.ensures).1 in
    search rules

pub put-e-requires : goal.put-e-requires
put-e-requires c =
    value_room c.args.key.now c.args.value.now c.args.dst.now c.args.at c.requires c.put-o.ensures

pub bounds-dst-e : goal.bounds-dst-e
bounds-dst-e c =
    (end-room c.args.key.now c.args.value.now c.args.dst.now c.args.at c.requires c.put-o.ensures c.put-e.ensures).0

pub overflow_add-result : goal.overflow_add-result
overflow_add-result c =
    let h = (end-room c.args.key.now c.args.value.now c.args.dst.now c.args.at c.requires c.put-o.ensures c.put-e.ensures).1 in
    search rules

pub shape_of-dst : goal.shape_of-dst
shape_of-dst c =
    line_kept c.args.key.now c.args.value.now c.args.dst.now c.args.at c.requires c.put-o.ensures c.put-e.ensures

pub returns : goal.returns
returns c =
    line-done c.args.key.now c.args.value.now c.args.dst.now c.args.at c.requires c.put-o.ensures c.put-e.ensures
