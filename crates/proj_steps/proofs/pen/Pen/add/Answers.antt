-- `add`: `put` writes x where the text has come to; a pass that counts goes on by x's length, and leaves the buffer.
use Rattle.std.proofs.Common.{refl, arith}
use Rattle.proj_steps.specs.Adds.{Adds}
use Rattle.proj_steps.proofs.Added.{add-room, add-fits, add-written, add-counted}
use Rattle.proj_steps.proofs.pen.Pen.add.Goals as goal
use Rattle.proj_steps.proofs.pen.Pen.add.Goals.{then-self, else-self}

pub put-self-requires : goal.put-self-requires
put-self-requires c = add-room c.requires c.if-self.true

pub overflow_add-self : goal.overflow_add-self
overflow_add-self c = omega (arith, add-fits c.requires c.if-self.false)

pub returns : goal.returns
returns c =
    let done : Adds c.args.self.now.write c.args.x.now c.args.out.now c.args.self.now.at c.if-self.self c.if-self.out = elim c.if-self.branch [
      | then-self w ↦ rw (w.self-is, w.out-is) (add-written c.requires w.if-self.true w.put-self.ensures)
      | else-self w ↦ rw (w.self-is, w.out-is) (add-counted c.requires w.if-self.false)
    ] in
    record { adds = done; write = refl; begun = refl; owed = refl }
