-- `byte_out`: a byte is put at its place from either end; a pass that counts goes on by one and leaves the buffer.
use Rattle.std.proofs.Common.{rules}
use Rattle.proj.proofs.Puts.{spot-place, byte-written, put-counted}
use Rattle.proj.proofs.layout.Pass.byte_out.Goals as goal
use Rattle.proj.proofs.layout.Pass.byte_out.Goals.{in-Some, in_default}

pub bounds-out-at : goal.bounds-out-at
bounds-out-at c = let h = spot-place c.requires c.in-Some.ensures.0 c.in-Some.ensures.1 in search rules

pub returns : goal.returns
returns c = elim c.match-place.branch [
  | in-Some w ↦ rw w.out-is (byte-written c.requires w.in-Some.ensures.0 w.in-Some.ensures.1)
  | in_default w ↦ rw w.out-is (put-counted c.requires w.in_default.ensures)
]
