-- `bar_out`: before the first text nothing is put; before another the space that is owed, the space behind a text, and the bar: that is
-- `bar_text`, put piece by piece.
use Rattle.std.proofs.Common.{sym, ◌∙◌, ltb}
use Rattle.proj.specs.Places.{number_of, backs}
use Rattle.proj.proofs.Puts.{put-first, put-later, bar-is, puts-as, puts-nothing, bar-first, bar-owed, bar-front, bar-byte, bar-done}
use Rattle.proj.proofs.layout.Pass.bar_out.Goals as goal

pub returns-then-eq : goal.returns-then-eq
returns-then-eq c = puts-as (sym (bar-first (backs c.args.self) (number_of c.args.put.last) (ltb 0 c.args.put.o) (put-first c.args.put.last c.eq.ensures c.if-eq.true))) puts-nothing

pub space_out-p-requires : goal.space_out-p-requires
space_out-p-requires c =
    rw (c.eq-2.ensures ∙ bar-is c.args.put.last) (bar-owed (number_of c.args.put.last) (ltb 0 c.args.put.o) c.requires (put-later c.args.put.last c.eq.ensures c.if-eq.false))

pub space_out-q-requires : goal.space_out-q-requires
space_out-q-requires c =
    bar-front (number_of c.args.put.last) (ltb 0 c.args.put.o) c.requires (put-later c.args.put.last c.eq.ensures c.if-eq.false)
    (rw (c.eq-2.ensures ∙ bar-is c.args.put.last) at c.space_out-p.ensures)

pub byte_out-requires : goal.byte_out-requires
byte_out-requires c =
    bar-byte (number_of c.args.put.last) (ltb 0 c.args.put.o) c.requires (put-later c.args.put.last c.eq.ensures c.if-eq.false)
    (rw (c.eq-2.ensures ∙ bar-is c.args.put.last) at c.space_out-p.ensures) c.space_out-q.ensures

pub returns : goal.returns
returns c =
    bar-done (number_of c.args.put.last) (ltb 0 c.args.put.o) c.requires (put-later c.args.put.last c.eq.ensures c.if-eq.false)
    (rw (c.eq-2.ensures ∙ bar-is c.args.put.last) at c.space_out-p.ensures) c.space_out-q.ensures c.byte_out.ensures
