-- `space_out`: a space is put just where the flag says so.
use Rattle.std.proofs.Common.{sym}
use Rattle.proj.proofs.Puts.{spot-as, puts-as, puts-nothing, space-yes, space-no}
use Rattle.proj.proofs.layout.Pass.space_out.Goals as goal

pub byte_out-requires : goal.byte_out-requires
byte_out-requires c = spot-as (space-yes c.if-wanted.true) c.requires

pub returns-then-wanted : goal.returns-then-wanted
returns-then-wanted c = puts-as (sym (space-yes c.if-wanted.true)) c.byte_out.ensures

pub returns : goal.returns
returns c = puts-as (sym (space-no c.if-wanted.false)) puts-nothing
