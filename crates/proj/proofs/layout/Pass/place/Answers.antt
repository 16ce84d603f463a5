-- `place`: behind the others the place is o, and in front of them the total less what is put and the text.
use Rattle.std.proofs.Common.{refl}
use Rattle.proj.proofs.Puts.{place-back, place-behind}
use Rattle.proj.proofs.layout.Pass.place.Goals as goal

pub returns-in-Behind : goal.returns-in-Behind
returns-in-Behind c = rw c.in-Behind.is (refl, place-behind _ c.args.o c.args.l refl)

pub returns-in-InFront : goal.returns-in-InFront
returns-in-InFront c = rw c.in-InFront.is (refl, place-back c.in-InFront.total c.args.o c.args.l refl)
