-- `finish`: where the ellipsoid is composed, it is added, and the globals if no element came before it; then the `inv` that is still owed.
-- Else only that.
use Rattle.std.proofs.Common.{◌∷◌, []}
use Rattle.laws_proj.specs.Tidying.{ellps_of}
use Rattle.proj_steps.specs.Pens.{Pens, inserted, closing}
use Rattle.proj_steps.proofs.Penned.{pens-none, pens-first, pens-then, pens-both, last-first, last_then, last_done}
use Rattle.proj_steps.proofs.pen.Pen.finish.Goals as goal
use Rattle.proj_steps.proofs.pen.Pen.finish.Goals.{in-Some, in_default}

pub ellps-requires : goal.ellps-requires
ellps-requires c =
    pens-first (ellps_of c.in-Some.e.a.value.now c.in-Some.e.rf.value.now ∷ []) (inserted c.args.globals) (last-first _ (rw c.in-Some.is at c.requires))

pub insert-requires : goal.insert-requires
insert-requires c =
    pens-then (ellps_of c.in-Some.e.a.value.now c.in-Some.e.rf.value.now ∷ []) (inserted c.args.globals) (last-first _ (rw c.in-Some.is at c.requires)) c.ellps.ensures

pub settle-requires : goal.settle-requires
settle-requires c =
    let all : Pens (closing c.args.ellipsoid c.args.globals) c.args.self.now c.args.out.now c.match-ellipsoid.self c.match-ellipsoid.out = elim c.match-ellipsoid.branch [
      | in-Some w ↦
          rw (w.self-is, w.out-is, w.in-Some.is)
          (pens-both (ellps_of w.in-Some.e.a.value.now w.in-Some.e.rf.value.now ∷ []) (inserted c.args.globals) (last-first _ (rw w.in-Some.is at c.requires)) w.ellps.ensures w.insert.ensures)
      | in_default w ↦ rw (w.self-is, w.out-is, w.in_default.is) pens-none
    ] in
    last_then (closing c.args.ellipsoid c.args.globals) c.requires all

pub returns : goal.returns
returns c =
    let all : Pens (closing c.args.ellipsoid c.args.globals) c.args.self.now c.args.out.now c.match-ellipsoid.self c.match-ellipsoid.out = elim c.match-ellipsoid.branch [
      | in-Some w ↦
          rw (w.self-is, w.out-is, w.in-Some.is)
          (pens-both (ellps_of w.in-Some.e.a.value.now w.in-Some.e.rf.value.now ∷ []) (inserted c.args.globals) (last-first _ (rw w.in-Some.is at c.requires)) w.ellps.ensures w.insert.ensures)
      | in_default w ↦ rw (w.self-is, w.out-is, w.in_default.is) pens-none
    ] in
    last_done (closing c.args.ellipsoid c.args.globals) c.requires all c.settle.ensures
