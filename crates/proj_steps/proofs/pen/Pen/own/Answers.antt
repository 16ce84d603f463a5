-- `own`: the word as it is, or the scale, is the element; behind the first the globals are inserted.
use Rattle.std.proofs.Common.{◌∷◌, []}
use Rattle.proj_steps.specs.Pens.{Pens, inserted, text_of}
use Rattle.proj_steps.proofs.Penned.{pens-first, pens-then, pens-both}
use Rattle.proj_steps.proofs.pen.Pen.own.Goals as goal
use Rattle.proj_steps.proofs.pen.Pen.own.Goals.{in-Plain, in-Scale}

pub element-requires : goal.element-requires
element-requires c = pens-first (c.in-Plain.x.now ∷ []) (inserted c.args.globals) (rw c.in-Plain.is at c.requires)

pub scaled-requires : goal.scaled-requires
scaled-requires c = pens-first (_ ∷ []) (inserted c.args.globals) (rw c.in-Scale.is at c.requires)

pub insert-requires : goal.insert-requires
insert-requires c =
    let first : Pens (text_of c.args.element ∷ []) c.args.self.now c.args.out.now c.match-element.self c.match-element.out = elim c.match-element.branch [
      | in-Plain w ↦ rw (w.self-is, w.out-is, w.in-Plain.is) w.element.ensures
      | in-Scale w ↦ rw (w.self-is, w.out-is, w.in-Scale.is) w.scaled.ensures
    ] in
    pens-then (text_of c.args.element ∷ []) (inserted c.args.globals) c.requires first

pub returns : goal.returns
returns c =
    let first : Pens (text_of c.args.element ∷ []) c.args.self.now c.args.out.now c.match-element.self c.match-element.out = elim c.match-element.branch [
      | in-Plain w ↦ rw (w.self-is, w.out-is, w.in-Plain.is) w.element.ensures
      | in-Scale w ↦ rw (w.self-is, w.out-is, w.in-Scale.is) w.scaled.ensures
    ] in
    pens-both (text_of c.args.element ∷ []) (inserted c.args.globals) c.requires first c.insert.ensures
