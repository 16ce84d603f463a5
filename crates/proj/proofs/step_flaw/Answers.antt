-- `step_flaw`: the tests are those of a faulty step, 3, 4, 5 in their order: `init=` before `proj=`, a pipeline in a later step, and words
-- that are all `inv` with no globals and nothing inverted.
use Rattle.std.proofs.Common.{◌≡◌, false, not, ◌&&◌, sym, ◌∙◌, length, eqb, ltb}
use mathlib.Core.Bool.{and-false}
use borrow.Author.Tests.{le-ltb}
use Rattle.proj_steps.specs.Plans.{said}
use Rattle.proj.proofs.Flaws.{flaw-only, flaw-none}
use Rattle.proj.proofs.step_flaw.Goals as goal
use Rattle.proj.proofs.step_flaw.Goals.{else-place-gt1-via-then-place-gt1+else-head-2, else-place-gt1-via-else-place-gt1}
use Rattle.proj.proofs.step_flaw.Goals.{else-marks_of-via-then-marks_of+then-is_empty+else-not-pipe, else-marks_of-via-then-marks_of+else-is_empty, else-marks_of-via-else-marks_of}

pub returns-then-not-pipe : goal.returns-then-not-pipe
returns-then-not-pipe c =
    let outer : (ltb 1 c.args.place && c.head_of-head.result.pipeline) ≡ false = elim c.else-place-gt1.branch [
      | else-place-gt1-via-then-place-gt1+else-head-2 w ↦ rw w.if-head-2.false (and-false _)
      | else-place-gt1-via-else-place-gt1 w ↦ rw (le-ltb 1 c.args.place w.if-place-gt1.false)
    ] in
    flaw-only (said c.args.pipe) c.args.place c.head_of-head.ensures c.if-head.false outer c.marks_of.ensures
    (rw (c.if-marks_of.true, sym c.is_empty.ensures ∙ c.if-is_empty.true, c.if-not-pipe.true))

pub returns : goal.returns
returns c =
    let outer : (ltb 1 c.args.place && c.head_of-head.result.pipeline) ≡ false = elim c.else-place-gt1.branch [
      | else-place-gt1-via-then-place-gt1+else-head-2 w ↦ rw w.if-head-2.false (and-false _)
      | else-place-gt1-via-else-place-gt1 w ↦ rw (le-ltb 1 c.args.place w.if-place-gt1.false)
    ] in
    let bare : (c.marks_of.result.only && (eqb (length c.args.pipe.globals.now) 0 && not c.args.pipe.inverted)) ≡ false = elim c.else-marks_of.branch [
      | else-marks_of-via-then-marks_of+then-is_empty+else-not-pipe w ↦ rw (w.if-not-pipe.false, and-false (eqb (length c.args.pipe.globals.now) 0)) (and-false _)
      | else-marks_of-via-then-marks_of+else-is_empty w ↦ rw (sym w.is_empty.ensures ∙ w.if-is_empty.false) (and-false _)
      | else-marks_of-via-else-marks_of w ↦ rw w.if-marks_of.false
    ] in
    flaw-none (said c.args.pipe) c.args.place c.head_of-head.ensures c.if-head.false outer c.marks_of.ensures bare
