-- `unnoised`: a `step` is noise where another word follows it within the piece; alone it is the step's own word.
use Rattle.std.proofs.Common.{sym, ◌∙◌}
use Rattle.proj_words.proofs.Pieces.{begins-noise, begins-word, begins-alone}
use Rattle.proj_words.proofs.walk.unnoised.Goals as goal
use Rattle.proj_words.proofs.walk.unnoised.Goals.{else-to-end-via-then-to-end+else-is_step, else-to-end-via-else-to-end}

pub returns-then-is_step : goal.returns-then-is_step
returns-then-is_step c =
    begins-noise _ c.args.from c.args.to c.args.end c.if-to-end.true (sym c.is_step.ensures ∙ c.if-is_step.true)

pub returns : goal.returns
returns c = elim c.else-to-end.branch [
  | else-to-end-via-then-to-end+else-is_step w ↦
      begins-word _ c.args.from c.args.to c.args.end w.if-to-end.true (sym w.is_step.ensures ∙ w.if-is_step.false)
  | else-to-end-via-else-to-end w ↦ begins-alone _ c.args.from c.args.to c.args.end w.if-to-end.false
]
