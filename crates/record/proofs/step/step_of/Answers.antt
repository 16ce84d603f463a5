-- `step_of`: the slots behind the first n hold zeros, so the row of eight is these n arguments and zeros, as `step_with` has it (`step_so`).
use Rattle.record.proofs.StepMade.{marked, step_so}
use Rattle.rules.specs.Pipeline.Record.{reading_number}
use Rattle.record.proofs.step.step_of.Goals as goal

pub returns : goal.returns
unfolding reading_number
returns c =
    step_so c.args.operator c.args.args c.args.n _ _ _ c.well_formed.1.0.1.0.1 c.requires.n_bound c.requires.args_value (marked _ c.from.ensures) (marked _ c.from-2.ensures) (marked _ c.from-3.ensures)
