-- `globals_into`: the words so far but `inv` are written, one space apart, and those that are left are to come (`Gathering`).
use Rattle.proj_words.specs.Heads.{coming}
use Rattle.proj_steps.proofs.Globals.{Gathering}
use Rattle.proj_steps.proofs.step.globals_into.Given as goal

abbrev pub invariant-loop-word : goal.invariant-loop-word
invariant-loop-word l =
    (goal.iterator-loop-word).can_next l.word-iterator ×
    (goal.iterator-loop-word).is_finite l.word-iterator ×
    Gathering l.s l.initial.dst l.pen (coming l.word-iterator) l.dst
