-- `marks_of`: the marks so far, joined to those of the words that are left, are the marks of all (`Marking`).
use Rattle.proj_words.specs.Heads.{coming}
use Rattle.proj_words.proofs.Facts.{Marking}
use Rattle.proj_words.proofs.exchange.marks_of.Given as goal

abbrev pub invariant-loop-word : goal.invariant-loop-word
invariant-loop-word l =
    (goal.iterator-loop-word).can_next l.word-iterator ×
    (goal.iterator-loop-word).is_finite l.word-iterator ×
    Marking (coming l.words) (coming l.word-iterator) l.marks
