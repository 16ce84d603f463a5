-- `first_proj`: no word so far is a `proj=`, and `init` tells whether one is an `init=` (`Seeking`).
use Rattle.rules.specs.Text.Bytes.{words}
use Rattle.proj_words.specs.Words.{left}
use Rattle.proj_words.proofs.Heads.{Seeking}
use Rattle.proj_words.proofs.exchange.first_proj.Given as goal

abbrev pub invariant-loop-word : goal.invariant-loop-word
invariant-loop-word l =
    (goal.iterator-loop-word).can_next l.word-iterator ×
    (goal.iterator-loop-word).is_finite l.word-iterator ×
    Seeking (words l.s) (left l.word-iterator) l.init
