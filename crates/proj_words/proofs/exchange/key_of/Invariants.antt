-- `key_of`: so many of the words so far begin with the key, and what follows it in the last (`Keying`).
use Rattle.proj_words.specs.Heads.{coming}
use Rattle.proj_words.proofs.Facts.{Keying}
use Rattle.proj_words.proofs.exchange.key_of.Given as goal

abbrev pub invariant-loop-word : goal.invariant-loop-word
invariant-loop-word l =
    (goal.iterator-loop-word).can_next l.word-iterator ×
    (goal.iterator-loop-word).is_finite l.word-iterator ×
    Keying (coming l.words) (coming l.word-iterator) l.key l.count l.last
