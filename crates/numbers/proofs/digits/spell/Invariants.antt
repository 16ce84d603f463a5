-- `spell`: from k on stand the last digits of n, and m is what is left of n without them (`Spelling`).
use Rattle.numbers.proofs.Spelt.{Spelling}
use Rattle.numbers.proofs.digits.spell.Given as goal

abbrev pub invariant-loop-k : goal.invariant-loop-k
invariant-loop-k l = Spelling l.n l.m l.k l.buf
