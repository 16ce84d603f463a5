-- `is_gap`: the two tests are those of `gap`.
use borrow.Author.Tests.{eq-eqb, ne_eqb}
use Rattle.proj_words.specs.Clean.{gap}
use Rattle.proj_words.proofs.clean.is_gap.Goals as goal

pub returns-then-b-eq32 : goal.returns-then-b-eq32
unfolding gap
returns-then-b-eq32 c = simp (eq-eqb _ _ c.if-b-eq32.true)

pub returns-else-b-eq32 : goal.returns-else-b-eq32
unfolding gap
returns-else-b-eq32 c = simp (ne_eqb _ _ c.if-b-eq32.false)
