use Rattle.std.proofs.Common.{sym, ◌∙◌, arith}
use Rattle.proj_words.proofs.Words.{word-further, word-within}
use Rattle.proj_words.proofs.Pieces.{piecing-start, piece-last, piece-ends, piece-more}
use Rattle.proj_words.proofs.walk.piece_from.Goals as goal

pub loop-word-init : goal.loop-word-init
loop-word-init c = piecing-start _ _ c.requires.k_in_bounds c.requires.n_value

pub returns-then-is_step : goal.returns-then-is_step
returns-then-is_step c = piece-ends c.loop-word.invariant c.in-Some.ensures (sym c.is_step.ensures ∙ c.if-is_step.true)

pub loop-word-smaller : goal.loop-word-smaller
loop-word-smaller c = omega (arith, word-further c.in-Some.ensures, word-within c.in-Some.ensures)

pub loop-word-preserved : goal.loop-word-preserved
loop-word-preserved c = piece-more c.loop-word.invariant c.in-Some.ensures (sym c.is_step.ensures ∙ c.if-is_step.false)

pub returns : goal.returns
returns c = piece-last c.loop-word.invariant c.in_default.ensures
