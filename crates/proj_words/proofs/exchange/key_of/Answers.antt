use Rattle.std.proofs.Common.{sym, ◌∙◌, arith, rules, length}
use Rattle.laws_proj.specs.Tests.{starts-long}
use Rattle.std.proofs.lemmas.List.{take_rest}
use Rattle.proj_words.specs.Heads.{coming}
use Rattle.proj_words.proofs.Facts.{keying-start, keying-none, keying-some, keying-few, keying-more, keying-next}
use Rattle.proj_words.proofs.exchange.key_of.Goals as goal

pub loop-word-init : goal.loop-word-init
loop-word-init c = (tt, tt, rw c.into_iter-word-iterator.ensures.into_iter_gives (keying-start (coming c.args.words) c.args.key.now))

pub overflow_add-count : goal.overflow_add-count
overflow_add-count c = omega (arith, keying-few c.loop-word.invariant.2 c.in-Some.ensures.steps)

pub slice_bounds-last-count : goal.slice_bounds-last-count
slice_bounds-last-count c = starts-long _ _ (sym c.has_key.ensures ∙ c.if-has_key.true)

pub slice_bounds-last-start : goal.slice_bounds-last-start
slice_bounds-last-start c = let h = starts-long c.args.key.now c.in-Some.word.now (sym c.has_key.ensures ∙ c.if-has_key.true) in search rules

pub loop-word-preserved-then-has_key : goal.loop-word-preserved-then-has_key
loop-word-preserved-then-has_key c = (tt, tt, keying-more c.loop-word.invariant.2 c.in-Some.ensures.steps (sym c.has_key.ensures ∙ c.if-has_key.true) (take_rest c.in-Some.word.now (length c.args.key.now)))

pub loop-word-preserved : goal.loop-word-preserved
loop-word-preserved c = (tt, tt, keying-next c.loop-word.invariant.2 c.in-Some.ensures.steps (sym c.has_key.ensures ∙ c.if-has_key.false))

pub returns-in_err-last : goal.returns-in_err-last
returns-in_err-last c = rw c.from_residual.ensures (keying-none c.loop-word.invariant.2 c.in-None.ensures.steps.0 c.in_err-last.was)

pub returns : goal.returns
returns c = keying-some c.loop-word.invariant.2 c.in-None.ensures.steps.0 c.in_ok-last.was
