use Rattle.std.proofs.Common.{sym, ◌∙◌}
use Rattle.rules.specs.Text.Ascii.{ascii}
use Rattle.proj_words.proofs.Heads.{seek-none, seek_found, seek-init, seek-on}
use Rattle.proj_words.proofs.exchange.first_proj.Goals as goal

pub returns-then-is_proj : goal.returns-then-is_proj
returns-then-is_proj c = seek_found c.loop-word.invariant.2 c.in-Some.word c.in-Some.ensures.steps (sym c.is_proj.ensures ∙ c.if-is_proj.true)

pub loop-word-preserved-then-has_key : goal.loop-word-preserved-then-has_key
unfolding ascii
loop-word-preserved-then-has_key c = (tt, tt, seek-init c.loop-word.invariant.2 c.in-Some.word c.in-Some.ensures.steps (sym c.is_proj.ensures ∙ c.if-is_proj.false) (sym c.has_key.ensures ∙ c.if-has_key.true))

pub loop-word-preserved : goal.loop-word-preserved
unfolding ascii
loop-word-preserved c = (tt, tt, seek-on c.loop-word.invariant.2 c.in-Some.word c.in-Some.ensures.steps (sym c.is_proj.ensures ∙ c.if-is_proj.false) (sym c.has_key.ensures ∙ c.if-has_key.false))

pub returns : goal.returns
returns c = seek-none c.loop-word.invariant.2 c.in-None.ensures.steps.0
