-- `moved`: a first word that is a `proj=` stays in front; another changes places.
use Rattle.std.proofs.Common.{sym, ◌∙◌}
use Rattle.proj_words.proofs.Heads.{moved-front, moved-first, moved-none}
use Rattle.proj_words.proofs.exchange.moved.Goals as goal

pub returns-in_err-word : goal.returns-in_err-word
returns-in_err-word c = moved-none c.in_err-word.was c.from_residual.ensures

pub returns-then-is_proj : goal.returns-then-is_proj
returns-then-is_proj c = moved-front c.in_ok-word.was (sym c.is_proj.ensures ∙ c.if-is_proj.true)

pub returns : goal.returns
returns c = moved-first c.in_ok-word.was (sym c.is_proj.ensures ∙ c.if-is_proj.false)
