-- The rules strip comments as the source does, once the text is normalised, and the normal form from which they cut the steps of a PROJ text is the source's.
use Rattle.std.specs.Prelude.{◌≡◌, []}
use Rattle.std.proofs.Common.{sym, ap}
use Rattle.rules.specs.Text.Bytes.{Bytes, white, trimmed}
use Rattle.rules.specs.Text.Normal.{continued, normal}
use Rattle.rules.specs.Text.Comments.{newlines, lined, stripped}
use Rattle.rules.specs.Text.Split.{steps_of, steps}
use Rattle.rules.specs.Text.Reader.{definition}
use Rattle.rules.specs.Proj.Words.{unplussed}
use Rattle.laws_source.specs.Strings.{lines}
use Rattle.laws_source.specs.Readers.{loop, continue, all_comments, comments_turn, remove_comments_by, remove_comments, all_proj, proj_turn, collect_proj_by, collect_proj}
use Rattle.laws_source.proofs.LineWords.{Adds, Keeps, proj-adds, comments-adds, same-words, lined-line, proj-keeps, comments-keeps, collected-lines}
use Rattle.laws_source.proofs.Normalised.{normal-words}

-- what a reader collects of a text's lines, and `lined`
normal-lines : (turn : Bytes → Bytes → Bytes) → Adds turn → Keeps turn → (t : Bytes) → normal (loop turn [] (lines t)) ≡ normal (lined t)
normal-lines turn f k t = normal-words (loop turn [] (lines t)) (lined t) (collected-lines turn k t) (lined-line t) (same-words turn f t)

-- `stripped` and `remove_comments` agree once normalised.
pub comments-stripped : (t : Bytes) → normal (remove_comments t) ≡ normal (stripped t)
unfolding remove_comments remove_comments_by all_comments stripped continued newlines
comments-stripped t = normal-lines (comments_turn continue) (comments-adds continue) (comments-keeps continue) (continued (newlines (trimmed white t)))

-- So the normalised definition is the source's, and the steps that are cut from it are cut from the source's.
pub definition-stripped : (t : Bytes) → definition t ≡ normal (remove_comments t)
unfolding definition
definition-stripped t = sym (comments-stripped t)

pub steps-stripped : (t : Bytes) → steps t ≡ steps_of (normal (remove_comments t))
unfolding steps
steps-stripped t = ap steps_of (sym (comments-stripped t))

-- `lined` and the lines that `parse_proj` collects agree once normalised, too.
pub proj-lined : (t : Bytes) → normal (collect_proj t) ≡ normal (lined (unplussed (newlines t)))
unfolding collect_proj collect_proj_by all_proj unplussed newlines
proj-lined t = normal-lines (proj_turn continue) (proj-adds continue) (proj-keeps continue) (unplussed (newlines t))
