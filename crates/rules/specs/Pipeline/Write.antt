-- The text of a step record: the operator's name, its arguments, its marks, with one space between. And the call `write`.
use Rattle.std.specs.Prelude.{ℕ, suc, ◌+◌, cond, List, [], ◌∷◌, ◌++◌, map, length, ℤ, Option, None, Some}
use Prim.Native.String.{String}
use Rattle.rules.specs.Text.Ascii.{ascii}
use Rattle.rules.specs.Text.Bytes.{Bytes, Words, joined_by, joined}
use Rattle.rules.specs.Text.Refusal.{Reply, answers, refuses}
use Rattle.rules.specs.Operators.Descriptions.{Operator}
use Rattle.rules.specs.Operators.Table.{describe}
use Rattle.rules.specs.Pipeline.Record.{operator, args, is_set, refusal18}
use Rattle.rules.specs.declared.Span.{Span}
use Rattle.rules.specs.declared.Step.{Step}

-- ---- words

unfoldable pub name_word : Operator → Bytes
name_word o = ascii (describe o).name

unfoldable pub arg_words : Operator → List ℤ → Words
arg_words o l = (describe o).words l

unfoldable pub operator_words : Operator → List ℤ → Words
operator_words o l = name_word o ∷ arg_words o l

-- a mark that is set
unfoldable pub mark_word : String → ℕ → Words
mark_word key mark = cond (is_set mark) (ascii key ∷ []) []

unfoldable pub mark_words : Step → Words
mark_words s = mark_word "inv" s.inv ++ (mark_word "omit_fwd" s.omit_fwd ++ mark_word "omit_inv" s.omit_inv)

-- ---- the step, and a table of them

unfoldable pub step_words : Step → Words
step_words s = operator_words (operator s) (args s) ++ mark_words s

unfoldable pub writing : Step → Bytes
writing s = joined (step_words s)

-- the texts with ` | ` between
unfoldable pub table_writing : List Step → Bytes
table_writing l = joined_by (ascii " | ") (map writing l)

-- where the steps of that text stand once it is normalised, ` | ` being one byte then: texts that follow each other from a place on
unfoldable pub spans_in_turn : ℕ → List Bytes → List Span
spans_in_turn place [] = []
spans_in_turn place (t ∷ ts) = record { from = place; length = length t } ∷ spans_in_turn (place + suc (length t)) ts

unfoldable pub written_spans : List Step → List Span
written_spans l = spans_in_turn 0 (map writing l)

-- ---- the call `write`

-- 18 at its place, and else the text
unfoldable pub written_unless18 : Option ℕ → Bytes → Reply Bytes
written_unless18 None text = answers text
written_unless18 (Some place) text = refuses 18 place

unfoldable pub write : List Step → Reply Bytes
write l = written_unless18 (refusal18 l) (table_writing l)
