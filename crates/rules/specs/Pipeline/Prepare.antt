-- Preparing: from a text to its step records, or the refusal.
use Rattle.rules.specs.declared.Refusal.{Refusal}
use Rattle.std.specs.Prelude.{ℕ, suc, cond, List, [], ◌∷◌, map, length, ltb, ℤ, Option, None, Some, Result}
use Prim.Native.String.{String}
use Rattle.rules.specs.Text.Ascii.{ascii}
use Rattle.rules.specs.Text.Lists.{any_of}
use Rattle.rules.specs.Text.Bytes.{Bytes, Words, words}
use Rattle.rules.specs.Text.Refusal.{Reply, answers, refuses, refuses12, and_then, prepared, Promised}
use Rattle.rules.specs.Text.Split.{steps, split_steps}
use Rattle.rules.specs.Text.Reader.{spans}
use Rattle.rules.specs.Text.Normal.{normal}
use Rattle.rules.specs.Text.Parameters.{Parameter, table_of, parameters_of, placed_table}
use Rattle.rules.specs.Operators.Arguments.{value_of, is_given}
use Rattle.rules.specs.Operators.Descriptions.{Operator, Chosen}
use Rattle.rules.specs.Operators.Table.{number_of, wording_of, name_of}
use Rattle.rules.specs.Pipeline.Record.{step_with, in_reading, with_spans}
use Rattle.rules.specs.Pipeline.Keys.{kind_of, unknown, misspelt, too_long}
use Rattle.rules.specs.Pipeline.Offsets.{offset_by}
use Rattle.rules.specs.declared.Reading.{Reading}
use Rattle.rules.specs.declared.Mode.{Mode}
use Rattle.rules.specs.declared.Mode.TheVariants as mode
use Rattle.rules.specs.declared.Step.{Step}
use Rattle.rules.specs.declared.Name.{Name}

-- ---- the record of one step

unfoldable pub mark : String → List Parameter → ℕ
mark key ps = cond (is_given key ps) 1 0

-- the operator and its arguments, and the marks from the parameters
unfoldable pub record_of : Operator → List Parameter → List ℤ → Step
record_of o ps l = step_with (number_of o) l (mark "inv" ps) (mark "omit_fwd" ps) (mark "omit_inv" ps)

unfoldable pub recorded : List Parameter → Option Chosen → Option Step
recorded ps None = None
recorded ps (Some c) = Some (record_of c.operator ps c.arguments)

-- the record that the operator's own rule gives; none for 14, "the operator's own rule is broken"
unfoldable pub own_rule : Mode → Name → List Parameter → Option Step
own_rule m n ps = recorded ps ((wording_of n).chosen m ps)

-- ---- one step

-- "judging 14 only if no other applies"
unfoldable pub judged14 : Option Step → Reply Step
judged14 None = refuses 14 0
judged14 (Some s) = answers s

-- "its lowest number of .. 9 to 14": 11, 12, 13, then 14
unfoldable pub judged11 : Mode → Name → List Parameter → Reply Step
judged11 m n ps =
    cond (any_of (unknown n) ps) (refuses 11 0)
    (cond (any_of (λ (p : Parameter). misspelt (kind_of n p) p.value) ps) (refuses12 0 0)
    (cond (any_of (λ (p : Parameter). too_long (kind_of n p) p.value) ps) (refuses 13 0)
    (judged14 (own_rule m n ps))))

-- 10: "no operator name, or not one of the five"
unfoldable pub named : Option Bytes → Option Name
named None = None
named (Some value) = name_of value

unfoldable pub judged10 : Mode → Option Name → List Parameter → Reply Step
judged10 m None ps = refuses 10 0
judged10 m (Some n) ps = judged11 m n ps

unfoldable pub judged : Mode → List Parameter → Reply Step
judged m ps = judged10 m (named (value_of (ascii "_name") ps)) ps

-- the offset of its refusal 12: of a step's words, and of its text, which is normalised again
unfoldable pub offset_of : Words → ℕ
offset_of ws = offset_by (named (value_of (ascii "_name") (table_of ws))) (placed_table ws)

unfoldable pub offset_in : Bytes → ℕ
offset_in t = offset_of (words (normal t))

-- "A refusal returns .. a place: that of the faulty step"; "12 gains the offset"
unfoldable pub at_step : ℕ → ℕ → Reply Step → Reply Step
at_step place offset (answers s) = answers s
at_step place offset (refuses number nowhere) = refuses number place
at_step place offset (refuses12 nowhere unknown) = refuses12 place offset

-- one step's text at its place: 1, "in preparing one step's text, is over 4,096 bytes"; then 6 and 9 as it is cut into
-- parameters, then 10 to 14
unfoldable pub prepare_step : Mode → ℕ → Bytes → Reply Step
prepare_step m place t =
    at_step place (offset_in t) (cond (ltb 4096 (length t)) (refuses 1 0) (and_then (parameters_of t) (judged m)))

-- ---- all steps

-- "takes the first faulty step": the steps' texts, the first of them at `place`
unfoldable pub prepare_steps : Mode → ℕ → List Bytes → Reply (List Step)
prepare_steps m place [] = answers []
prepare_steps m place (t ∷ ts) =
    and_then (prepare_step m place t) (λ s. and_then (prepare_steps m (suc place) ts) (λ l. answers (s ∷ l)))

-- "Preparing splits first"; "a documented mode, chosen for a whole preparation": the records, which do not tell yet where their texts stand
unfoldable pub prepare_split : Mode → Bytes → Reply (List Step)
prepare_split m t = and_then (split_steps (steps t)) (prepare_steps m 1)

-- "Each step record gains the first byte and length of its text in the normalised definition"
unfoldable pub prepare_in : Mode → Bytes → Reply (List Step)
prepare_in m t = and_then (prepare_split m t) (λ l. answers (with_spans (spans t) l))

-- the call `prepare`: "The crate's mode stays the default"
unfoldable pub prepare : Bytes → Reply (List Step)
prepare t = prepare_in mode.Crate t

-- the call `prepare_as`: "a second reading, named PROJ, beside the crate's". The records are the same, but that each names the reading.
unfoldable pub prepare_as : Reading → Mode → Bytes → Reply (List Step)
prepare_as r m t = and_then (prepare_in m t) (λ l. answers (map (in_reading r) l))

-- what preparing promises: the answer, and the lent step table afterwards
abbrev pub Prepares : Bytes → List Step → Result ℕ Refusal → List Step → Type 0
Prepares text table result table' = Promised prepared prepare text table result table'

abbrev pub PreparesAs : Reading → Mode → Bytes → List Step → Result ℕ Refusal → List Step → Type 0
PreparesAs r m text table result table' = Promised prepared (prepare_as r m) text table result table'
