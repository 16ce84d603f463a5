-- What the program `steps` prints: "reads a definition .., translates, splits, prepares, then checks forward and inverse, printing
-- as each answers".
use Rattle.std.specs.Prelude.{ℕ, suc, Bool, true, false, cond, List, [], ◌∷◌, ◌++◌, length, ltb}
use Rattle.rules.specs.Text.Ascii.{ascii, is}
use Rattle.rules.specs.Text.Bytes.{Bytes}
use Rattle.rules.specs.Text.Refusal.{Reply, answers, refuses, refuses12, and_then, tested}
use Rattle.rules.specs.Text.Split.{line, split}
use Rattle.rules.specs.Proj.Translate.{translate}
use Rattle.rules.specs.Text.Numerals.{digits}
use Rattle.rules.specs.Pipeline.Prepare.{prepare_as}
use Rattle.rules.specs.Pipeline.Check.{nth, check}
use Rattle.rules.specs.declared.Reading.{Reading}
use Rattle.rules.specs.declared.Mode.{Mode}
use Rattle.rules.specs.declared.Step.{Step}
use Rattle.rules.specs.declared.Place.{Place}
use Rattle.rules.specs.declared.Direction.TheVariants.{Forward, Inverse}
use Rattle.rules.specs.declared.Verdict.{Verdict}
use Rattle.rules.specs.declared.Verdict.TheVariants.{Passes, TooFew, TooMany, Refused}
use Rattle.rules.specs.declared.Foretold.{Foretold}

-- a word and a number behind it
unfoldable pub counted : Bytes → ℕ → Bytes
counted word n = word ++ digits n

-- ---- refusals

-- "`refused 6 2`: number, place"
unfoldable pub refusal_text : ℕ → ℕ → Bytes
refusal_text n place = counted (ascii "refused ") n ++ counted (ascii " ") place

-- "`refused 12 2 15`: number, place, offset"
unfoldable pub offset_text : ℕ → ℕ → Bytes
offset_text place offset = refusal_text 12 place ++ counted (ascii " ") offset

-- what is printed of an answer; "A refusal ends its output with a line"
unfoldable pub or_refused : {A : Type 0} → Reply A → (A → Bytes) → Bytes
or_refused (answers x) next = next x
or_refused (refuses n place) next = line (refusal_text n place)
or_refused (refuses12 place offset) next = line (offset_text place offset)

-- a text call that is lent 65,536 bytes: 7 where "the whole answer is longer than the lent buffer"
unfoldable pub called : (Bytes → Reply Bytes) → Bytes → Reply Bytes
called own text = and_then (tested own text) (λ t. cond (ltb 65536 (length t)) (refuses 7 0) (answers t))

-- ---- the checks

-- a place with its sign, behind a word
unfoldable pub signed_place : Bytes → Place → Bytes
signed_place word p = counted (word ++ cond p.minus (ascii "-") []) p.axis

-- two places, and four: " places 2,-1,3,4"
unfoldable pub two_places : Bytes → Place → Place → Bytes
two_places word p q = signed_place word p ++ signed_place (ascii ",") q

unfoldable pub four_places : List Place → Bytes
four_places l = two_places (ascii " places ") (nth l 0) (nth l 1) ++ two_places (ascii ",") (nth l 2) (nth l 3)

-- "Where an `adapt` step runs, the line ends after the columns left."
unfoldable pub pass_text : Foretold → Bytes
pass_text f = (counted (ascii "deepest ") f.deepest ++ counted (ascii " left ") f.left) ++ cond f.told (four_places f.places) []

-- "A failed check prints .. the step and too few or too many". (A table that was prepared is never refused.)
unfoldable pub verdict_text : Verdict → Foretold → Bytes
verdict_text Passes f = pass_text f
verdict_text (TooFew k) f = counted (ascii "step ") k ++ ascii " too few"
verdict_text (TooMany k) f = counted (ascii "step ") k ++ ascii " too many"
verdict_text (Refused n k) f = refusal_text n k

-- a check's line, "after its direction"
unfoldable pub verdict_line : Bytes → Foretold → Bytes
verdict_line direction f = line (direction ++ verdict_text f.verdict f)

-- "checks forward and inverse"
unfoldable pub both_checks : List Step → Bytes
both_checks ss = verdict_line (ascii "forward: ") (check Forward ss) ++ verdict_line (ascii "inverse: ") (check Inverse ss)

-- "prepares, then checks": preparing prints nothing where it answers
unfoldable pub shown_checks : Reading → Mode → Bytes → Bytes
shown_checks r m t = or_refused (tested (prepare_as r m) t) both_checks

-- ---- the steps

-- what stands before step k
unfoldable pub heading : ℕ → Bytes
heading k = counted (ascii "step ") k ++ ascii ": "

-- the lines that splitting writes, each behind its heading: step k is in turn, and its line has begun or not
unfoldable pub headed : ℕ → Bool → Bytes → Bytes
headed k begun [] = []
headed k begun (x ∷ t) = cond begun [] (heading k) ++ (x ∷ cond (is "\n" x) (headed (suc k) false t) (headed k true t))

-- "splits", and what follows
unfoldable pub shown_steps : Reading → Mode → Bytes → Bytes
shown_steps r m t = or_refused (called split t) (λ lines. headed 1 false lines ++ shown_checks r m t)

-- ---- the whole

-- "translates", and what follows
unfoldable pub translated_line : Bytes → Bytes
translated_line t = line (ascii "translated: " ++ t)

-- (`steps` reads a definition as the crate does, `steps --proj` as PROJ does, `steps --documented` in the documented mode)
unfoldable pub shown : Reading → Mode → Bytes → Bytes
shown r m text = or_refused (called translate text) (λ t. translated_line t ++ shown_steps r m t)
