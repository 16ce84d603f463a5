-- `judge_text`: each test that a text does not pass is one that the table of its parameters makes too; what passes them all is judged by its words as
-- they are cut, which stand in b with `_nametrue` behind them.
use mathlib.Core.Path.{refl, sym, ◌∙◌}
use Rattle.prepare.proofs.StepByStep.{line-some}
use Rattle.prepare.proofs.StepText.{text-parted, text-blank, text-modifiers, text-cut, line-room, has-line, no_line, behind-room, cut-spelt, cut_short, cut-words, cut-joined}
use Rattle.prepare.proofs.judge.judge_text.Goals as goal

pub returns-then-e-s : goal.returns-then-e-s
returns-then-e-s c = text-parted _ c.run_end-e.ensures c.if-e-s.true refl

pub returns-then-is_blank : goal.returns-then-is_blank
returns-then-is_blank c =
    text-blank _ c.run_end-e.ensures c.if-e-s.false (sym c.is_blank.ensures ∙ c.if-is_blank.true) refl

pub line_at-requires : goal.line_at-requires
line_at-requires c =
    line-room c.args.s.now c.requires.s_in_bounds

pub returns-in_default : goal.returns-in_default
returns-in_default c =
    text-modifiers _ c.run_end-e.ensures c.if-e-s.false (sym c.is_blank.ensures ∙ c.if-is_blank.false) (no_line _ _ _ _ c.line_at.ensures c.in_default.is) refl

pub overflow_sub-n : goal.overflow_sub-n
overflow_sub-n c = line-some _ (has-line _ _ _ _ c.line_at.ensures c.in-Some.is).wrote

pub put-m-requires : goal.put-m-requires
put-m-requires c =
    behind-room c.args.s.now (has-line _ _ _ _ c.line_at.ensures c.in-Some.is) c.requires.s_in_bounds c.line_at.auto.dst

pub invariant_of-judge_cut : goal.invariant_of-judge_cut
invariant_of-judge_cut c =
    let has = has-line _ _ _ _ c.line_at.ensures c.in-Some.is in
    record { spelt = cut-spelt c.args.s.now has c.put-m.ensures }

pub judge_cut-requires : goal.judge_cut-requires
judge_cut-requires c =
    let has = has-line _ _ _ _ c.line_at.ensures c.in-Some.is in
    record { spaced = cut-joined c.args.s.now has c.put-m.ensures; small = cut_short c.args.s.now has c.put-m.ensures c.requires.s_len_bound }

pub returns : goal.returns
returns c =
    let has = has-line _ _ _ _ c.line_at.ensures c.in-Some.is in
    text-cut _ c.run_end-e.ensures c.if-e-s.false (sym c.is_blank.ensures ∙ c.if-is_blank.false) has.other (cut-words c.args.s.now has c.put-m.ensures) c.judge_cut.ensures
