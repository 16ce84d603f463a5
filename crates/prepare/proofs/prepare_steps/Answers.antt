use mathlib.Core.Path.{sym, ◌∙◌}
use native.Mathlib.Omega.{arith}
use borrow.Author.Rules.{rules}
use Rattle.laws_text.specs.Walk.{walk-ahead}
use Rattle.prepare.proofs.StepByStep.{line-some}
use Rattle.prepare.proofs.StepByStep.{reaches-none, reaches_end, reaches-room, reaches-only, reaches-line, reaches-refused}
use Rattle.prepare.proofs.StepByStep.{reaches-many, reaches-short, reaches-roomy, reaches_more, reaches-fault, none-yet, one-known}
use Rattle.prepare.proofs.prepare_steps.Goals as goal

pub loop-from-init : goal.loop-from-init
loop-from-init c =
    reaches-none _ _ _ _ _ _ c.requires.bare c.requires.steps_len c.requires.roomy c.requires.normal_in_bounds

pub slice_bounds-line_at-count : goal.slice_bounds-line_at-count
slice_bounds-line_at-count c =
    let h = walk-ahead _ _ _ _ _ (sym c.next_from.ensures ∙ c.in-Some.is) in
    omega (arith, h.longer)

pub slice_bounds-line_at-start : goal.slice_bounds-line_at-start
slice_bounds-line_at-start c =
    let h = walk-ahead _ _ _ _ _ (sym c.next_from.ensures ∙ c.in-Some.is) in
    search (rules, h)

pub slice_bounds-line_at-end : goal.slice_bounds-line_at-end
slice_bounds-line_at-end c =
    let h = walk-ahead _ _ _ _ _ (sym c.next_from.ensures ∙ c.in-Some.is) in
    search (rules, h)

pub line_at-requires : goal.line_at-requires
line_at-requires c =
    reaches-room c.loop-from.invariant (sym c.next_from.ensures ∙ c.in-Some.is)

pub returns-in_default-line_at : goal.returns-in_default-line_at
returns-in_default-line_at c =
    reaches-only c.loop-from.invariant (sym c.next_from.ensures ∙ c.in-Some.is) _ _ c.line_at.ensures c.in_default-line_at.is c.refusing.ensures

pub loop-from-smaller-then-is_some : goal.loop-from-smaller-then-is_some
loop-from-smaller-then-is_some c =
    let h = walk-ahead _ _ _ _ _ (sym c.next_from.ensures ∙ c.in-Some.is) in
    omega (arith, h.ahead, h.longer, h.within, h.goes_on)

pub loop-from-preserved-then-is_some : goal.loop-from-preserved-then-is_some
loop-from-preserved-then-is_some c =
    let step = sym c.next_from.ensures ∙ c.in-Some.is in
    let line = reaches-line c.loop-from.invariant step _ _ c.line_at.ensures c.in-Some-line_at.is in
    reaches-refused c.loop-from.invariant step line c.line_at.auto.dst (one-known _ c.is_some.ensures c.if-is_some.true)

pub loop-from-smaller-then-n-gt64 : goal.loop-from-smaller-then-n-gt64
loop-from-smaller-then-n-gt64 c =
    let h = walk-ahead _ _ _ _ _ (sym c.next_from.ensures ∙ c.in-Some.is) in
    omega (arith, h.ahead, h.longer, h.within, h.goes_on)

pub loop-from-preserved-then-n-gt64 : goal.loop-from-preserved-then-n-gt64
loop-from-preserved-then-n-gt64 c =
    let step = sym c.next_from.ensures ∙ c.in-Some.is in
    let line = reaches-line c.loop-from.invariant step _ _ c.line_at.ensures c.in-Some-line_at.is in
    reaches-many c.loop-from.invariant step line c.line_at.auto.dst c.if-n-gt64.true

pub overflow_sub-length : goal.overflow_sub-length
overflow_sub-length c =
    let step = sym c.next_from.ensures ∙ c.in-Some.is in
    let line = reaches-line c.loop-from.invariant step _ _ c.line_at.ensures c.in-Some-line_at.is in
    line-some _ line.wrote

pub prepare_step-requires : goal.prepare_step-requires
prepare_step-requires c =
    let step = sym c.next_from.ensures ∙ c.in-Some.is in
    let line = reaches-line c.loop-from.invariant step _ _ c.line_at.ensures c.in-Some-line_at.is in
    let all = reaches-roomy c.loop-from.invariant step line in
    record { text_in_bounds = all.0; roomy = all.1 }

-- what the reader found lies within the text, and so much is not passed; nor by the step's text as it is written out
pub spanned-requires : goal.spanned-requires
spanned-requires c =
    let step = sym c.next_from.ensures ∙ c.in-Some.is in
    let line = reaches-line c.loop-from.invariant step _ _ c.line_at.ensures c.in-Some-line_at.is in
    let h = walk-ahead _ _ _ _ _ step in record { from_le_to = omega (arith, h.longer); to_bound = omega (arith, h.within, c.requires.normal_len_bound, reaches-short c.loop-from.invariant step line) }

pub loop-from-smaller-in-Ok : goal.loop-from-smaller-in-Ok
loop-from-smaller-in-Ok c =
    let h = walk-ahead _ _ _ _ _ (sym c.next_from.ensures ∙ c.in-Some.is) in
    omega (arith, h.ahead, h.longer, h.within, h.goes_on)

pub loop-from-preserved-in-Ok : goal.loop-from-preserved-in-Ok
loop-from-preserved-in-Ok c =
    let step = sym c.next_from.ensures ∙ c.in-Some.is in
    let line = reaches-line c.loop-from.invariant step _ _ c.line_at.ensures c.in-Some-line_at.is in
    let none = none-yet _ c.is_some.ensures c.if-is_some.false in
    reaches_more c.loop-from.invariant step line none c.if-n-gt64.false c.in-Ok.ensures c.spanned.ensures c.prepare_step.auto.a c.prepare_step.auto.b
    c.line_at.auto.dst

pub loop-from-smaller : goal.loop-from-smaller
loop-from-smaller c =
    let h = walk-ahead _ _ _ _ _ (sym c.next_from.ensures ∙ c.in-Some.is) in
    omega (arith, h.ahead, h.longer, h.within, h.goes_on)

pub loop-from-preserved : goal.loop-from-preserved
loop-from-preserved c =
    let step = sym c.next_from.ensures ∙ c.in-Some.is in
    let line = reaches-line c.loop-from.invariant step _ _ c.line_at.ensures c.in-Some-line_at.is in
    let none = none-yet _ c.is_some.ensures c.if-is_some.false in
    reaches-fault c.loop-from.invariant step line none c.if-n-gt64.false _ c.in-Err.ensures c.offset_of.ensures c.prepare_step.auto.a c.prepare_step.auto.b
    c.line_at.auto.dst

pub returns : goal.returns
returns c =
    reaches_end c.loop-from.invariant (sym c.next_from.ensures ∙ c.in_default.is) c.answer_of.ensures
