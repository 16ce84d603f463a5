use mathlib.Core.Path.{sym, ◌∙◌}
use native.Mathlib.Omega.{arith}
use Rattle.laws_text.specs.Walk.{walk-ahead}
use Rattle.split.proofs.Lines.{lines_start, lines-many, lines-all, lines-room, lines-only, lines_more}
use borrow.Author.Rules.{rules}
use Rattle.split.proofs.lines_of.Goals as goal

pub loop-from-init : goal.loop-from-init
loop-from-init c = lines_start _ _ c.requires

pub slice_bounds-line_at-count : goal.slice_bounds-line_at-count
slice_bounds-line_at-count c =
    let h = walk-ahead _ _ _ _ _ (sym c.next_from.ensures ∙ c.in-Some.is) in
    omega (arith, h.longer)

pub slice_bounds-line_at-start : goal.slice_bounds-line_at-start
slice_bounds-line_at-start c =
    let h = walk-ahead _ _ _ _ _ (sym c.next_from.ensures ∙ c.in-Some.is) in
    search (rules, h)

pub slice_bounds-line_at-end : goal.slice_bounds-line_at-end
slice_bounds-line_at-end c =
    let h = walk-ahead _ _ _ _ _ (sym c.next_from.ensures ∙ c.in-Some.is) in
    search (rules, h)

pub line_at-requires : goal.line_at-requires
line_at-requires c =
    lines-room c.loop-from.invariant (sym c.next_from.ensures ∙ c.in-Some.is)

pub returns-in_default-line_at : goal.returns-in_default-line_at
returns-in_default-line_at c =
    lines-only c.loop-from.invariant (sym c.next_from.ensures ∙ c.in-Some.is) c.line_at.ensures c.in_default-line_at.is

pub loop-from-smaller : goal.loop-from-smaller
loop-from-smaller c =
    let h = walk-ahead _ _ _ _ _ (sym c.next_from.ensures ∙ c.in-Some.is) in
    omega (arith, h.ahead, h.longer, h.within, h.goes_on)

pub loop-from-preserved : goal.loop-from-preserved
loop-from-preserved c =
    lines_more c.loop-from.invariant (sym c.next_from.ensures ∙ c.in-Some.is) c.line_at.ensures c.in-Some-line_at.is

pub returns-then-n-gt64 : goal.returns-then-n-gt64
returns-then-n-gt64 c =
    lines-many c.loop-from.invariant (sym c.next_from.ensures ∙ c.in_default.is) c.if-n-gt64.true

pub returns : goal.returns
returns c =
    lines-all c.loop-from.invariant (sym c.next_from.ensures ∙ c.in_default.is) c.if-n-gt64.false
