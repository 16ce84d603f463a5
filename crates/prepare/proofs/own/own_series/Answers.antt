-- The record where the numbers are whole and keep the rule; 14 where one of the two is not so.
use mathlib.Core.Path.{refl, sym, ap, ◌∙◌}
use Rattle.laws_lists.specs.Tests.{not_so, not_left}
use Rattle.rules.specs.Text.Refusal.{answers}
use Rattle.prepare.proofs.Recorded.{args-length}
use Rattle.prepare.proofs.OwnRules.{series-part, series-broken, series-kept}
use Rattle.prepare.proofs.own.own_series.Goals as goal

pub returns-then-not-numbers : goal.returns-then-not-numbers
returns-then-not-numbers c = series-part _ _ c.args.numbers (not_so c.if-not-numbers.true) refl

pub slice_bounds-is_args-end : goal.slice_bounds-is_args-end
slice_bounds-is_args-end c = sym (args-length c.requires.good)

pub returns-then-not-is_args : goal.returns-then-not-is_args
returns-then-not-is_args c =
    series-broken _ _ c.args.numbers (not_left c.if-not-numbers.false) (sym c.is_args.ensures ∙ not_so c.if-not-is_args.true-raw) refl

pub returns : goal.returns
returns c =
    series-kept _ _ c.args.numbers (not_left c.if-not-numbers.false) (sym c.is_args.ensures ∙ not_left c.if-not-is_args.false-raw) (ap answers c.recorded.ensures)
