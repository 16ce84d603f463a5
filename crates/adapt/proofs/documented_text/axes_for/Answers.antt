-- `axes_for`: the pairs are asked in the order of `letters_for`; the first of which both are 0 decides.
use mathlib.Core.Path.{sym, ◌∙◌}
use Rattle.rules.specs.Text.Ascii.{ascii}
use Rattle.rules.specs.Operators.Documented.{letters_for}
use Rattle.adapt.proofs.documented_text.axes_for.Goals as goal

pub returns-then-both_zero : goal.returns-then-both_zero
unfolding letters_for ascii
returns-then-both_zero c = rw (sym c.both_zero.ensures ∙ c.if-both_zero.true) c.axes_of.ensures

pub returns-then-both_zero-2 : goal.returns-then-both_zero-2
unfolding letters_for ascii
returns-then-both_zero-2 c =
    rw (sym c.both_zero.ensures ∙ c.if-both_zero.false, sym c.both_zero-2.ensures ∙ c.if-both_zero-2.true) c.axes_of-then-both_zero-2.ensures

pub returns-then-both_zero-3 : goal.returns-then-both_zero-3
unfolding letters_for ascii
returns-then-both_zero-3 c =
    rw (sym c.both_zero.ensures ∙ c.if-both_zero.false, sym c.both_zero-2.ensures ∙ c.if-both_zero-2.false, sym c.both_zero-3.ensures ∙ c.if-both_zero-3.true)
    c.axes_of-then-both_zero-3.ensures

pub returns-then-both_zero-4 : goal.returns-then-both_zero-4
unfolding letters_for ascii
returns-then-both_zero-4 c =
    rw (sym c.both_zero.ensures ∙ c.if-both_zero.false, sym c.both_zero-2.ensures ∙ c.if-both_zero-2.false, sym c.both_zero-3.ensures ∙ c.if-both_zero-3.false, sym c.both_zero-4.ensures ∙ c.if-both_zero-4.true)
    c.axes_of-then-both_zero-4.ensures

pub returns-then-both_zero-5 : goal.returns-then-both_zero-5
unfolding letters_for ascii
returns-then-both_zero-5 c =
    rw (sym c.both_zero.ensures ∙ c.if-both_zero.false, sym c.both_zero-2.ensures ∙ c.if-both_zero-2.false, sym c.both_zero-3.ensures ∙ c.if-both_zero-3.false, sym c.both_zero-4.ensures ∙ c.if-both_zero-4.false, sym c.both_zero-5.ensures ∙ c.if-both_zero-5.true)
    c.axes_of-then-both_zero-5.ensures

pub returns : goal.returns
unfolding letters_for ascii
returns c =
    rw (sym c.both_zero.ensures ∙ c.if-both_zero.false, sym c.both_zero-2.ensures ∙ c.if-both_zero-2.false, sym c.both_zero-3.ensures ∙ c.if-both_zero-3.false, sym c.both_zero-4.ensures ∙ c.if-both_zero-4.false, sym c.both_zero-5.ensures ∙ c.if-both_zero-5.false)
    c.axes_of-2.ensures
