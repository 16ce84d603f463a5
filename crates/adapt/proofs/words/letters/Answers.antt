-- `letters`: a word is four letters that are an order, and an ending; the first of these that is not there makes it none.
use Rattle.std.proofs.Common.{rules, ◌≡◌, None}
use mathlib.Core.Path.{sym, ap, ◌∙◌}
use Rattle.laws_lists.specs.Tests.{not_so, not_left}
use Rattle.numbers.proofs.Rest.{rest_of}
use Rattle.adapt.specs.Words.{numbered, word_is, word_as}
use Rattle.adapt.proofs.WordRead.{four-axes, word-short, word-unordered, word-unended, word-so}
use Rattle.adapt.proofs.words.letters.Goals as goal

pub returns-then-t-lt4 : goal.returns-then-t-lt4
unfolding word_is
returns-then-t-lt4 c = word-short c.args.t.now c.if-t-lt4.true

pub returns-then-not-is_order : goal.returns-then-not-is_order
unfolding word_is
returns-then-not-is_order c =
    word-unordered c.args.t.now c.if-t-lt4.false c.axes_of-axes.ensures (sym c.is_order.ensures ∙ not_so c.if-not-is_order.true-raw)

pub returns-in_err-angle : goal.returns-in_err-angle
unfolding word_is
returns-in_err-angle c =
    let e : c.from_residual.result ≡ None = search rules in
    rw e (word-unended c.args.t.now c.if-t-lt4.false c.axes_of-axes.ensures (sym c.is_order.ensures ∙ not_left c.if-not-is_order.false-raw)
    (rest_of c.args.t.now 4) c.ending_of.ensures (ap numbered c.in_err-angle.was))

pub invariant_of-result : goal.invariant_of-result
invariant_of-result c = record {
  four = four-axes c.args.t.now c.if-t-lt4.false c.axes_of-axes.ensures;
  ordered = sym c.is_order.ensures ∙ not_left c.if-not-is_order.false-raw;
}

pub returns : goal.returns
unfolding word_is word_as
returns c =
    word-so c.args.t.now c.if-t-lt4.false c.axes_of-axes.ensures (sym c.is_order.ensures ∙ not_left c.if-not-is_order.false-raw)
    (rest_of c.args.t.now 4) c.ending_of.ensures (ap numbered c.in_ok-angle.was)
