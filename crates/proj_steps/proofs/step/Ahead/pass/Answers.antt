-- `pass`: a word with `a=` or `rf=` is left out where it is the last of its kind, and the first with `k=` is the scale: each return is a
-- case of `tidy_rest`.
use Rattle.std.proofs.Common.{refl, sym, ◌∙◌, rules}
use Rattle.std.proofs.lemmas.List.{take_rest}
use Rattle.rules.specs.Text.Ascii.{ascii}
use Rattle.laws_proj.specs.Tests.{starts-long}
use Rattle.proj_steps.proofs.Plans.{passed-a, passed-rf, passed-scale, passed-plain, passed-scaled}
use Rattle.proj_steps.proofs.step.Ahead.pass.Goals as goal
use Rattle.proj_steps.proofs.step.Ahead.pass.Goals.{else-self-via-then-self+else-has_key-3, else-self-via-else-self}

pub returns-then-has_key : goal.returns-then-has_key
unfolding ascii
returns-then-has_key c = passed-a (sym c.has_key.ensures ∙ c.if-has_key.true) c.counted.ensures

pub returns-then-has_key-2 : goal.returns-then-has_key-2
unfolding ascii
returns-then-has_key-2 c =
    passed-rf (sym c.has_key.ensures ∙ c.if-has_key.false) (sym c.has_key-2.ensures ∙ c.if-has_key-2.true) c.counted-then-has_key-2.ensures

pub slice_bounds-result-count : goal.slice_bounds-result-count
unfolding ascii
slice_bounds-result-count c = starts-long (ascii "k=") c.args.word.now (sym c.has_key-then-self.ensures ∙ c.if-has_key-3.true)

pub slice_bounds-result-start : goal.slice_bounds-result-start
unfolding ascii
slice_bounds-result-start c = let h = starts-long (ascii "k=") c.args.word.now (sym c.has_key-then-self.ensures ∙ c.if-has_key-3.true) in search rules

pub returns-then-has_key-3 : goal.returns-then-has_key-3
unfolding ascii
returns-then-has_key-3 c =
    passed-scale (sym c.has_key.ensures ∙ c.if-has_key.false) (sym c.has_key-2.ensures ∙ c.if-has_key-2.false) c.if-self.true
    (sym c.has_key-then-self.ensures ∙ c.if-has_key-3.true) (take_rest c.args.word.now 2)

pub returns : goal.returns
unfolding ascii
returns c =
    let no-a = sym c.has_key.ensures ∙ c.if-has_key.false in
    let no-rf = sym c.has_key-2.ensures ∙ c.if-has_key-2.false in
    elim c.else-self.branch [
      | else-self-via-then-self+else-has_key-3 w ↦ passed-plain no-a no-rf (sym w.has_key-then-self.ensures ∙ w.if-has_key-3.false) refl
      | else-self-via-else-self w ↦ passed-scaled no-a no-rf w.if-self.false refl
    ]
