-- `next`: the value of `proj=` comes first; in the place of `proj=` comes the first word, and any other word as it is.
use Rattle.std.proofs.Common.{◌≡◌, refl, sym, ◌∙◌, false, ◌&&◌, is_some}
use mathlib.Core.Bool.{and-false}
use Rattle.rules.specs.Proj.Words.{is_proj}
use Rattle.proj_words.specs.Heads.{coming}
use Rattle.proj_words.proofs.Words.{progress}
use Rattle.proj_words.proofs.Heads.{coming-front, coming-none, coming-place, coming-word}
use Rattle.proj_words.proofs.exchange.ExchangedIterator.next.Goals as goal
use Rattle.proj_words.proofs.exchange.ExchangedIterator.next.Goals.{else-is_some-via-then-is_some+else-is_proj, else-is_some-via-else-is_some}

pub returns-in-Some-clause-steps : goal.returns-in-Some-clause-steps
returns-in-Some-clause-steps c = coming-front _ _ c.take.ensures.after c.in-Some.ensures.value refl refl

pub returns-in-Some-clause-goes : goal.returns-in-Some-clause-goes
returns-in-Some-clause-goes c = progress coming _ _ _ (returns-in-Some-clause-steps c)

pub returns-in_err-word-clause-steps : goal.returns-in_err-word-clause-steps
returns-in_err-word-clause-steps c =
    rw c.from_residual.ensures (coming-none _ _ c.take.ensures.after (sym c.in_default.ensures.value) refl c.in_err-word.ensures.steps)

pub returns-then-is_proj-clause-steps : goal.returns-then-is_proj-clause-steps
returns-then-is_proj-clause-steps c =
    rw c.take-then-is_proj.ensures.value (coming-place _ _ c.take.ensures.after (sym c.in_default.ensures.value) c.in_ok-word.ensures.steps (sym c.is_some.ensures ∙ c.if-is_some.true) (sym c.is_proj.ensures ∙ c.if-is_proj.true) c.take-then-is_proj.ensures.after)

pub returns-then-is_proj-clause-goes : goal.returns-then-is_proj-clause-goes
returns-then-is_proj-clause-goes c = progress coming _ _ _ (returns-then-is_proj-clause-steps c)

pub returns-clause-steps : goal.returns-clause-steps
returns-clause-steps c =
    let no : (is_some c.args.self.now.moved && is_proj c.in_ok-word.word.now) ≡ false = elim c.else-is_some.branch [
      | else-is_some-via-then-is_some+else-is_proj w ↦ rw (← w.is_proj.ensures, w.if-is_proj.false) (and-false _)
      | else-is_some-via-else-is_some w ↦ rw (← c.is_some.ensures, w.if-is_some.false)
    ] in
    coming-word _ _ c.take.ensures.after (sym c.in_default.ensures.value) c.in_ok-word.ensures.steps no refl

pub returns-clause-goes : goal.returns-clause-goes
returns-clause-goes c = progress coming _ _ _ (returns-clause-steps c)
