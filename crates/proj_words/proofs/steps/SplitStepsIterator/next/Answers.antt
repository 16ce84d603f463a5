-- `next`: the walk finds the next step, if there is one, and goes on behind it.
use Rattle.std.proofs.Common.{refl, arith, rules}
use Rattle.text.proofs.RunEnd.{length_part}
use Rattle.proj_words.specs.Steps.{left}
use Rattle.proj_words.proofs.Words.{less}
use Rattle.proj_words.proofs.Pieces.{step-at, step-none}
use Rattle.proj_words.proofs.steps.SplitStepsIterator.next.Goals as goal

pub invariant_of-self : goal.invariant_of-self
invariant_of-self c = let s = step-at c.next_proj.ensures c.in-Some.is in record { inside = s.ends }

pub slice_bounds-result-count : goal.slice_bounds-result-count
slice_bounds-result-count c = let s = step-at c.next_proj.ensures c.in-Some.is in s.ahead

pub slice_bounds-result-start : goal.slice_bounds-result-start
slice_bounds-result-start c = let s = step-at c.next_proj.ensures c.in-Some.is in let h = s.ahead in search rules

pub slice_bounds-result-end : goal.slice_bounds-result-end
slice_bounds-result-end c = let s = step-at c.next_proj.ensures c.in-Some.is in let h = s.within in search rules

pub invariant_of-result : goal.invariant_of-result
invariant_of-result c = let s = step-at c.next_proj.ensures c.in-Some.is in record { worded = s.worded }

pub returns-in-None-clause-steps : goal.returns-in-None-clause-steps
returns-in-None-clause-steps c = let e = step-none c.next_proj.ensures c.in-None.is in (e, e)

pub returns-in-Some-clause-steps : goal.returns-in-Some-clause-steps
returns-in-Some-clause-steps c =
    let s = step-at c.next_proj.ensures c.in-Some.is in (
      record {
        here = s.here;
        further = s.further;
        within = s.ends;
        short = omega (arith, length_part c.args.self.now.text.now c.in-Some.field-0.from c.in-Some.field-0.to s.ahead s.within, s.within);
      },
      refl,
    )

pub returns-in-Some-clause-goes : goal.returns-in-Some-clause-goes
returns-in-Some-clause-goes c = let s = step-at c.next_proj.ensures c.in-Some.is in less left _ _ _ s.here
