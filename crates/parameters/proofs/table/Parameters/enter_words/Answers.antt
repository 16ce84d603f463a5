use mathlib.Core.Path.{◌∙◌, ap}
use Rattle.std.proofs.lemmas.Result.{err_from_is_err_and}
use Rattle.parameters.specs.declared.table.Source.{Source}
use Rattle.parameters.proofs.EnterAll.{words-end, words-none, words-full, words_more}
use Rattle.parameters.proofs.table.Parameters.enter_words.Goals as goal

pub returns-then-e-a-clause-entered : goal.returns-then-e-a-clause-entered
returns-then-e-a-clause-entered c = (words-none c.loop-k.invariant.1 c.run_end-a.ensures c.run_end-e.ensures c.if-e-a.true, tt)

pub returns-in_err-enter-clause-entered : goal.returns-in_err-enter-clause-entered
returns-in_err-enter-clause-entered c =
    let p = err_from_is_err_and c.from_residual.result c.from_residual.ensures.1 in
    rw p.1 (
      tt,
      words-full c.loop-k.invariant.1 c.run_end-a.ensures c.run_end-e.ensures c.if-e-a.false (rw (ap (λ (x : Source). x.s.now) c.loop-k.invariant.0) at c.part_of.ensures)
          (rw (ap (λ (x : Source). x.s.now) c.loop-k.invariant.0) at c.in_err-enter.ensures.full),
    )

pub loop-k-preserved : goal.loop-k-preserved
loop-k-preserved c = (
  c.in_ok-enter.ensures.from ∙ c.loop-k.invariant.0,
  words_more c.loop-k.invariant.1 c.run_end-a.ensures c.run_end-e.ensures c.if-e-a.false (rw (ap (λ (x : Source). x.s.now) c.loop-k.invariant.0) at c.part_of.ensures)
      (rw (ap (λ (x : Source). x.s.now) c.loop-k.invariant.0) at c.in_ok-enter.ensures.entered),
)

pub returns-clause-entered : goal.returns-clause-entered
returns-clause-entered c = (words-end c.loop-k.invariant.1 c.loop-k-test.false, tt)
