-- `step_out`: white space has no parameters, words that are all modifiers are 6, a table that is full is 9: the tests of `step_reply`, in its
-- order. The lines of any other table are handed out.
use mathlib.Core.Path.{◌≡◌, sym, ap, ◌∙◌}
use native.Mathlib.Omega.{arith}
use Rattle.parameters.specs.declared.table.Source.{Source}
use Rattle.parameters.specs.Tables.{front, text, table_in}
use Rattle.parameters.proofs.Places.{held-length}
use Rattle.parameters.proofs.Replies.{step-blank, step-modifiers, step-full, step_lines}
use Rattle.parameters.proofs.step_out.Goals as goal

pub returns-then-is_blank : goal.returns-then-is_blank
returns-then-is_blank c = step-blank (front c.args.source) c.args.out.now (sym c.is_blank.ensures ∙ c.if-is_blank.true)

pub returns-then-is_lead : goal.returns-then-is_lead
returns-then-is_lead c =
    step-modifiers (front c.args.source) c.args.out.now (sym c.is_blank.ensures ∙ c.if-is_blank.false) (sym c.is_lead.ensures ∙ c.if-is_lead.true)

pub returns-in-Ok : goal.returns-in-Ok
returns-in-Ok c =
    let then : c.enter_step.new.self.source.s.now ≡ c.args.source.s.now = ap (λ (x : Source). x.s.now) (c.in-Ok.ensures.from ∙ c.new-table.ensures.from) in
    step_lines (front c.args.source) c.args.out.now (sym c.is_lead.ensures ∙ c.if-is_lead.false) (text c.enter_step.new.self) (table_in c.enter_step.new.self)
    (omega (arith, held-length c.enter_step.new.self.good, c.enter_step.new.self.good.fits))
    (rw then (rw c.new-table.ensures.from at c.in-Ok.ensures.entered.0)) c.small_out.ensures

pub returns-in-Err : goal.returns-in-Err
returns-in-Err c = step-full (front c.args.source) c.args.out.now (sym c.is_lead.ensures ∙ c.if-is_lead.false) (rw c.new-table.ensures.from at c.in-Err.ensures.entered.1)
