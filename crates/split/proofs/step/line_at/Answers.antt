-- `line_at`: behind the modifiers in front stands nothing but white space just where all words are modifiers (`lead-all`). Where there is
-- more, the step's text is written, and a newline behind it.
use mathlib.Core.Path.{sym, ◌∙◌}
use Rattle.text.proofs.Lead.{lead-all}
use Rattle.text.proofs.WroteAt.{line-room, line-place, line-done}
use Rattle.split.proofs.step.line_at.Goals as goal

pub returns-then-is_blank : goal.returns-then-is_blank
returns-then-is_blank c =
    sym (lead-all c.lead_end-lead.ensures c.is_blank.ensures) ∙ c.if-is_blank.true

pub step_at-o-requires : goal.step_at-o-requires
step_at-o-requires c = record { lead = c.lead_end-lead.ensures; step_value = sym (lead-all c.lead_end-lead.ensures c.is_blank.ensures) ∙ c.if-is_blank.false; step_in_bounds = line-room _ c.args.dst.now c.args.at c.requires }

pub bounds-dst-o : goal.bounds-dst-o
bounds-dst-o c =
    (line-place _ c.args.dst.now c.args.at c.requires c.step_at-o.ensures).0

pub returns : goal.returns
returns c =
    record {
      other = sym (lead-all c.lead_end-lead.ensures c.is_blank.ensures) ∙ c.if-is_blank.false;
      wrote = line-done _ c.args.dst.now c.args.at c.requires c.step_at-o.ensures;
    }
