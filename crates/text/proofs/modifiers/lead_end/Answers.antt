use mathlib.Core.Path.{sym, ◌∙◌}
use native.Mathlib.Omega.{arith}
use Rattle.text.proofs.Lead.{leads-none, leads-longer, leads-more, leads-here}
use Rattle.text.proofs.modifiers.lead_end.Goals as goal

pub loop-k-init : goal.loop-k-init
loop-k-init c = leads-none _

pub returns-then-not-is_modifier : goal.returns-then-not-is_modifier
returns-then-not-is_modifier c =
    leads-here c.loop-k.invariant c.run_end-a.ensures c.run_end-e.ensures (sym c.is_modifier.ensures ∙ c.if-not-is_modifier.true)

pub loop-k-smaller : goal.loop-k-smaller
loop-k-smaller c =
    let h = leads-longer c.loop-k.invariant c.run_end-a.ensures c.run_end-e.ensures (sym c.is_modifier.ensures ∙ c.if-not-is_modifier.false) in
    omega (arith, c.run_end-a.ensures.ahead, c.run_end-e.ensures.within)

pub loop-k-preserved : goal.loop-k-preserved
loop-k-preserved c =
    leads-more c.loop-k.invariant c.run_end-a.ensures c.run_end-e.ensures (sym c.is_modifier.ensures ∙ c.if-not-is_modifier.false)
