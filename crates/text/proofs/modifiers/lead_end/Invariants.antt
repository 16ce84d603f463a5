-- `lead_end`: up to k stand modifiers alone, and a word ends there (`Leads`). A turn passes a modifier more, which has a byte at least, so
-- what is left of s is the measure. The first word that is none, or the end of s, is where those in front end.
use Prim.Native.Nat.{◌-◌}
use lib.ListN.{length}
use Rattle.text.proofs.Lead.{Leads}
use Rattle.text.proofs.modifiers.lead_end.Given as goal

abbrev pub invariant-loop-k : goal.invariant-loop-k
invariant-loop-k l = Leads l.s l.k

abbrev pub decreases-loop-k : goal.decreases-loop-k
decreases-loop-k l = length l.s - l.k
