-- `write_step`: a record that is bad as the one of a table is refused 18 at 1. The text of any other fits 64 bytes (`step_fits`), so it is written
-- into a buffer of its own and handed out from there.
use Rattle.write.proofs.TableText.{step_fits, own-fits, own-counts, own-lent, one-bad, one-good, good-made}
use borrow.Author.Tests.{not-true, not-false}
use mathlib.Core.Path.{refl, sym, ◌∙◌}
use Rattle.write.proofs.write_step.Goals as goal

pub returns-then-not-good_in : goal.returns-then-not-good_in
returns-then-not-good_in c = one-bad _ (sym c.good_in.ensures ∙ not-true _ c.if-not-good_in.true-raw)

pub step-n-requires : goal.step-n-requires
step-n-requires c = let m = good-made _ (sym c.good_in.ensures ∙ not-false _ c.if-not-good_in.false-raw) in record { s_value = m; room = step_fits _ m _ refl }

pub slice_bounds-a-end : goal.slice_bounds-a-end
slice_bounds-a-end c = own-fits c.step-n.ensures

pub slice_bounds-hand_out-end : goal.slice_bounds-hand_out-end
slice_bounds-hand_out-end c = own-counts c.step-n.ensures

pub returns : goal.returns
returns c =
    own-lent c.step-n.ensures (one-good _ (sym c.good_in.ensures ∙ not-false _ c.if-not-good_in.false-raw)) c.hand_out.ensures
