-- `written`: the text of a table that is not refused 18 fits 4,096 bytes (`table_fits`), so it is written into a buffer of its own and lent
-- from there.
use Rattle.write.proofs.TableText.{table_fits, table-good, own-fits, own-counts, own-lent}
use mathlib.Core.Path.{refl}
use Rattle.write.proofs.written.Goals as goal

pub steps-n-requires : goal.steps-n-requires
steps-n-requires c = record { table_value = c.requires; room = table_fits _ _ c.requires refl }

pub slice_bounds-a-end : goal.slice_bounds-a-end
slice_bounds-a-end c = own-fits c.steps-n.ensures

pub slice_bounds-hand_out-end : goal.slice_bounds-hand_out-end
slice_bounds-hand_out-end c = own-counts c.steps-n.ensures

pub returns : goal.returns
returns c =
    own-lent c.steps-n.ensures (table-good _ c.requires) c.hand_out.ensures
