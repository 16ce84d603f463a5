-- `exchange`: what stands before b and what stands from b on are lent apart, and a part of each goes into the other (`exchanged-parts`).
use Rattle.std.proofs.Common.{arith, rules}
use Rattle.columns.proofs.Reversals.{exchanged-parts}
use Rattle.columns.proofs.store.exchange.Goals as goal

pub returns : goal.returns
returns c =
    let s = c.split_at_mut-low.ensures in
    exchanged-parts s.front s.back (search rules) (search rules) (omega arith) c.requires.n_bound c.requires.n_in_bounds
