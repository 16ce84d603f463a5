use Rattle.std.proofs.Common.{◌≡◌, ◌+◌, ◌-◌, arith}
use Rattle.columns.proofs.InStore.{under}
use Rattle.columns.proofs.Reversals.{reverse-turn}
use Rattle.columns.proofs.store.reverse.Goals as goal

pub exchange-requires : goal.exchange-requires
exchange-requires c =
    let i = c.args.from + c.loop-k.k in
    let j = c.args.to - 1 - c.loop-k.k in
    record {
      n_bound = under i j c.args.n (omega arith);
      n_in_bounds = omega (arith, under j c.args.to c.args.n (omega arith), c.loop-k.invariant.same_length);
    }

pub loop-k-preserved : goal.loop-k-preserved
loop-k-preserved c =
    let from = c.args.from in
    let to = c.args.to in
    let k = c.loop-k.k in
    let up : from + (k + 1) ≡ from + k + 1 = omega arith in
    let down : to - (k + 1) ≡ to - k - 1 = omega arith in
    let same : to - 1 - k ≡ to - k - 1 = omega arith in
    rw (up, down) (reverse-turn c.args.n from to c.args.store.now c.loop-k.store _ (from + k) (to - k) c.loop-k.invariant
    (omega arith) c.requires.n_in_bounds c.exchange.auto.store (rw same at c.exchange.ensures))
