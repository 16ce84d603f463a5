use mathlib.Core.Path.{◌≡◌, sym, ap}
use mathlib.Core.List.{◌++◌, ◌∷◌}
use Prim.Native.Nat.{◌+◌}
use native.Mathlib.Omega.{arith}
use native.Mathlib.Numerals.{unary_clauses}
use lib.ListN.{length, take, drop, get_or, drop_of_length-le}
use Rattle.text.proofs.Wrote.{Sofar, sofar-at, sofar-byte, sofar-end, drop-next}
use borrow.Author.Rules.{rules}
use Rattle.text.proofs.copy.put.Goals as goal

pub loop-i-init : goal.loop-i-init
loop-i-init c = (search rules, simp unary_clauses (sofar-at _ _ _ c.requires))

pub loop-i-preserved : goal.loop-i-preserved
loop-i-preserved c =
    let more : c.args.at + c.loop-i.i + 1 ≡ c.args.at + (c.loop-i.i + 1) = omega arith in
    (search rules, rw more at (sofar-byte (rw (drop-next _ _ c.loop-i-test.true) at c.loop-i.invariant.1)))

pub returns : goal.returns
returns c =
    let all : c.loop-i.i ≡ length c.args.src.now = omega (arith, c.loop-i.invariant.0, c.loop-i-test.false) in
    rw (← all) (sofar-end (rw (drop_of_length-le _ c.loop-i-test.false) at c.loop-i.invariant.1))
