-- `left_of`: where the key of a line, its value, or its `=` and newline do not fit into what is left, the line does not (`leaves-over`), and so
-- all of them do not fit into the room.
use native.Mathlib.Omega.{arith}
use Rattle.std.proofs.Common.{rules}
use Rattle.std.specs.Prelude.{◌≡◌, None}
use Rattle.parameters.specs.Parts.{no_part}
use Rattle.parameters.proofs.Places.{held-within}
use Rattle.parameters.proofs.Lines.{leaves-more, leaves-over, leaves-end}
use Rattle.parameters.proofs.table.Parameters.left_of.Goals as goal

pub overflow_sub-p : goal.overflow_sub-p
overflow_sub-p c = (held-within c.args.self.now.good c.held-p-items.ensures _ no_part c.loop-p-test.true).key-ahead

pub returns-in_err-left : goal.returns-in_err-left
returns-in_err-left c =
    let none : c.from_residual.result ≡ None = search rules in
    let w = held-within c.args.self.now.good c.held-p-items.ensures _ no_part c.loop-p-test.true in
    let key = rw c.in_err-left.was at c.checked_sub.ensures in
    rw (none, ← c.held-p-items.ensures) (leaves-over c.loop-p.invariant no_part c.loop-p-test.true w (λ f. key (omega (arith, f))))

pub overflow_sub-p-in-loop-p : goal.overflow_sub-p-in-loop-p
overflow_sub-p-in-loop-p c = (held-within c.args.self.now.good c.held-p-items.ensures _ no_part c.loop-p-test.true).value-ahead

pub returns-in_err-left-2 : goal.returns-in_err-left-2
returns-in_err-left-2 c =
    let none : c.from_residual-in_err-left-2.result ≡ None = search rules in
    let w = held-within c.args.self.now.good c.held-p-items.ensures _ no_part c.loop-p-test.true in
    let key = rw c.in_ok-left.was at c.checked_sub.ensures in
    let value = rw c.in_err-left-2.was at c.checked_sub-in-loop-p.ensures in
    rw (none, ← c.held-p-items.ensures) (leaves-over c.loop-p.invariant no_part c.loop-p-test.true w (λ f. value (omega (arith, f, key.1))))

pub returns-in_err-left-3 : goal.returns-in_err-left-3
returns-in_err-left-3 c =
    let none : c.from_residual-in_err-left-3.result ≡ None = search rules in
    let w = held-within c.args.self.now.good c.held-p-items.ensures _ no_part c.loop-p-test.true in
    let key = rw c.in_ok-left.was at c.checked_sub.ensures in
    let value = rw c.in_ok-left-2.was at c.checked_sub-in-loop-p.ensures in
    let two = rw c.in_err-left-3.was at c.checked_sub-in-loop-p-2.ensures in
    rw (none, ← c.held-p-items.ensures) (leaves-over c.loop-p.invariant no_part c.loop-p-test.true w (λ f. two (omega (arith, f, key.1, value.1))))

pub loop-p-preserved : goal.loop-p-preserved
loop-p-preserved c =
    let w = held-within c.args.self.now.good c.held-p-items.ensures _ no_part c.loop-p-test.true in
    let key = rw c.in_ok-left.was at c.checked_sub.ensures in
    let value = rw c.in_ok-left-2.was at c.checked_sub-in-loop-p.ensures in
    let two = rw c.in_ok-left-3.was at c.checked_sub-in-loop-p-2.ensures in
    leaves-more c.loop-p.invariant no_part c.loop-p-test.true w (omega (arith, key.0, key.1, value.0, value.1, two.0)) (omega (arith, key.1, value.1, two.1))

pub returns : goal.returns
returns c = rw (← c.held-p-items.ensures) (leaves-end c.loop-p.invariant c.loop-p-test.false)
