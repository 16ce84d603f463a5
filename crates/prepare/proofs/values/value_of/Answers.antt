use mathlib.Core.Path.{◌≡◌, sym, ◌∙◌}
use mathlib.Core.Bool.{true, false}
use Rattle.parameters.specs.Parts.{no_part}
use Rattle.parameters.specs.Tables.{text}
use Rattle.parameters.proofs.Places.{held-within}
use Rattle.prepare.proofs.KeyLookup.{looking-here, looking-more, looking-end}
use Rattle.rules.specs.Text.Bytes.{same}
use Rattle.text.proofs.RunEnd.{same-is}
use Rattle.prepare.proofs.values.value_of.Goals as goal

pub key-requires : goal.key-requires
key-requires c = held-within c.args.table.now.good c.held-p-items.ensures _ _ c.loop-p-test.true

pub value-requires : goal.value-requires
value-requires c = held-within c.args.table.now.good c.held-p-items.ensures _ _ c.loop-p-test.true

pub returns-then-eq : goal.returns-then-eq
returns-then-eq c =
    let e : same c.args.key.now c.key.result.now ≡ true = sym (same-is _ _) ∙ sym c.eq.ensures ∙ c.if-eq.true in
    rw (c.value.ensures, ← c.held-p-items.ensures)
    (looking-here (text c.args.table.now) c.held-p-items.result.now c.args.key.now _ c.loop-p.invariant no_part c.loop-p-test.true
    (rw c.key.ensures at e))

pub loop-p-preserved : goal.loop-p-preserved
loop-p-preserved c =
    let e : same c.args.key.now c.key.result.now ≡ false = sym (same-is _ _) ∙ sym c.eq.ensures ∙ c.if-eq.false in
    looking-more (text c.args.table.now) c.held-p-items.result.now c.args.key.now _ c.loop-p.invariant no_part c.loop-p-test.true
    (rw c.key.ensures at e)

pub returns : goal.returns
returns c =
    rw (← c.held-p-items.ensures) (looking-end (text c.args.table.now) c.held-p-items.result.now c.args.key.now _ c.loop-p.invariant c.loop-p-test.false)
