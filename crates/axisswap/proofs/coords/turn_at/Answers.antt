-- `turn_at`: where the order has an argument i its sign is the one (`turn-named`); past its arguments the sign stays (`turn-stays`).
use Rattle.std.proofs.Common.{sym, ap, ◌∙◌, rules, tests, pos, SFits, w32, to_z-of_z}
use Rattle.rules.specs.Text.Decimal.{minus}
use Rattle.axisswap.proofs.OrderedNumbers.{turn-named, turn-stays}
use Rattle.axisswap.proofs.coords.turn_at.Goals as goal

pub returns-in-Some : goal.returns-in-Some
returns-in-Some c =
    let h = c.in-Some.ensures.lookup in
    let f : SFits w32 c.in-Some.x.now = search rules in
    (simp (to_z-of_z f) at c.is_minus.ensures) ∙ ap minus (h.3.1 (pos 0)) ∙ sym (turn-named c.args.args.now c.args.i h.3.0)

pub returns-in-None : goal.returns-in-None
returns-in-None c = sym (turn-stays c.args.args.now c.args.i (search (rules, tests)))
