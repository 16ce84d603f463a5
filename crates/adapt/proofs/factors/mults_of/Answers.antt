-- `mults_of`: factor i is made of argument i and argument i + 4, which an array of eight has as they are (`mult-made`).
use lib.ListN.{get_or}
use lib.IntN.{pos}
use Rattle.rules.specs.Operators.Arguments.{arg}
use Rattle.rules.specs.Operators.Adapt.{mult}
use Rattle.laws_lists.specs.Signed.{as_is}
use Rattle.adapt.specs.Factors.{mults}
use Rattle.adapt.proofs.Signs.{mult-made}
use Rattle.adapt.proofs.factors.mults_of.Goals as goal

pub returns : goal.returns
unfolding mults mult arg
returns c =
    let e1 = mult-made (get_or c.args.args 0 (pos 0)) _ (get_or c.args.args 4 (pos 0)) _ _ (as_is _ (record { sfits = c.mult_of-arg-1.given })) (as_is _ (record { sfits = c.mult_of-arg-2-1.given })) c.mult_of.ensures in
    let e2 = mult-made (get_or c.args.args 1 (pos 0)) _ (get_or c.args.args 5 (pos 0)) _ _ (as_is _ (record { sfits = c.mult_of-arg-3-1.given })) (as_is _ (record { sfits = c.mult_of-arg-4-1.given })) c.mult_of-2.ensures in
    let e3 = mult-made (get_or c.args.args 2 (pos 0)) _ (get_or c.args.args 6 (pos 0)) _ _ (as_is _ (record { sfits = c.mult_of-arg-5-1.given })) (as_is _ (record { sfits = c.mult_of-arg-6-1.given })) c.mult_of-3.ensures in
    let e4 = mult-made (get_or c.args.args 3 (pos 0)) _ (get_or c.args.args 7 (pos 0)) _ _ (as_is _ (record { sfits = c.mult_of-arg-7-1.given }))
    (as_is _ (record { sfits = c.mult_of-arg-8-1.given })) c.mult_of-4.ensures in
    λ i. record { a = e1 i; b = e2 i; c = e3 i; d = e4 i }
