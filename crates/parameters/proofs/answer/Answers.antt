-- `answer`: a holds the normal form, and behind it `_nametrue`, for which there are nine bytes more; of the two together `text_out` writes
-- the reply for the text.
use native.Mathlib.Omega.{arith}
use Rattle.normalise.proofs.Weights.{text-weight}
use Rattle.text.proofs.Wrote.{wrote-fits, wrote-counts}
use Rattle.parameters.proofs.Spelt.{front-spelt}
use Rattle.parameters.proofs.Laws.{words-room, front-small, parameters-so}
use Rattle.parameters.proofs.answer.Goals as goal

pub normal_of-n-requires : goal.normal_of-n-requires
normal_of-n-requires c = record { text_in_bounds = text-weight c.args.text.now (omega (arith, c.requires.text_in_bounds)); text_in_bounds_2 = text-weight c.args.text.now c.requires.text_in_bounds_2 }

pub put-m-requires : goal.put-m-requires
put-m-requires c =
    words-room c.args.text.now c.normal_of-n.ensures c.requires.text_in_bounds c.normal_of-n.auto.a

pub slice_bounds-text_out-end : goal.slice_bounds-text_out-end
slice_bounds-text_out-end c = wrote-fits c.put-m.ensures

pub slice_bounds-text_out-end-2 : goal.slice_bounds-text_out-end-2
slice_bounds-text_out-end-2 c = wrote-counts c.put-m.ensures

pub invariant_of-text_out : goal.invariant_of-text_out
invariant_of-text_out c = record { spelt = front-spelt c.args.text.now c.normal_of-n.ensures c.put-m.ensures }

pub text_out-requires : goal.text_out-requires
text_out-requires c = front-small c.args.text.now c.normal_of-n.ensures c.put-m.ensures c.requires.text_len_bound

pub returns : goal.returns
returns c =
    parameters-so c.args.text.now c.normal_of-n.ensures c.put-m.ensures c.requires.text_len_bound c.requires.text_value c.text_out.ensures
