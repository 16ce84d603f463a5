-- `prepare_text`: the normal form stands in a; it is no longer than the text weighs, so it has room in b.
use native.Mathlib.Omega.{arith}
use Rattle.text.proofs.Wrote.{wrote-fits, wrote-counts}
use Rattle.prepare.proofs.StepText.{trimmed-room, normal-room, text-so}
use Rattle.prepare.proofs.judge.prepare_text.Goals as goal

pub normal_of-n-requires : goal.normal_of-n-requires
normal_of-n-requires c = record { text_in_bounds = trimmed-room c.args.text.now c.requires.text_in_bounds; text_in_bounds_2 = trimmed-room c.args.text.now (omega (arith, c.requires.text_in_bounds_2)) }

pub slice_bounds-judge_text-end : goal.slice_bounds-judge_text-end
slice_bounds-judge_text-end c = wrote-fits c.normal_of-n.ensures

pub slice_bounds-judge_text-end-2 : goal.slice_bounds-judge_text-end-2
slice_bounds-judge_text-end-2 c = wrote-counts c.normal_of-n.ensures

pub judge_text-requires : goal.judge_text-requires
judge_text-requires c = let all = normal-room c.args.text.now c.normal_of-n.ensures c.requires.text_bound c.requires.text_in_bounds_2 c.normal_of-n.auto.b in record { s_len_bound = all.0; s_in_bounds = all.1 }

pub returns : goal.returns
returns c =
    text-so c.args.text.now c.normal_of-n.ensures _ c.judge_text.ensures
