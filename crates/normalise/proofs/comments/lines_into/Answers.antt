use mathlib.Core.Path.{◌≡◌}
use Prim.Native.Nat.{◌<◌}
use native.Mathlib.Omega.{arith}
use lib.ListN.{length, get_or}
use Rattle.std.proofs.Common.{rules, tests}
use Rattle.std.proofs.lemmas.List.{length_push}
use Rattle.std.proofs.lemmas.Iterator.Splits.{YieldsList-from_slice_split}
use Rattle.std.proofs.lemmas.Iterator.Consumers.{YieldsList-turn, YieldsList-end}
use Rattle.rules.specs.Text.Ascii.{is}
use Rattle.rules.specs.Text.Bytes.{cut}
use Rattle.text.proofs.Squeezed.{cut-is}
use Rattle.normalise.proofs.Lined.{lining-none, lining-room, lining-line, lining-end}
use Rattle.normalise.proofs.comments.lines_into.Goals as goal
use Rattle.normalise.proofs.comments.lines_into.Goals.{In-Some}

-- a turn's line is the next of those of src
line : (c : In-Some)
    → let ls = cut (is "\n") c.args.src.now in
    (length c.loop-line.yielded < length ls) × (c.in-Some.line.now ≡ get_or ls (length c.loop-line.yielded) c.in-Some.line.now)
line c =
    let h = c.into_iter-line-iterator.ensures in
    let t =
    YieldsList-turn
    (YieldsList-from_slice_split {s = c.into_iter-line-iterator.result} _ (is "\n") c.args.src.now (cc) (cc) (cc) (λ x b q k. search (rules, tests)))
    c.loop-line.yielded _ c.loop-line.yielded_by _ _ c.in-Some.line c.in-Some.is c.next.ensures.steps in
    rw (cut-is (is "\n") c.args.src.now) at t

pub loop-line-init : goal.loop-line-init
loop-line-init c = lining-none c.requires

pub add_line-o-requires : goal.add_line-o-requires
add_line-o-requires c =
    let u = line (goal.at.add_line-o-requires c).In-Some in lining-room c.loop-line.invariant u.0 u.1

pub loop-line-preserved : goal.loop-line-preserved
loop-line-preserved c =
    let u = line (goal.at.loop-line-preserved c).In-Some in
    lining-line c.loop-line.invariant u.0 u.1 c.add_line-o.ensures (length_push c.loop-line.yielded c.in-Some.line)

pub returns : goal.returns
returns c =
    let h = c.into_iter-line-iterator.ensures in
    let t =
    YieldsList-end
    (YieldsList-from_slice_split {s = c.into_iter-line-iterator.result} _ (is "\n") c.args.src.now (cc) (cc) (cc) (λ x b q k. search (rules, tests)))
    c.loop-line.yielded _ c.loop-line.yielded_by _ _ c.in-None.is c.next.ensures.steps in
    let u = rw (cut-is (is "\n") c.args.src.now) at t in
    lining-end c.loop-line.invariant (omega (arith, u.1))
