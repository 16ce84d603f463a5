-- `step`: a record's text is its operator's words and then its marks (`writing`); a record that passes `made` has arguments that keep their
-- rule, and no more of them than slots.
use mathlib.Core.Path.{◌≡◌}
use mathlib.Core.Path.{sym}
use Prim.Native.Nat.{◌≤◌}
use native.Mathlib.Omega.{arith}
use lib.ListN.{length}
use lib.Seq.{length-take-le}
use Rattle.rules.specs.Pipeline.Record.{operator, args}
use Rattle.laws_records.specs.MadeSo.{made_so}
use Rattle.write.proofs.TableText.{words-room, marks-room, step-written}
use borrow.Author.Rules.{rules}
use Rattle.write.proofs.words.step.Goals as goal
use Rattle.write.proofs.words.step.Goals.{Start}

-- no more arguments than slots
few : (c : Start) → c.args.s.n ≤ length c.args.s.args
few c = omega (arith, (made_so _ c.requires.s_value).slots, (let e : length c.args.s.args ≡ 8 = search rules in e))

pub slice_bounds-l-end : goal.slice_bounds-l-end
slice_bounds-l-end c = few (goal.at.slice_bounds-l-end c).Start

pub slice_bounds-words-end : goal.slice_bounds-words-end
slice_bounds-words-end c = sym (length-take-le _ _ (few (goal.at.slice_bounds-words-end c).Start))

pub words-e-requires : goal.words-e-requires
unfolding operator args
words-e-requires c = record { l_value = (made_so _ c.requires.s_value).rule; room = words-room _ c.requires.room }

pub marks-requires : goal.marks-requires
unfolding operator args
marks-requires c =
    marks-room _ c.requires.room c.words-e.ensures

pub returns : goal.returns
unfolding operator args
returns c =
    step-written _ c.requires.room c.words-e.ensures c.marks.ensures
