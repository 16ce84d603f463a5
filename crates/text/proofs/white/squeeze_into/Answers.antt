use mathlib.Core.Path.{◌≡◌, sym, ◌∙◌}
use mathlib.Core.Bool.{false}
use mathlib.Core.List.{◌∷◌}
use Prim.Native.Nat.{◌+◌}
use lib.ListN.{drop, get_or}
use Rattle.std.proofs.Common.{rules}
use Rattle.rules.specs.Text.Bytes.{words, joined}
use Rattle.text.proofs.Wrote.{Sofar, sofar-byte, sofar-byte-room}
use Rattle.text.proofs.Squeezed.{left, squeezing-none, squeezing-white, squeezing-byte, squeezing-space, squeezing-more, squeezing-end}
use Rattle.text.proofs.white.squeeze_into.Goals as goal
use Rattle.text.proofs.white.squeeze_into.Goals.{Then-owed, Joined-owed, then-owed, else-owed}

-- what is left to write where a space is owed
space : (c : Then-owed)
    → let b = get_or c.args.src.now c.loop-b.b-index 0 in
    Sofar (joined (words c.args.src.now)) (32 ∷ b ∷ left 1 (drop (c.loop-b.b-index + 1) c.args.src.now)) c.args.dst.now c.loop-b.o c.loop-b.dst
space c = squeezing-space c.loop-b.invariant c.loop-b-test.true (sym c.is_white.ensures ∙ c.if-is_white.false) c.if-owed.true

-- where the byte is to be written, no space is owed any more, and the byte is next
free : (c : Joined-owed) → c.if-owed.owed ≡ false
free c = elim c.if-owed.branch [
  | then-owed w ↦ w.owed-is
  | else-owed w ↦ w.owed-is ∙ w.if-owed.false
]

byte : (c : Joined-owed)
    → let b = get_or c.args.src.now c.loop-b.b-index 0 in
    Sofar (joined (words c.args.src.now)) (b ∷ left 1 (drop (c.loop-b.b-index + 1) c.args.src.now)) c.args.dst.now c.if-owed.o c.if-owed.dst
byte c =
    let e = sym c.is_white.ensures ∙ c.if-is_white.false in
    elim c.if-owed.branch [
      | then-owed w ↦ rw (w.o-is, w.dst-is) (sofar-byte (squeezing-space c.loop-b.invariant c.loop-b-test.true e w.if-owed.true))
      | else-owed w ↦ rw (w.o-is, w.dst-is) (squeezing-byte c.loop-b.invariant c.loop-b-test.true e w.if-owed.false)
    ]

pub loop-b-init : goal.loop-b-init
loop-b-init c = squeezing-none c.requires

pub loop-b-preserved-then-is_white : goal.loop-b-preserved-then-is_white
loop-b-preserved-then-is_white c = squeezing-white c.loop-b.invariant c.loop-b-test.true (sym c.is_white.ensures ∙ c.if-is_white.true)

pub bounds-dst-o : goal.bounds-dst-o
bounds-dst-o c = (sofar-byte-room (space c)).0

pub overflow_add-o : goal.overflow_add-o
overflow_add-o c = let h = (sofar-byte-room (space c)).0 in search rules

pub bounds-dst-o-in-loop-b : goal.bounds-dst-o-in-loop-b
bounds-dst-o-in-loop-b c = (sofar-byte-room (byte c)).0

pub overflow_add-o-in-loop-b : goal.overflow_add-o-in-loop-b
overflow_add-o-in-loop-b c = let h = (sofar-byte-room (byte (goal.at.overflow_add-o-in-loop-b c).Joined-owed)).0 in search rules

pub loop-b-preserved : goal.loop-b-preserved
loop-b-preserved c =
    let d = (goal.at.loop-b-preserved c).Joined-owed in squeezing-more _ _ (free d) (byte d)

pub returns : goal.returns
returns c = squeezing-end c.loop-b.invariant c.loop-b-test.false
