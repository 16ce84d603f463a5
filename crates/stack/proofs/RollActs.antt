-- The act of a roll, by the sign of its second argument; and what its arguments are.
use mathlib.Core.Path.{◌≡◌, refl, sym}
use Prim.Native.Nat.{ℕ, ◌+◌, ◌-◌, ◌*◌, ◌<◌, ◌≤◌}
use native.Mathlib.Omega.{arith}
use borrow.Author.Tests.{lt-ltb}
use mathlib.Core.Bool.{true, false, not}
use mathlib.Core.List.{List, [], ◌∷◌}
use lib.IntN.{ℤ}
use Rattle.rules.specs.Text.Decimal.{minus}
use Rattle.rules.specs.Text.Lists.{all_of}
use Rattle.rules.specs.Operators.Arguments.{size, arg}
use Rattle.rules.specs.Operators.Stack.{is_roll, rolling, unrolling}
use Rattle.rules.specs.Pipeline.Record.{nine_digits}
use Rattle.laws_lists.specs.Tests.{so, and_left, and_right}
use lib.Dec.{leb, eqb, leb→le, ltb→lt, eqb→eq}
use lib.ListN.{length}
use Rattle.columns.specs.declared.acts.Act.TheVariants.{Rolls}
use Rattle.columns.specs.Doings.{does, able}
use Rattle.stack.specs.Actions.{Roll, Rolled}

module _ (x y : ℤ) {m n : ℕ} (l : List ℤ) (p : m ≡ size x) (q : n ≡ size y) (h : size y < size x) where
  pub rolling-minus : minus y ≡ true → Rolled (rolling x y) l (Rolls m (m - n))
  unfolding does rolling able
  rolling-minus e = record { same = rw (e, sym p, sym q) refl; rule = lt-ltb (m - n) (2 * m) (omega (arith, p, q, h)) }

  pub rolling-plus : minus y ≡ false → Rolled (rolling x y) l (Rolls m n)
  unfolding does rolling able
  rolling-plus e = record { same = rw (e, sym p, sym q) refl; rule = lt-ltb n (2 * m) (omega (arith, p, q, h)) }

  pub unrolling-minus : minus y ≡ true → Rolled (unrolling x y) l (Rolls m (m + n))
  unfolding does unrolling able
  unrolling-minus e = record { same = rw (e, sym p, sym q) refl; rule = lt-ltb (m + n) (2 * m) (omega (arith, p, q, h)) }

  pub unrolling-plus : minus y ≡ false → Rolled (unrolling x y) l (Rolls m (m - n))
  unfolding does unrolling able
  unrolling-plus e = record { same = rw (e, sym p, sym q) refl; rule = lt-ltb (m - n) (2 * m) (omega (arith, p, q, h)) }

-- ---- the arguments of a roll

first-digits : (l : List ℤ) → all_of nine_digits l ≡ true → size (arg 1 l) ≤ 999999999
unfolding all_of nine_digits arg
first-digits [] e = omega arith
first-digits (x ∷ l) e = leb→le _ _ (so (and_left (leb (size x) 999999999) _ e))

pub roll-made : (l : List ℤ) → all_of nine_digits l ≡ true → is_roll l ≡ true → Roll l
unfolding is_roll
roll-made l d e =
    let rest = and_right (eqb (length l) 2) _ e in
    record {
      two = eqb→eq _ _ (so (and_left (eqb (length l) 2) _ e));
      above = ltb→lt _ _ (so (and_right (not (minus (arg 1 l))) _ rest));
      digits = first-digits l d;
    }
