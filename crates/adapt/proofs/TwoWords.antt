-- Two words make eight arguments: for each of the four axes of `to` its place in `from`, turned where one of the two axes
-- there is, and the code that goes from one angle to the other.
use mathlib.Core.Path.{◌≡◌, refl, sym}
use Prim.Native.Nat.{ℕ, ◌+◌, ◌-◌, ◌*◌, ◌≤◌}
use mathlib.Core.Bool.{Bool, beq, true, false, not, xor, cond}
use mathlib.Core.List.{[], ◌∷◌}
use native.Mathlib.Omega.{arith}
use lib.Dec.{eqb}
use lib.IntN.{ℤ, pos, ◌+ℤ◌, ◌*ℤ◌}
use lib.ListN.{get_or}
use mir.Syntax.{w32}
use mir.Val.{to_z, of_z}
use denote.Enum.Bare.{sameb}
use denote.Enum.Declared.{tag_of}
use Rattle.rules.specs.Text.Decimal.{signed, minus}
use Rattle.rules.specs.Operators.Arguments.{size, arg}
use Rattle.rules.specs.Operators.Adapt.{position, output_of, angles, combined}
use Rattle.laws_lists.specs.Tests.{never}
use Rattle.adapt.specs.contracts.word.Angle.{the_type as angle-is}
use Rattle.adapt.specs.declared.word.Angle.{Angle}
use Rattle.adapt.specs.declared.word.Angle.TheVariants.{Radians, Degrees, Gons}
use Rattle.adapt.specs.declared.word.Word.{Word}
use Rattle.adapt.specs.Words.{number, word_as}
use Rattle.adapt.proofs.FirstPlace.{finds-size, place-most}

pub differ : (a b : Bool) → not (beq a b) ≡ xor a b
unfolding xor
differ true true = refl
differ true false = refl
differ false true = refl
differ false false = refl

-- ---- the code of two angles, as the code makes it of their tags

abbrev tag : Angle → ℤ
tag a = to_z w32 (tag_of angle-is a)

abbrev code_in : Angle → Angle → ℤ
code_in a b = to_z w32 (of_z w32 (to_z w32 (of_z w32 (pos 3 *ℤ tag a)) +ℤ tag b))

-- alike
code-none : (a b : Angle) → true ≡ sameb angle-is a b → pos 0 ≡ pos (cond (eqb (number a) (number b)) 0 (3 * number a + number b))
code-none Radians Radians e = refl
code-none Radians Degrees e = absurd (never (cc e))
code-none Radians Gons e = absurd (never (cc e))
code-none Degrees Radians e = absurd (never (cc e))
code-none Degrees Degrees e = refl
code-none Degrees Gons e = absurd (never (cc e))
code-none Gons Radians e = absurd (never (cc e))
code-none Gons Degrees e = absurd (never (cc e))
code-none Gons Gons e = refl

-- or not
code-some : (a b : Angle) → false ≡ sameb angle-is a b → code_in a b ≡ pos (cond (eqb (number a) (number b)) 0 (3 * number a + number b))
code-some Radians Radians e = absurd (never (cc e))
code-some Radians Degrees e = refl
code-some Radians Gons e = refl
code-some Degrees Radians e = refl
code-some Degrees Degrees e = absurd (never (cc e))
code-some Degrees Gons e = refl
code-some Gons Radians e = refl
code-some Gons Degrees e = refl
code-some Gons Gons e = absurd (never (cc e))

module _ (v w : Word) where
  -- ---- an output

  pub output-small : (s : ℕ) {p : ℕ} → p ≡ position 1 s v.axes → p ≤ 999999999
  output-small s e = omega (arith, place-most (finds-size s) v.axes, v.four)

  pub output-so : (i : ℕ) {s p : ℕ} {a b : Bool} → s ≡ size (get_or w.axes i (pos 0)) → p ≡ position 1 s v.axes → a ≡ minus (get_or v.axes i (pos 0))
      → b ≡ minus (get_or w.axes i (pos 0)) → signed (not (beq a b)) p ≡ output_of (word_as v) (word_as w) (i + 1)
  unfolding output_of word_as arg
  output-so i {s} {p} {a} {b} d e f g = let k : i + 1 - 1 ≡ i = omega arith in sym (rw (k, ← d, ← e, ← f, ← g, ← differ a b))

  -- ---- the code of two angles

  pub code_same : true ≡ sameb angle-is v.angle w.angle → pos 0 ≡ angles (word_as v) (word_as w)
  unfolding angles word_as
  code_same e = code-none v.angle w.angle e

  pub code_other : false ≡ sameb angle-is v.angle w.angle → code_in v.angle w.angle ≡ angles (word_as v) (word_as w)
  unfolding angles word_as
  code_other e = code-some v.angle w.angle e

  -- ---- all eight

  pub between-so : {a b c d k : ℤ} → a ≡ output_of (word_as v) (word_as w) 1 → b ≡ output_of (word_as v) (word_as w) 2 → c ≡ output_of (word_as v) (word_as w) 3
      → d ≡ output_of (word_as v) (word_as w) 4 → k ≡ angles (word_as v) (word_as w) → a ∷ b ∷ c ∷ d ∷ k ∷ k ∷ pos 0 ∷ pos 0 ∷ [] ≡ combined (word_as v) (word_as w)
  unfolding combined
  between-so p q r s e = rw (p, q, r, s, e)
