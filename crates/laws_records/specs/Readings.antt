-- The same record in another reading: it is made as the first is, and its text is the same; and the records of one table are all of one
-- reading.
use Rattle.std.specs.Prelude.{◌≡◌, refl, ℕ, zero, suc, ◌≤◌, true, List, [], ◌∷◌, map, leb, eqb, ℤ}
use Rattle.std.proofs.Common.{arith, leb-true, le-leb}
use Rattle.rules.specs.Text.Lists.{all_of}
use Rattle.rules.specs.Operators.Arguments.{size}
use Rattle.rules.specs.Operators.Table.{is_args, greatest}
use Rattle.rules.specs.Pipeline.Record.{reading_number, reading_of, step_with, in_reading, is_set, operator, args, unused, nine_digits, made, of_mode}
use Rattle.rules.specs.Pipeline.Running.{opposite, turns, directed, act}
use Rattle.rules.specs.Pipeline.Write.{mark_words, step_words, writing}
use Rattle.rules.specs.declared.Mode.{Mode}
use Rattle.rules.specs.declared.Reading.{Reading}
use Rattle.rules.specs.declared.Reading.TheVariants.{Crate, Proj}
use Rattle.rules.specs.declared.Direction.{Direction}
use Rattle.rules.specs.declared.Step.{Step}
use Rattle.laws_lists.specs.Lists.{Every}
use Rattle.laws_lists.specs.Tests.{and_left, and_right}
use Rattle.laws_records.specs.MadeSo.{made_so}

-- ---- a reading and its number

reading_small : (r : Reading) → leb (reading_number r) 1 ≡ true
unfolding reading_number
reading_small Crate = refl
reading_small Proj = refl

-- of the two numbers
pub number-again : (k : ℕ) → leb k 1 ≡ true → reading_number (reading_of k) ≡ k
unfolding reading_number reading_of
number-again zero h = refl
number-again (suc zero) h = refl
number-again (suc (suc k)) h = absurd (none k (leb-true (suc (suc k)) 1 h))
  where
    none : (k : ℕ) → suc (suc k) ≤ 1 → ⊥
    none k h = omega arith

-- ---- one record

-- a record that has the reading already
pub named-so : (r : Reading) (s : Step) → reading_number r ≡ s.reading → in_reading r s ≡ s
unfolding in_reading
named-so r s h = rw h

pub made-named : (r : Reading) (s : Step) → made s ≡ true → made (in_reading r s) ≡ true
unfolding made operator args unused in_reading
made-named r s h =
    let m = made_so s h in
    let t = in_reading r s in
    let zeros : all_of (λ (x : ℤ). eqb (size x) 0) (unused t) ≡ true = m.zeros in
    let digits : all_of nine_digits (args t) ≡ true = m.digits in
    let rule : is_args (operator t) (args t) ≡ true = m.rule in
    rw (le-leb s.operator greatest m.number, le-leb s.n 8 m.slots, m.inv, m.forward, m.inverse, reading_small r, zeros, digits) rule

pub writing-named : (r : Reading) (s : Step) → writing (in_reading r s) ≡ writing s
unfolding writing step_words mark_words operator args in_reading
writing-named r s = refl

-- ---- records of one reading

abbrev pub InIt : ℕ → Step → Type 0
InIt reading s = reading ≡ s.reading

pub all_named : (r : Reading) (l : List Step) → Every (InIt (reading_number r)) (map (in_reading r) l)
unfolding Every in_reading
all_named r [] = tt
all_named r (s ∷ l) = (refl, all_named r l)

pub named-all : (r : Reading) (l : List Step) → Every (InIt (reading_number r)) l → map (in_reading r) l ≡ l
unfolding Every
named-all r [] h = refl
named-all r (s ∷ l) h = rw (named-so r s h.0, named-all r l h.1)

pub all-made-named : (r : Reading) (l : List Step) → all_of made l ≡ true → all_of made (map (in_reading r) l) ≡ true
unfolding all_of
all-made-named r [] h = refl
all-made-named r (s ∷ l) h = rw (made-named r s (and_left (made s) _ h)) (all-made-named r l (and_right (made s) _ h))

pub all-mode-named : (r : Reading) (mode : Mode) (l : List Step) → all_of (of_mode mode) l ≡ true → all_of (of_mode mode) (map (in_reading r) l) ≡ true
unfolding all_of of_mode operator in_reading
all-mode-named r mode [] h = refl
all-mode-named r mode (s ∷ l) h = rw (and_left (of_mode mode s) _ h) (all-mode-named r mode l (and_right (of_mode mode s) _ h))

-- ---- `inv` in PROJ's reading

-- Whatever the operator, a step with `inv` does what the step without it does in the other direction.
pub inv-turns : (d : Direction) (number : ℕ) (l : List ℤ) (fwd back : ℕ) → act d (in_reading Proj (step_with number l 1 fwd back)) ≡ act (opposite d) (in_reading Proj (step_with number l 0 fwd back))
unfolding act directed turns reading_of reading_number is_set in_reading step_with operator args
inv-turns d number l fwd back = refl
