-- Demand 3, after a pass without `adapt`: number j of tuple i that a run leaves is the one that stood in the same tuple at the place that the
-- check names for j, its sign kept or turned. A list has its tuples one after the other, so number j of tuple i is at i * 4 + (j - 1).
use Rattle.std.specs.Prelude.{◌≡◌, refl, ℕ, zero, suc, ◌+◌, ◌-◌, ◌*◌, ◌/◌, ◌%◌, ◌≤◌, ◌<◌, true, false, not, length, get_or, Float}
use Rattle.std.proofs.Common.{sym, ◌∙◌, arith}
use Rattle.std.proofs.Math.Path.{ap}
use mathlib.Core.List.{List, [], ◌∷◌, map}
use Rattle.std.proofs.lemmas.List.{length-map}
use Rattle.std.specs.Float.{nan}
use Rattle.rules.specs.Operators.Numbers.{number, turn}
use Rattle.rules.specs.Pipeline.Running.{running}
use Rattle.rules.specs.Pipeline.Tuples.{tuples, numbers}
use Rattle.rules.specs.Pipeline.Run.{runs, done}
use Rattle.rules.specs.Pipeline.Check.{place, any_adapt, check}
use Rattle.rules.specs.Face.Demands.{number_at}
use Rattle.rules.specs.declared.Coord.{Coord}
use Rattle.rules.specs.declared.Step.{Step}
use Rattle.rules.specs.declared.Direction.{Direction}
use Rattle.rules.specs.declared.Verdict.TheVariants.{Passes}
use Rattle.laws_steps.specs.Places.{seen, shown, number-shown}
use Rattle.laws_steps.specs.Named.{Named, place-named}
use Rattle.laws_steps.specs.Lengths.{tuples-length, numbers-tuples}
use Rattle.laws_steps.specs.Foretold.{told-exactly, foretells}
use Rattle.laws_steps.specs.Runs.{answered, fourfold, as-foretold}

-- ---- number s of tuple i stands at i * 4 + s

abbrev pub none4 : Coord
none4 = record { a = nan; b = nan; c = nan; d = nan }

no_less : {i : ℕ} → i < 0 → ⊥
no_less h = omega arith

no-four : {s : ℕ} → suc (suc (suc (suc s))) < 4 → ⊥
no-four h = omega arith

further : (i s : ℕ) → suc i * 4 + s ≡ suc (suc (suc (suc (i * 4 + s))))
further i s = omega arith

numbers-at : (ts : List Coord) (i s : ℕ) → i < length ts → s < 4 → get_or (numbers ts) (i * 4 + s) nan ≡ number (suc s) (get_or ts i none4)
unfolding numbers number
numbers-at [] i s h k = absurd (no_less h)
numbers-at (t ∷ ts) zero zero h k = refl
numbers-at (t ∷ ts) zero (suc zero) h k = refl
numbers-at (t ∷ ts) zero (suc (suc zero)) h k = refl
numbers-at (t ∷ ts) zero (suc (suc (suc zero))) h k = refl
numbers-at (t ∷ ts) zero (suc (suc (suc (suc s)))) h k = absurd (no-four k)
numbers-at (t ∷ ts) (suc i) s h k = rw (further i s) (numbers-at ts i s (omega arith) k)

less_one : (s : ℕ) → suc s - 1 ≡ s
less_one s = omega arith

map_at : (g : Coord → Coord) (ts : List Coord) (i : ℕ) → i < length ts → get_or (map g ts) i none4 ≡ g (get_or ts i none4)
map_at g [] i h = absurd (no_less h)
map_at g (t ∷ ts) zero h = refl
map_at g (t ∷ ts) (suc i) h = map_at g ts i (omega arith)

-- and at i * 4 + (j - 1), where places count from 1
module _ (xs : List Float) (whole : length xs % 4 ≡ 0) (i : ℕ) (h : i < length xs / 4) where
  below : i < length (tuples xs)
  below = rw (tuples-length xs) h

  pub own_at : (j : ℕ) → 1 ≤ j → j ≤ 4 → number j (get_or (tuples xs) i none4) ≡ number_at xs i j
  own_at zero a b = absurd (no_less a)
  own_at (suc s) a b =
      rw (less_one s) (sym (numbers-at (tuples xs) i s below b) ∙ ap (λ (l : List Float). get_or l (i * 4 + s) nan) (numbers-tuples xs whole))

  pub mapped_at : (g : Coord → Coord) (j : ℕ) → 1 ≤ j → j ≤ 4 → number_at (numbers (map g (tuples xs))) i j ≡ number j (g (get_or (tuples xs) i none4))
  mapped_at g zero a b = absurd (no_less a)
  mapped_at g (suc s) a b =
      rw (less_one s) (numbers-at (map g (tuples xs)) i s (rw (length-map (tuples xs) g) below) b ∙ ap (number (suc s)) (map_at g (tuples xs) i below))

-- ---- of a check that passes

module _ (d : Direction) (t : List Step) (passes : (check d t).verdict ≡ Passes) (no-adapt : any_adapt (running d t) ≡ false) where
  told : (check d t).told ≡ true
  told = told-exactly d t passes ∙ ap not no-adapt

  -- each place that it names is one of the four
  pub is-named : (j : ℕ) → Named (place j (check d t).places)
  is-named j = place-named j (check d t).places ((foretells d t [] passes).named told)

  pub own-number : (xs store : List Float) (c n : ℕ) → (runs d t xs store).answer ≡ done c n → (i : ℕ) → i < length xs / 4 → (j : ℕ) → 1 ≤ j → j ≤ 4
      → number_at (runs d t xs store).list i j ≡ turn (place j (check d t).places).minus (number_at xs i (place j (check d t).places).axis)
  unfolding seen
  own-number xs store c n done i h j a b =
      let w = fourfold xs (answered d t xs store c n done).fourfold in
      let ps = (check d t).places in
      let k = is-named j in
      ap (λ (l : List Float). number_at l i j) ((as-foretold d t xs store c n passes done).list told)
      ∙ mapped_at xs w i h (λ (q : Coord). shown q ps) j a b
      ∙ number-shown (get_or (tuples xs) i none4) j ps
      ∙ ap (turn (place j ps).minus) (own_at xs w i h (place j ps).axis k.least k.most)
