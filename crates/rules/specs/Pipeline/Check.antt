-- The check: the steps run on signed places instead of numbers.
use Rattle.std.specs.Prelude.{◌≡◌, ℕ, ◌-◌, Bool, true, false, cond, not, List, [], ◌∷◌, ◌++◌, length, get_or, replicate, ltb, eqb, Option, None, Some}
use Rattle.std.proofs.Math.Bool.{xor}
use Rattle.rules.specs.Text.Lists.{any_of}
use Rattle.rules.specs.Pipeline.Record.{no_span, blank, refusal18}
use Rattle.rules.specs.Operators.Axisswap.{reordered}
use Rattle.rules.specs.Operators.Acts.{Act, pushes, pops, pops_all, flips, rolls, swaps, drops, orders, adapts}
use Rattle.rules.specs.Pipeline.Running.{Numbered, running}
use Rattle.rules.specs.Pipeline.Columns.{Machine, Kit, moved, too_few, after, depths, deepest}
use Rattle.rules.specs.declared.Span.{Span}
use Rattle.rules.specs.declared.Step.{Step}
use Rattle.rules.specs.declared.Direction.{Direction}
use Rattle.rules.specs.declared.Place.{Place}
use Rattle.rules.specs.declared.Verdict.{Verdict}
use Rattle.rules.specs.declared.Verdict.TheVariants.{Passes, TooFew, TooMany, Refused}
use Rattle.rules.specs.declared.Foretold.{Foretold}

-- ---- "four places, each with its sign"

abbrev pub plus : ℕ → Place
plus i = record { axis = i; minus = false }

-- what a slot holds that tells of no place
abbrev pub no_place : Place
no_place = record { axis = 0; minus = false }

abbrev pub four : Place → Place → Place → Place → List Place
four a b c d = a ∷ b ∷ c ∷ d ∷ []

abbrev pub nth : List Place → ℕ → Place
nth l k = get_or l k no_place

-- place i of four, and the four with p as place i
unfoldable pub place : ℕ → List Place → Place
place i l = cond (eqb i 1) (nth l 0) (cond (eqb i 2) (nth l 1) (cond (eqb i 3) (nth l 2) (nth l 3)))

unfoldable pub put_place : ℕ → Place → List Place → List Place
put_place i p l =
    cond (eqb i 1) (four p (nth l 1) (nth l 2) (nth l 3))
    (cond (eqb i 2) (four (nth l 0) p (nth l 2) (nth l 3))
    (cond (eqb i 3) (four (nth l 0) (nth l 1) p (nth l 3))
    (four (nth l 0) (nth l 1) (nth l 2) p)))

-- a place with its sign turned, or kept
unfoldable pub turn_place : Bool → Place → Place
unfolding xor
turn_place minus p = record { axis = p.axis; minus = xor minus p.minus }

-- ---- the steps on places

-- adapt moves no place, in either mode: where it runs, no places are told
abbrev pub on_places : Kit (List Place) Place
on_places =
    record {
      column = place;
      store = put_place;
      order = λ back l t. reordered place put_place turn_place back l t;
      adapt = λ mode back l t. t;
    }

abbrev pub Traced : Type 0
Traced = Machine (List Place) Place

-- places 1,2,3,4 and no columns
abbrev pub begin : Traced
begin = record { tuples = four (plus 1) (plus 2) (plus 3) (plus 4); columns = [] }

-- does "an `adapt` step" run?
unfoldable pub adapting : Act → Bool
adapting (pushes is) = false
adapting (pops is) = false
adapting (pops_all is) = false
adapting (flips is) = false
adapting (rolls w n) = false
adapting swaps = false
adapting drops = false
adapting (orders back l) = false
adapting (adapts mode back l) = true

unfoldable pub any_adapt : List Numbered → Bool
any_adapt l = any_of (λ (s : Numbered). adapting s.does) l

-- ---- the verdict

-- "passes .., or step and too few or too many": the first step, in running order, that finds fewer columns than it takes,
-- or leaves more than 64
unfoldable pub verdict : List Numbered → Traced → Verdict
verdict [] m = Passes
verdict (s ∷ l) m =
    let m' = moved on_places s.does m in
    let rest = verdict l m' in
    let enough = cond (ltb 64 (length m'.columns)) (TooMany s.place) rest in
    cond (too_few s.does (length m.columns)) (TooFew s.place) enough

-- an answer that tells no more than its verdict, and a span
unfoldable pub only : Verdict → Span → Foretold
only v p =
    record {
      verdict = v;
      span = p;
      run = 0;
      depths = replicate 64 0;
      deepest = 0;
      left = 0;
      told = false;
      places = replicate 4 no_place;
    }

-- "the depth after each step run, deepest, left, and four places, each with its sign, unless an `adapt` step runs"
unfoldable pub foretold : List Numbered → Foretold
foretold l =
    let ds = depths (moved on_places) l begin in
    let end = after (moved on_places) l begin in
    let told = not (any_adapt l) in
    record {
      verdict = Passes;
      span = no_span;
      run = length ds;
      depths = ds ++ replicate (64 - length ds) 0;
      deepest = deepest ds;
      left = length end.columns;
      told = told;
      places = cond told end.tuples (replicate 4 no_place);
    }

-- the span of the record at place k of a table
unfoldable pub span_at : ℕ → List Step → Span
span_at k t = (get_or t (k - 1) blank).span

-- "the check returns the span with its step"; a pass and a refusal name none
unfoldable pub answered : Verdict → List Step → List Numbered → Foretold
answered Passes t l = foretold l
answered (TooFew k) t l = only (TooFew k) (span_at k t)
answered (TooMany k) t l = only (TooMany k) (span_at k t)
answered (Refused number k) t l = only (Refused number k) no_span

unfoldable pub checked : Option ℕ → List Step → List Numbered → Foretold
checked (Some k) t l = only (Refused 18 k) no_span
checked None t l = answered (verdict l begin) t l

-- the check of a step table in a direction
unfoldable pub check : Direction → List Step → Foretold
check d t = checked (refusal18 t) t (running d t)

-- what the check promises of its answer
pub record Checks (d : Direction) (t : List Step) (result : Foretold) : Type 0 where
  pub exactly : result ≡ check d t
