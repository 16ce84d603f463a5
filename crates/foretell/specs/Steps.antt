-- The check one step after the other, as the code holds it.
use Rattle.std.specs.Prelude.{◌≡◌, ℕ, ◌+◌, max, Bool, false, cond, not, ◌||◌, List, set, replicate}
use Rattle.rules.specs.Operators.Acts.{Act}
use Rattle.rules.specs.Pipeline.Record.{no_span}
use Rattle.rules.specs.Pipeline.Check.{adapting, no_place, four, plus}
use Rattle.columns.specs.declared.traced.Traced.{Traced}
use Rattle.columns.specs.Traces.{depth, Moved}
use Rattle.rules.specs.declared.Foretold.{Foretold}
use Rattle.rules.specs.declared.Verdict.TheVariants.{Passes}

-- what the steps so far have come to: the places, how many ran, the depth after each, the deepest, and whether an
-- `adapt` step ran
pub record Sofar : Type 0 where
  pub traced : Traced
  pub run : ℕ
  pub depths : List ℕ
  pub deepest : ℕ
  pub adapts : Bool

abbrev pub sofar : Traced → ℕ → List ℕ → ℕ → Bool → Sofar
sofar t run depths deepest adapts = record { traced = t; run = run; depths = depths; deepest = deepest; adapts = adapts }

-- places 1 to 4, and no columns
abbrev pub beginning : Traced
beginning = record { tuple = four (plus 1) (plus 2) (plus 3) (plus 4); columns = replicate 64 no_place; top = 64 }

-- before the first step
pub record Begun (c : Sofar) : Type 0 where
  pub exactly : c ≡ record {
    traced = beginning;
    run = 0;
    depths = replicate 64 0;
    deepest = 0;
    adapts = false;
  }

-- one step more
pub record Went (a : Act) (depth : ℕ) (c r : Sofar) : Type 0 where
  pub traced : Moved a c.traced r.traced
  pub run : r.run ≡ c.run + 1
  pub depths : r.depths ≡ set c.depths c.run depth
  pub deepest : r.deepest ≡ max c.deepest depth
  pub adapts : r.adapts ≡ (c.adapts || adapting a)

-- what the last step leaves, if all passed
unfoldable pub told_of : Sofar → Foretold
told_of c =
    record {
      verdict = Passes;
      span = no_span;
      run = c.run;
      depths = c.depths;
      deepest = c.deepest;
      left = depth c.traced;
      told = not c.adapts;
      places = cond (not c.adapts) c.traced.tuple (replicate 4 no_place);
    }
