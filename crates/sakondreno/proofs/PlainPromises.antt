-- The library's promises on a step table, in the words of plain records.
use Rattle.rules.specs.declared.Refusal.{Refusal}
use Rattle.rules.specs.declared.Finished.{Finished}
use Rattle.std.specs.Prelude.{Result}
use mathlib.Core.Path.{◌≡◌, ap, ◌∙◌}
use mathlib.Core.List.{List}
use Prim.Native.Nat.{ℕ}
use lib.Ieee.{Float}
use Rattle.rules.specs.Pipeline.Check.{check, Checks}
use Rattle.rules.specs.Pipeline.Run as rules
use Rattle.rules.specs.declared.Step.{Step}
use Rattle.rules.specs.declared.Direction.{Direction}
use Rattle.rules.specs.declared.Foretold.{Foretold}
use Rattle.rules.specs.declared.Checked.{Checked}
use Rattle.rules.specs.declared.Done.{Done}
use Rattle.rules.specs.Face.Plain.{direction_of, plain_check, PlainChecks, plain_ran, plain_outcome, PlainRuns}

pub checks-plain : {inverse : ℕ} {t : List Step} {d : Direction} {f : Foretold} {r : Checked}
    → d ≡ direction_of inverse → Checks d t f → r ≡ plain_check f → PlainChecks inverse t r
checks-plain {inverse} {t} g c h = record { exactly = h ∙ ap plain_check (c.exactly ∙ ap (λ (d : Direction). check d t) g) }

pub runs-plain : {inverse : ℕ} {t : List Step} {d : Direction} {xs store xs' store' : List Float} {r : Result Finished Refusal} {a : Done}
    → d ≡ direction_of inverse → rules.Runs d t xs store r xs' store' → a ≡ plain_ran r
    → PlainRuns inverse t xs store a xs' store'
unfolding plain_outcome
runs-plain {inverse} {t} {d} {xs} {store} {xs'} {store'} g c h =
    record {
      exactly =
          (λ i. record { answer = h i; list = xs'; store = store' })
          ∙ ap plain_outcome (c.exactly ∙ ap (λ (e : Direction). rules.runs e t xs store) g);
    }
