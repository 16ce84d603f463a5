-- What a step does in a direction, and which steps run, in which order.
use Rattle.std.specs.Prelude.{ℕ, suc, Bool, true, cond, ◌&&◌, List, [], ◌∷◌, ◌++◌, ℤ}
use Rattle.rules.specs.Operators.Acts.{Act}
use Rattle.rules.specs.Operators.Descriptions.{Operator}
use Rattle.rules.specs.Operators.Table.{describe, forward, inverse}
use Rattle.rules.specs.Pipeline.Record.{reading_of, operator, args, is_set}
use Rattle.rules.specs.declared.Reading.{Reading}
use Rattle.rules.specs.declared.Reading.TheVariants.{Crate, Proj}
use Rattle.rules.specs.declared.Step.{Step}
use Rattle.rules.specs.declared.Direction.{Direction}
use Rattle.rules.specs.declared.Direction.TheVariants.{Forward, Inverse}

-- ---- one step

unfoldable pub opposite : Direction → Direction
opposite Forward = Inverse
opposite Inverse = Forward

-- "`inv` turns `axisswap` and `adapt` only: the pipeline picks the other three by name." In the reading named PROJ "`inv` also turns
-- `push`, `pop` and `stack`."
unfoldable pub turns : Reading → Operator → Bool
turns Crate o = (describe o).turned
turns Proj o = true

unfoldable pub directed : Direction → Step → Direction
directed d s = cond (turns (reading_of s.reading) (operator s) && is_set s.inv) (opposite d) d

unfoldable pub act_of : Direction → Operator → List ℤ → Act
act_of Forward o l = forward o l
act_of Inverse o l = inverse o l

unfoldable pub act : Direction → Step → Act
act d s = act_of (directed d s) (operator s) (args s)

-- ---- the steps that run

-- an act, and the place of its step in the table
pub record Numbered : Type 0 where
  pub place : ℕ
  pub does : Act

-- the source: `omit_fwd` leaves the step out of a forward run, `omit_inv` out of an inverse one
unfoldable pub omitted : Direction → Step → Bool
omitted Forward s = is_set s.omit_fwd
omitted Inverse s = is_set s.omit_inv

-- "running both ways": forward the steps run in their order, inverse the first one comes last
unfoldable pub ordered : Direction → Numbered → List Numbered → List Numbered
ordered Forward k l = k ∷ l
ordered Inverse k l = l ++ (k ∷ [])

-- the steps that run, in running order; the first of the list stands at `place` of the table
unfoldable pub running_from : ℕ → Direction → List Step → List Numbered
running_from place d [] = []
running_from place d (s ∷ l) =
    cond (omitted d s) (running_from (suc place) d l)
    (ordered d (record { place = place; does = act d s }) (running_from (suc place) d l))

unfoldable pub running : Direction → List Step → List Numbered
running d l = running_from 1 d l
