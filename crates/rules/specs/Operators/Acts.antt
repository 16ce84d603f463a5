-- What a step does, once its direction is settled: "Action names and function pointers become cases".
use Rattle.std.specs.Prelude.{ℕ, Bool, List, ℤ}
use Rattle.rules.specs.declared.Mode.{Mode}

pub data Act : Type 0 where
  -- a column for each place, in this order
  pushes : List ℕ → Act
  -- the operator `pop`: a column into each place, in this order, one after the other
  pops : List ℕ → Act
  -- the action `pop`: the same, all or none
  pops_all : List ℕ → Act
  -- each place exchanged with its column, the top one first
  flips : List ℕ → Act
  -- the top column goes under the top m, n times
  rolls : ℕ → ℕ → Act
  -- the two top columns exchanged; nothing
  swaps drops : Act
  -- the tuple's numbers in another order, or adapted in a mode: with the step's arguments, forward (false) or back (true)
  orders : Bool → List ℤ → Act
  adapts : Mode → Bool → List ℤ → Act
