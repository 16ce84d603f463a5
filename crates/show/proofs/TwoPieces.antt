-- A piece and a piece behind it, written one after the other: the laws of the crate numbers, for room that is told by lengths.
use mathlib.Core.List.{◌++◌}
use Prim.Native.Nat.{ℕ, ◌+◌, ◌≤◌}
use lib.ListN.{length}
use Rattle.rules.specs.Text.Bytes.{Bytes}
use Rattle.text.specs.Wrote.{WroteAt}
use Rattle.numbers.specs.Parts.{Room}
use Rattle.numbers.proofs.InTurn as turn
pub use Rattle.numbers.proofs.Listed.{put_written}

module _ (t u d : Bytes) (at : ℕ) (h : at + length (t ++ u) ≤ length d) where
  room : Room (t ++ u) at d
  room = record { fits = h }

  pub first-room : at + length t ≤ length d
  first-room = (turn.first-room t u room).fits

  pub second-room : {r : ℕ} {d' : Bytes} → WroteAt t d at r d' → r + length u ≤ length d'
  second-room w = (turn.then-room t u room w).fits

  pub both-said : {r r' : ℕ} {d' d'' : Bytes} → WroteAt t d at r d' → WroteAt u d' r r' d'' → WroteAt (t ++ u) d at r' d''
  both-said v w = turn.both-written t u room v w
