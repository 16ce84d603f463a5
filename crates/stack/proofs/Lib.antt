-- Laws of the seven actions: on numbers, on signed places, in each direction, their rules and their text.
pub mod RollActs
pub mod Flipped
pub mod TracedFlip
pub mod AllOrNone
pub mod FullTurns
pub mod Rolled
pub mod SomePlaces
pub mod Swapped
pub mod TracedRoll
pub mod Directions
pub mod Texts
pub mod LastAction
pub mod ActionRules
