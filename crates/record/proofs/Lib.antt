-- Laws of a record by its operator's number, of refusal 18, and of the walk over a table.
pub mod OperatorRules
pub mod Refused18
pub mod RunningOrder
pub mod SoundTable
pub mod Directed
pub mod StepMade
pub mod SlotsUsed
