-- Laws of one step, of each of the run's three passes, and of how the run ends.
pub mod OneStep
pub mod FirstBad
pub mod PlannedDepths
pub mod RunSoFar
pub mod Outcomes
pub mod ActedSo
