pub mod Actions
pub mod Faults
pub mod Lent
pub mod Lookup
pub mod Records
pub mod SeriesRead
pub mod StepReply
