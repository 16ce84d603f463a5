-- What the numbered lines of the steps are.
pub mod Lines
