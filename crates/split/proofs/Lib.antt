pub mod Lengths
pub mod Laws
pub mod Lines
pub mod StepText
pub mod StepsPassed
