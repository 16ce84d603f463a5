pub mod Lines
pub mod Spaced
