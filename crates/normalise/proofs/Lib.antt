pub mod Calm
pub mod Laws
pub mod Lined
pub mod Replacements
pub mod Room
pub mod Stripped
pub mod Weights
