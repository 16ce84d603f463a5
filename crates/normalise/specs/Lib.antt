pub mod Calm
pub mod Table
