pub mod Adds
pub mod Pens
pub mod Pipelines
pub mod Plans
