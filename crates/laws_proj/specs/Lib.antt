-- Theorems about the definitions of `rules` on translating.
pub mod Tests
pub mod Tidying
pub mod Flowing
pub mod Solid
pub mod Plain
pub mod Step
pub mod Bounds
pub mod Ordering
pub mod Cutting
