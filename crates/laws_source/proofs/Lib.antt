-- Theorems about the source's readers of specs/: what they never do, and that the definitions of `rules` read every text as they do.
pub mod Branch
pub mod LineWords
pub mod Normalised
pub mod Stripped
pub mod Steps
pub mod Letters
