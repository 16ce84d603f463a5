-- The proof of every promise of specs/.
pub mod Kept
