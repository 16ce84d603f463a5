pub mod Places
pub mod Domain
pub mod Runs
pub mod Wrote
