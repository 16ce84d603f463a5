pub mod Flaws
pub mod Places
