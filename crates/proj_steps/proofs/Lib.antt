pub mod Added
pub mod Emitted
pub mod Globals
pub mod Penned
pub mod Plans
