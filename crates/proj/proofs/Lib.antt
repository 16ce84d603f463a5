pub mod Flaws
pub mod Laid
pub mod Laws
pub mod Pipes
pub mod Puts
