pub mod Clean
pub mod Cuts
pub mod Facts
pub mod Heads
pub mod Steps
pub mod Words
