pub mod Facts
pub mod Heads
pub mod Pieces
pub mod Room
pub mod Signs
pub mod Words
