pub mod Callee
pub mod Close
pub mod Owned
pub mod Fields
pub mod Counting
pub mod Branch
pub mod Enums
