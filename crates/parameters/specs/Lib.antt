pub mod Replies
pub mod Elements
pub mod Parts
pub mod Tables
