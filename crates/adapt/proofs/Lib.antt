-- Laws of `adapt`: its words, the arguments that they make, their test, what they do to numbers, and their text.
pub mod Scaled
pub mod Signs
pub mod AdaptTest
pub mod Spelt
pub mod SpeltByAxis
pub mod FirstPlace
pub mod WordRead
pub mod TwoWords
pub mod ByAxis
pub mod ActIn
