-- Laws of single arguments (axis, sign, kind), of loops over a list, and of texts written one after the other.
pub mod AxisAt
pub mod EachInTurn
pub mod InTurn
pub mod Listed
pub mod OfKind
pub mod OrderTest
pub mod Rest
pub mod SignMade
pub mod Spelt
