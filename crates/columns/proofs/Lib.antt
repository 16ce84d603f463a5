-- Laws of tuples and columns, by the loops that move them, and of acts, by what a match finds out of them.
pub mod Acted
pub mod DepthRules
pub mod Firsts
pub mod FourNumbers
pub mod InStore
pub mod Lent
pub mod OneNumber
pub mod Reversals
pub mod TupleAt
pub mod Zeros
pub mod BySlot
pub mod StoredPlace
pub mod DoesSo
pub mod EachTuple
pub mod ActVariants
