-- What is signed: Promises, statements alone; Kept in proofs/ proves each of them.
pub mod Promises
