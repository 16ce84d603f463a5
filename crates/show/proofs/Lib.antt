-- The laws that the proofs of what is printed share.
pub mod TwoPieces
pub mod Located
pub mod CallAnswers
pub mod HeadedLines
pub mod PreparedTable
pub mod Replies
pub mod OptionalPieces
pub mod Sizes
pub mod Verdicts
