-- The source's readers as they stand (Strings, Readers, Descriptor), and what of words and blanks is said of no reader (Words, Spaced). The theorems about
-- the readers are in proofs/.
pub mod Strings
pub mod Readers
pub mod Descriptor
pub mod Words
pub mod Spaced
