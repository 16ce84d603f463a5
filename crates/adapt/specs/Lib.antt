-- What the contracts speak of: factors, the test of the arguments, the words as they are read, and their text.
pub mod Factors
pub mod Arguments
pub mod Text
pub mod Words
