-- "Reading text": texts, answers and refusals, normalising, splitting, the reader, parameters, numbers.
pub mod Ascii
pub mod Lists
pub mod Bytes
pub mod Refusal
pub mod Normal
pub mod Comments
pub mod Split
pub mod Reader
pub mod Parameters
pub mod Decimal
pub mod Numerals
