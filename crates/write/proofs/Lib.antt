-- Laws of the text of a record, of a table, and of the two public calls.
pub mod Marks
pub mod TableText
pub mod OperatorTexts
