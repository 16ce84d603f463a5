-- "Steps and columns": step records, preparing, the steps that run, the run, the check, and the text of a record.
pub mod Record
pub mod Keys
pub mod Offsets
pub mod Prepare
pub mod Running
pub mod Columns
pub mod Tuples
pub mod Run
pub mod Check
pub mod Write
