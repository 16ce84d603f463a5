-- What is said of a lent row of step records, and of the table of 64 that stands for it.
pub mod Row
pub mod LaidRow
