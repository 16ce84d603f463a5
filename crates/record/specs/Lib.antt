-- What the contracts speak of: a record in the code's order of tests, and the running order of a table.
pub mod Records
pub mod Visits
