-- "What each call owes its reader": the plain records of the exports, what `steps` prints, and the words of the promises.
pub mod Shown
pub mod Plain
pub mod Demands
pub mod Contract
