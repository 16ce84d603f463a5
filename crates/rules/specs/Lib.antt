-- Document 01 as written definitions: what a reader holds against it, and what the contracts cite. No algorithm stands
-- here, and no proof but that of the examples. Text, Proj, Operators and Pipeline follow the paper's headings; Face is what a
-- caller sees: the plain records, what the program `steps` prints, and the words of the demands.
pub mod Text
pub mod Proj
pub mod Operators
pub mod Pipeline
pub mod Face
pub mod Examples
pub mod Opened
pub mod ExamplesHold
