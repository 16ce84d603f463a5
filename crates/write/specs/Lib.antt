-- What the contracts speak of: the parts of a step's text.
pub mod Parts
