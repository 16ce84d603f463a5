-- What the contracts speak of: axes, room for a text, digits in a buffer, and the tests of one argument.
pub mod Axes
pub mod Order
pub mod Parts
pub mod Spelt
pub mod Tests
