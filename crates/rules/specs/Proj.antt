-- "Translation": a PROJ text's words and steps, and the definition that they become.
pub mod Words
pub mod Translate
