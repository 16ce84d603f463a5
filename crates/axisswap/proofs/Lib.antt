-- Laws of an order: what it does to numbers and to signed places, and its text.
pub mod OrderedNumbers
pub mod OrderedPlaces
pub mod Words
