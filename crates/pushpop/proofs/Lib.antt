-- Laws of `push` and `pop`: on numbers, on signed places, in each direction, and their text.
pub mod Popped
pub mod Pushed
pub mod RisingPlaces
pub mod TracedPop
pub mod TracedPush
pub mod Words
pub mod Directions
