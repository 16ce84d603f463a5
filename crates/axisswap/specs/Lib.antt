-- What the contracts speak of: reordering by slots and signs, of numbers and of places.
pub mod Places
pub mod Signs
