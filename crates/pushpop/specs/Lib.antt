-- What the contracts speak of: the act of a push or a pop, and the flag of a place.
pub mod Acts
pub mod Flags
