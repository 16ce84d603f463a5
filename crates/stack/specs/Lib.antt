-- What the contracts speak of: an action's arguments, rolls, and an action's text.
pub mod Actions
pub mod Text
