-- What no impostor can promise.
pub mod Impostors
