pub mod Lists
pub mod Signed
pub mod Tests
