-- What can be put at once.
pub mod Suits
