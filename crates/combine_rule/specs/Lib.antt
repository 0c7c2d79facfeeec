-- The pixel rules.
pub mod Accounts
pub mod Rule
pub mod Choices
