-- The roster, and sets of accounts.
pub mod Roster
pub mod Accounts
