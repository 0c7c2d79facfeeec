-- Stores of a claim.
pub mod Stores
