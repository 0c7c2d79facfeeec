-- Decoding.
pub mod Decode
pub mod Filled
