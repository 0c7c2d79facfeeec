-- What is offered to C and Rust.
pub mod Exports
