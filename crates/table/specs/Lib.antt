-- The table of rights, and how the lab loads its own.
pub mod Table
pub mod Load
pub mod Promises
pub mod Worked
