-- The roster by rising account.
pub mod Sorted
pub mod Worked
