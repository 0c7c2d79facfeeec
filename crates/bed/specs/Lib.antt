-- The scan record, the plain bed, and lines of it worked.
pub mod Kinds
pub mod Places
pub mod Bed
pub mod Shown
pub mod Worked
