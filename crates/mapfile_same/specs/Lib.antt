-- One map, one file.
pub mod Same
pub mod Worked
