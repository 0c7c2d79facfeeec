-- Lists of calls, and the three demands.
pub mod Calls
pub mod Demands
