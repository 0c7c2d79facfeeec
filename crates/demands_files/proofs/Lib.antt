-- Laws of the files that lists of calls write.
--     Computed   the worked lines
--     Theorem    the corollary of demand 3
pub mod Computed
pub mod Theorem
