-- Laws of two maps walked together.
--     Cursor   one list walked by a cursor
--     Walked   two lists walked together, by any rule: a run of steps
pub mod Cursor
pub mod Walked
