-- Laws of one map and one file.
--     Computed   the worked lines
--     ByteLaws   lists of bytes
--     Made       an accepted file is made of its items
--     Promised   what is promised
pub mod Computed
pub mod ByteLaws
pub mod Made
pub mod Promised
