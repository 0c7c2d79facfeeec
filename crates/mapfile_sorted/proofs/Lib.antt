-- Laws of the roster by rising account.
--     Computed   the worked lines
--     Entries    the entries of a roster section, one by one
--     Section    the number of a roster section, by its entries
--     Promised   what is promised of writer and reader
pub mod Computed
pub mod Entries
pub mod Section
pub mod Promised
