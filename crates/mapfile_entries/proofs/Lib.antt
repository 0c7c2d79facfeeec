-- Laws of the passes over the words of a file and over the entries of its roster.
--     Summed          rising entries are the roster if they are right and together have the pixels of all tiles
--     Sums            the pixels of an account, turn by turn
--     EntriesInTurn   the entries in turn
--     SectionLaws     the checks of a roster section in turn
pub mod Summed
pub mod Sums
pub mod EntriesInTurn
pub mod SectionLaws
