-- Laws of the listing.
--     LineLaws      laws of the lines of tiles, and of lines put into a lent buffer
--     LentLaws      laws of listings in the bytes lent
--     ScannedLaws   what a fresh row scan, fed once, leaves
pub mod LineLaws
pub mod LentLaws
pub mod ScannedLaws
