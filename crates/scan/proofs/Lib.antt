-- Laws of a feed whole and of a fresh scan.
--     Feeds   a feed whole, and a fresh scan
pub mod Feeds
