-- Laws of the roster and of sets of accounts.
--     CoveredLaws    laws of the pixels that an account covers
--     RosterLaws     laws of the roster that the writer lists
--     Sums           the pixels of an account summed word by word
--     GoodLaws       what makes entries the roster of tiles
--     RisingLaws     laws of entries whose accounts rise
--     AccountsLaws   laws of sets of accounts
pub mod CoveredLaws
pub mod RosterLaws
pub mod Sums
pub mod GoodLaws
pub mod RisingLaws
pub mod AccountsLaws
