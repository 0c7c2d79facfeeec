-- Laws of the checks that a call on a scan begins with.
--     Unscanned     the place of a pixel as code computes it, and what check 22 shows
--     ByRows        check 22 by rows, word by word
--     ByMorton      check 22 in Morton order
--     ScannedLaws   52, by how it ends
--     Opening       the opening checks in their order
pub mod Unscanned
pub mod ScannedLaws
pub mod ByRows
pub mod ByMorton
pub mod Opening
