-- Laws of the search.
--     CutLaws     laws of places among words
--     CountLaws   laws of counts of tiles, and of how many tiles of a sorted list lie ahead of a Morton number
pub mod CutLaws
pub mod CountLaws
