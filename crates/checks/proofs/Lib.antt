-- Laws of the checks of what a call is handed besides its map.
--     AskedLaws   laws of the checks of what a call is handed besides its map
pub mod AskedLaws
