-- Laws of the scan's places and of the plain bed.
--     BedComputed   the worked lines of the plain bed, computed by the checker
--     LastPixel     the last pixel of a block of Morton numbers is the south-eastern pixel of its square
--     PlaceLaws     laws of the places of a scan, for both kinds and every order
--     ScannedBlocks whether a block is scanned: its last pixel decides
--     BedLaws       laws of the plain bed
pub mod BedComputed
pub mod LastPixel
pub mod PlaceLaws
pub mod ScannedBlocks
pub mod BedLaws
pub mod PlaceWords
