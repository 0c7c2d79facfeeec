-- Laws of decoding.
--     FilledLaws    spans of bytes, rectangles of them and tiles, each put together from the one before
--     FillingLaws   the tiles of a list in turn, and then the whole raster
--     DecodeLaws    what the offered call gives, by how its checks end
pub mod FilledLaws
pub mod FillingLaws
pub mod DecodeLaws
