-- Laws of changed blocks in linear quadtrees.
--     Index    tilings by index, as a list in slots is read
--     Place    the place of a block among the four quadrants of its parent, and merging by index
--     Splice   a raster changed in one block
--     Split    laws of a block of one account inside a block of another (`Split`), taken apart level by level
pub mod Index
pub mod Place
pub mod Splice
pub mod Split
