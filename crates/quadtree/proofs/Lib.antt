-- The theory of linear quadtrees.
--     Alignment   powers of four and their multiples
--     Tiling      laws of tilings, the relation that carries a raster through every proof
--     Shown       what a tile list shows
--     Chains      quadrant tiles, lists of rising corners and chains
--     Blocks      the executable quadtree
--     Siblings    four siblings in a row
--     Unique      uniqueness
--     ValidLaws   valid lists and linear quadtrees are the same lists
--     Linear      the linear quadtree as a reader defines it
--     Least       the minimum
--     Change      valid lists changed by one tile or more, by membership alone
--     Merge       merging
--     TrailingZeros   the largest block that starts or ends at a number, by its trailing zeros
--     HighestBit  the largest block that has one number and not another, by the highest bit in which they differ
--     CutExamples   runs and stretches cut, computed
--     Cuts        stretches cut into blocks, block by block
--     Rest        the linear quadtree from a Morton number on
--     RunLaws     the law of runs
--     Laws        the laws of the theory, each with its whole statement
pub mod Alignment
pub mod Tiling
pub mod Shown
pub mod Chains
pub mod Blocks
pub mod Siblings
pub mod Unique
pub mod ValidLaws
pub mod Linear
pub mod Least
pub mod Change
pub mod Merge
pub mod TrailingZeros
pub mod HighestBit
pub mod CutExamples
pub mod Cuts
pub mod Rest
pub mod RunLaws
pub mod Laws
