-- Linear quadtrees.
pub mod Raster
pub mod Quadtree
pub mod Valid
pub mod Tiling
pub mod Runs
