-- Laws of quadrant part.
--     InsideLaws   the tiles of a valid list inside a block, by how many start ahead of its corner and of its stop
--     PartLaws     quadrant part gives just the tiles of a valid list that lie wholly inside the quadrant
pub mod InsideLaws
pub mod PartLaws
