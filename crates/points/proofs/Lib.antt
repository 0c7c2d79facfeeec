-- Laws of points, Morton numbers and blocks asked for without a map.
--     PointsComputed   the worked lines, computed
--     PointsLaws       the answers by how the checks end, and what passes the checks
--     ThereAndBack     a point has one Morton number, a Morton number one point, and a point one block of each size
pub mod PointsComputed
pub mod PointsLaws
pub mod ThereAndBack
