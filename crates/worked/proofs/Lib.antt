-- The worked beds, computed.
--     StarredComputed   the starred lines, computed by the checker
pub mod StarredComputed
