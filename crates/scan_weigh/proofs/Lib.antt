-- Laws of what accounts weigh.
--     Weighing   bytes looked at in turn
pub mod Weighing
