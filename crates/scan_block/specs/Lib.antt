-- Blocks put in Morton order.
pub mod Blocks
