-- What accounts weigh.
pub mod Weighed
