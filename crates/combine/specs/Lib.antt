-- A third list from two maps.
pub mod Answers
pub mod Combine
pub mod Maps
pub mod ThirdMap
pub mod Worked
