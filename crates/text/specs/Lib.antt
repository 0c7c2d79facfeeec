-- Bytes put into a lent buffer.
pub mod PutAt
pub mod Puts
