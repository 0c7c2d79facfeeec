-- The listing of a scanned bed.
pub mod Listing
pub mod Answers
