-- Claims and their previews.
pub mod Answers
pub mod Claim
pub mod Preview
pub mod Outcome
pub mod Worked
