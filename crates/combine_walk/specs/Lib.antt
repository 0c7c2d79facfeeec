-- Two maps walked together.
pub mod Walk
