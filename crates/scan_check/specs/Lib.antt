-- The checks of a scan: those that a call on it begins with, and that what it asks for is scanned.
pub mod Opening
pub mod Scanned
pub mod Opened
pub mod Standing
