-- What is promised of the map file.
pub mod RoundTrip
pub mod Totals
pub mod Worked
