-- Numbers in decimal, lines of numbers, and digits read as a number.
pub mod Decimal
pub mod Lines
pub mod Value
pub mod Nines
