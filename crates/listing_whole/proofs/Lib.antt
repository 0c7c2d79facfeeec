-- Laws of the listing of a whole input.
--     Bounds   how much is read, and how much is lent
pub mod Bounds
