-- Laws of the numbers in bytes.
--     ItemsLaws   laws of the numbers in the bytes of a file
pub mod ItemsLaws
