-- Laws of bands put at once.
--     Numbers   numbers of a band as the code computes them
--     Laying    a band, block by block
pub mod Numbers
pub mod Laying
