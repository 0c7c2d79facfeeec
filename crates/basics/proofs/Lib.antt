-- Laws of tests and of choices.
--     Tests        a test together with what it tests
--     ChoiceLaws   laws of choices, by how the test ends, and of what is asked of the numbers of a stretch
--     CountLaws    a count in another order
--     Computed     a test that holds of every number below a bound, by computing it at each
--     MapLaws      part of a mapped list
pub mod Tests
pub mod ChoiceLaws
pub mod CountLaws
pub mod Computed
pub mod MapLaws
