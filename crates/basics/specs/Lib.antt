-- What every definition may use: choices, counts and tables of numbers, tests with what they test.
pub mod Choice
pub mod Test
