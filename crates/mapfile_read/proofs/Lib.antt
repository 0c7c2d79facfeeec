-- Laws of the reader.
--     WordsInTurn   the pass over the words of a file, turn by turn
--     ReaderLaws    what an accepted file has
--     ReadStores    the words of a file stored one by one, and the slots behind them cleared
--     Examining     the examination of a file, check by check, and what the reader makes of its answer
pub mod WordsInTurn
pub mod ReaderLaws
pub mod ReadStores
pub mod Examining
