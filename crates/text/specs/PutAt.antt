-- Inner: bytes put into a lent buffer: done in front, untouched behind. Definitions only.
--     count_limit                      places and counts are below it
--     PutAt bytes at old end new    putting the bytes from the place `at` on made the buffer `new` of `old`, and `end`
--                                     is the place behind them
-- Of a buffer that ends before `end` nothing but its length is known: such a pass counts the bytes.
use Rattle.std.specs.Prelude.{◌≡◌, List, ◌++◌, ℕ, ◌+◌, ◌^◌, ◌≤◌, length, take, drop}

abbrev pub count_limit : ℕ
count_limit = 2 ^ 64

pub record PutAt (bytes : List ℕ) (at : ℕ) (old : List ℕ) (end : ℕ) (new : List ℕ) : Type 0 where
  pub stop : end ≡ at + length bytes
  pub size : length new ≡ length old
  pub put : end ≤ length old → new ≡ take at old ++ (bytes ++ drop end old)
