-- Inner: bands of a scan by rows. Definitions only. A band of size k is 2 ^ k rows from the row r on, a multiple of 2 ^
-- k; the accounts are bytes, the first of which is that of the place d.
--     first n r, many n k         the first place of the row r, and how many places 2 ^ k rows have
--     band_weight n d bytes r k    what the quads of the band weigh
--     BandFits n d bytes r k      the band lies in the bed, its bytes are there, and none is above the highest account
use Rattle.std.specs.Prelude.{◌≡◌, List, ℕ, ◌+◌, ◌-◌, ◌*◌, ◌/◌, ◌^◌, ◌≤◌, ◌<◌, length}
use Rattle.tile.specs.Tile.{highest_account, highest_order}
use Rattle.scan_weigh.specs.Weighed.{rows_from}
use Rattle.scan_block.specs.Blocks.{byte_at}

abbrev pub first : ℕ → ℕ → ℕ
first n r = r * 2 ^ n

abbrev pub many : ℕ → ℕ → ℕ
many n k = 2 ^ k * 2 ^ n

abbrev pub band_weight : ℕ → ℕ → List ℕ → ℕ → ℕ → ℕ
band_weight n d bytes r k = rows_from bytes (2 ^ n) (2 ^ n / 2) (first n r - d) (2 ^ k / 2)

pub record BandFits (n d : ℕ) (bytes : List ℕ) (r k : ℕ) : Type 0 where
  pub order : n ≤ highest_order
  pub some : 1 ≤ k
  pub size : k ≤ n
  pub times : ℕ
  pub row : r ≡ times * 2 ^ k
  pub rows : r + 2 ^ k ≤ 2 ^ n
  pub start : d ≤ first n r
  pub end : first n r + many n k ≤ d + length bytes
  pub low : (i : ℕ) → first n r ≤ i → i < first n r + many n k → byte_at bytes d i ≤ highest_account
