-- The listing of a whole input, by a program that reads and lends a fixed number of bytes. Definitions only.
--     input_bytes                bedlist reads so much of its input: more changes no listing (law `listing_read`)
--     listing_bytes              bedlist lends so many bytes: every listing fits (law `listing_fits`)
--     Whole read out end new    every input of which `read` is read has a listing of length `end`, which is accepted
--                               and leaves `new` in the bytes lent `out`
use Rattle.std.specs.Prelude.{◌≡◌, List, ℕ, ◌+◌, ◌^◌, ◌≤◌, length, take}
use Rattle.refusal.specs.Refusal.{accepted}
use Rattle.listing.specs.Listing.{listed_order, listed_to, list_of}

-- an order, the pixels of the highest order, and one too many
abbrev pub input_bytes : ℕ
input_bytes = 1 + 4 ^ listed_order + 1

abbrev pub listing_bytes : ℕ
listing_bytes = 65536

pub record Whole (read out : List ℕ) (end : ℕ) (new : List ℕ) : Type 0 where
  pub fits : end ≤ length new
  pub lists : (input : List ℕ) → take input_bytes input ≡ read → listed_to accepted end new ≡ list_of input out
