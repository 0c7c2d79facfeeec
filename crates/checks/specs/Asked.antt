-- The checks of what a call is handed besides its map, one by one (document 01, "Refusals by the place of the check");
-- the calls compose them; `block_in` and `is_account` stand with the plain bed. Definitions only.
--     order_check n           1, the order of a call that is handed no map
--     point_in n c r          column c and row r are below 2 ^ n
--     point_check n c r       31, the point asked
--     coordinate_check n p    31, the column or the row asked alone
--     block_check n c k       32, the block asked
--     asker_check p           34, the asking account
--     given_check a           24, the account given
use Rattle.std.specs.Prelude.{Bool, ◌&&◌, ℕ, ◌^◌, leb, ltb}
use Rattle.refusal.specs.Refusal.{accepted, order_too_large, account_too_large, point_outside, block_invalid, asker_invalid}
use Rattle.refusal.specs.Checks.{must}
use Rattle.tile.specs.Tile.{highest_order}
use Rattle.bed.specs.Bed.{is_account, block_in}

unfoldable pub order_check : ℕ → ℕ
order_check n = must (leb n highest_order) order_too_large accepted

unfoldable pub point_in : ℕ → ℕ → ℕ → Bool
point_in n c r = ltb c (2 ^ n) && ltb r (2 ^ n)

unfoldable pub point_check : ℕ → ℕ → ℕ → ℕ
point_check n c r = must (point_in n c r) point_outside accepted

unfoldable pub coordinate_check : ℕ → ℕ → ℕ
coordinate_check n p = must (ltb p (2 ^ n)) point_outside accepted

unfoldable pub block_check : ℕ → ℕ → ℕ → ℕ
block_check n c k = must (block_in n c k) block_invalid accepted

unfoldable pub asker_check : ℕ → ℕ
asker_check p = must (ltb 0 p && is_account p) asker_invalid accepted

unfoldable pub given_check : ℕ → ℕ
given_check a = must (is_account a) account_too_large accepted
