-- The account is what is left of the word under a mask of six ones, which a byte holds.
use native.Mathlib.Omega.{arith}
use lib.Bits.{and_mask, mask_lt}
use Rattle.tile.specs.Tile.{tile_of}
use Rattle.tile.proofs.account.Goals as goal

pub returns : goal.returns
unfolding tile_of
returns c = and_mask _ 6

pub overflow_cast-result : goal.overflow_cast-result
overflow_cast-result c = omega (arith, mask_lt c.args.w 6)
