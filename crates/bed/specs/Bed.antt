-- The plain bed (document 01, "The plain bed"): what every call means, with no list in sight. Definitions only.
--     Bed                     order, kind, pixels scanned, and the account of each pixel by its Morton number
--     bed_of k n s f           the bed of kind k and order n with s pixels scanned and the raster f
--     fresh_bed k n            a fresh scan: no pixel scanned, every account 0
--     has_unscanned b          a somebody's pixel is unscanned
--     put_pixel b a            the account a put on the next place
--     is_account a             the number a is that of an account, nobody's or somebody's
--     pixel_check m b a        23, 24, 25 of the account a on the next place of the bed b, with m slots
--     BedFed                     what a feed answers, with the bed that it leaves
--     feed_pixels m k b bytes   the accounts in turn, k taken before, up to the first that is refused
--     feed_bed m b bytes        the feed of a bed with m slots: 22, then the accounts
--     block_in n c k           the block of size k at the corner c is a quadrant of a bed of order n
--     claimed f c k a         the raster f after a claim
--     claim_check m b c k a    32, 52, 24, 25 of a claim with m slots
--     claim_bed_check m b c k a   the claim of a bed with m slots: 22, then these
use Rattle.std.specs.Prelude.{Bool, ◌&&◌, not, List, [], ◌∷◌, ℕ, ◌+◌, ◌^◌, leb, ltb, eqb, length}
use Rattle.basics.specs.Choice.{if, some}
use Rattle.refusal.specs.Refusal.{accepted, tile_unscanned, scan_full, account_too_large, slots_exceeded}
use Rattle.refusal.specs.Refusal.{block_invalid, unscanned}
use Rattle.refusal.specs.Checks.{must, unless}
use Rattle.tile.specs.Tile.{highest_account}
use Rattle.quadtree.specs.Raster.{aligned, paint}
use Rattle.quadtree.specs.Quadtree.{quadtree}
use Rattle.bed.specs.declared.Kind.{Kind}
use Rattle.bed.specs.Places.{pixel_at, scanned, unscanned_in}

pub record Bed : Type 0 where
  pub order : ℕ
  pub kind : Kind
  pub scanned : ℕ
  pub account : ℕ → ℕ

abbrev pub bed_of : Kind → ℕ → ℕ → (ℕ → ℕ) → Bed
bed_of k n s f = record { order = n; kind = k; scanned = s; account = f }

abbrev pub fresh_bed : Kind → ℕ → Bed
fresh_bed k n = bed_of k n 0 (λ z. 0)

unfoldable pub has_unscanned : Bed → Bool
has_unscanned b = some (λ z. ltb 0 (b.account z) && not (scanned b.kind b.order b.scanned z)) 0 (4 ^ b.order)

unfoldable pub put_pixel : Bed → ℕ → Bed
put_pixel b a =
    let z : ℕ = pixel_at b.kind b.order b.scanned in
    bed_of b.kind b.order (b.scanned + 1) (paint b.account z (z + 1) a)

abbrev pub is_account : ℕ → Bool
is_account a = leb a highest_account

unfoldable pub pixel_check : ℕ → Bed → ℕ → ℕ
pixel_check m b a =
    must (not (eqb b.scanned (4 ^ b.order))) scan_full
    (must (is_account a) account_too_large
    (must (leb (length (quadtree b.order (put_pixel b a).account)) m) slots_exceeded accepted))

pub record BedFed : Type 0 where
  pub number : ℕ
  pub taken : ℕ
  pub bed : Bed

abbrev pub stopped : ℕ → ℕ → Bed → BedFed
stopped r k b = record { number = r; taken = k; bed = b }

unfoldable pub feed_pixels : ℕ → ℕ → Bed → List ℕ → BedFed
feed_pixels m k b [] = stopped accepted k b
feed_pixels m k b (a ∷ bytes) = unless (pixel_check m b a) (λ number. stopped number k b)
    (feed_pixels m (k + 1) (put_pixel b a) bytes)

unfoldable pub feed_bed : ℕ → Bed → List ℕ → BedFed
feed_bed m b bytes = if (has_unscanned b) (stopped tile_unscanned 0 b) (feed_pixels m 0 b bytes)

unfoldable pub block_in : ℕ → ℕ → ℕ → Bool
block_in n c k = leb k n && (ltb c (4 ^ n) && aligned k c)

abbrev pub claimed : (ℕ → ℕ) → ℕ → ℕ → ℕ → ℕ → ℕ
claimed f c k a = paint f c (c + 4 ^ k) a

unfoldable pub claim_check : ℕ → Bed → ℕ → ℕ → ℕ → ℕ
claim_check m b c k a =
    must (block_in b.order c k) block_invalid
    (must (not (unscanned_in b.kind b.order b.scanned c k)) unscanned
    (must (is_account a) account_too_large
    (must (leb (length (quadtree b.order (claimed b.account c k a))) m) slots_exceeded accepted)))

unfoldable pub claim_bed_check : ℕ → Bed → ℕ → ℕ → ℕ → ℕ
claim_bed_check m b c k a = must (not (has_unscanned b)) tile_unscanned (claim_check m b c k a)
