-- The pixel rule (document 02, CR 1): "the first map's pixels where the second is somebody's, or the first map's pixels
-- where the second is nobody's". Definitions only.
--     rule_of choice a b          the account of a pixel that has the account a on the first map and b on the second
--     MakesAccounts rule         of two accounts the rule makes an account
--     by_pixel rule f g           the raster that a rule makes of two rasters, pixel by pixel
--     third_raster rule t s u w   that of the lists in the first t slots of s and in the first u slots of w
use Rattle.std.specs.Prelude.{List, ℕ, zero, suc, ◌≤◌}
use Rattle.tile.specs.Tile.{highest_account}
use Rattle.tile.specs.Slots.{tiles_in}
use Rattle.quadtree.specs.Raster.{account_at}
use Rattle.combine_rule.specs.declared.Choice.{Choice}
use Rattle.combine_rule.specs.declared.Choice.TheVariants.{Inside, Outside}

unfoldable pub rule_of : Choice → ℕ → ℕ → ℕ
rule_of Inside a zero = 0
rule_of Inside a (suc b) = a
rule_of Outside a zero = a
rule_of Outside a (suc b) = 0

abbrev pub MakesAccounts : (ℕ → ℕ → ℕ) → Type 0
MakesAccounts rule = (a b : ℕ) → a ≤ highest_account → b ≤ highest_account → rule a b ≤ highest_account

abbrev pub by_pixel : (ℕ → ℕ → ℕ) → (ℕ → ℕ) → (ℕ → ℕ) → ℕ → ℕ
by_pixel rule f g z = rule (f z) (g z)

abbrev pub third_raster : (ℕ → ℕ → ℕ) → ℕ → List ℕ → ℕ → List ℕ → ℕ → ℕ
third_raster rule t s u w = by_pixel rule (account_at (tiles_in t s)) (account_at (tiles_in u w))
