-- What the offered call gives, by how its checks end.
--     decode_of_length     a raster of another length than the bed has pixels
--     decode_of_filled     both accepted
--     decode_of_words      the same by the words of the checked list
use mathlib.Core.Path.{◌≡◌, refl}
use mathlib.Core.List.{List}
use Prim.Native.Nat.{ℕ, ◌^◌}
use native.Mathlib.Omega.{arith}
use lib.ListN.{length, take}
use Rattle.basics.proofs.Tests.{test_eqb}
use Rattle.refusal.specs.Refusal.{accepted, raster_length}
use Rattle.refusal.specs.Checks.{After}
use Rattle.refusal.proofs.CheckLaws.{must_on, must_off, else_on, unless_on, unless_off}
use Rattle.tile.specs.Slots.{tiles, tiles_in}
use Rattle.quadtree.specs.Raster.{account_at}
use Rattle.list_check.specs.ListCheck.{list_check}
use Rattle.list_check.proofs.TreeLaws.{tree_tiles}
use Rattle.bed.specs.Places.{rows}
use Rattle.decode.specs.Decode.{decode_check, decode_of}

module _ (n t : ℕ) (slots raster : List ℕ) where
  pub decode_of_length : list_check n t slots ≡ accepted → (length raster ≡ 4 ^ n → ⊥) → ◌≡◌ {A = After ℕ} (decode_of n t slots raster) (record { answer = raster_length; storage = raster })
  unfolding decode_of decode_check
  decode_of_length h g = rw (else_on (list_check n t slots) _ h, must_off raster_length accepted (test_eqb (length raster) (4 ^ n)) g) (unless_off raster_length _ _ (λ e. omega arith))

  pub decode_of_filled : list_check n t slots ≡ accepted → length raster ≡ 4 ^ n → ◌≡◌ {A = After ℕ} (decode_of n t slots raster) (record { answer = accepted; storage = rows n (account_at (tiles_in t slots)) })
  unfolding decode_of decode_check
  decode_of_filled h g = rw (else_on (list_check n t slots) _ h, must_on raster_length accepted (test_eqb (length raster) (4 ^ n)) g) (unless_on accepted _ _ refl)

  pub decode_of_words : {ws ys : List ℕ} → list_check n t slots ≡ accepted → length raster ≡ 4 ^ n → ws ≡ take t slots → ys ≡ rows n (account_at (tiles ws)) → ◌≡◌ {A = After ℕ} (decode_of n t slots raster) (record { answer = accepted; storage = ys })
  decode_of_words h g e f = rw (f, ← tree_tiles t slots e) (decode_of_filled h g)
