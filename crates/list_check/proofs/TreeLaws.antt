-- What is known of a checked list.
--     tree_order    its order is that of a bed
--     tree_valid    its tiles are a valid list
--     tiles_whole   the tiles of all of some words
--     tree_passes   some slots that pass, pass by themselves
--     tree_tiles    they are the tiles of the first slots, where its words are those of the slots
use mathlib.Core.Path.{◌≡◌, refl, ap, sym, subst, ◌∙◌}
use mathlib.Core.List.{List}
use Prim.Native.Nat.{ℕ, ◌≤◌}
use native.Mathlib.Nat.{le_refl}
use lib.ListN.{length, take}
use lib.Seq.{take-length}
use Rattle.refusal.specs.Refusal.{accepted}
use Rattle.tile.specs.declared.Tile.{Tile}
use Rattle.tile.specs.Tile.{highest_order}
use Rattle.tile.specs.Slots.{tiles, tiles_in}
use Rattle.quadtree.specs.Valid.{Valid}
use Rattle.list_check.specs.ListCheck.{list_check}
use Rattle.list_check.proofs.Accepts.{list_check_valid}

pub tiles_whole : (ws : List ℕ) → tiles_in (length ws) ws ≡ tiles ws
unfolding tiles_in
tiles_whole ws = ap tiles (take-length ws)

module _ (n : ℕ) (ws : List ℕ) (p : list_check n (length ws) ws ≡ accepted) where
  pub tree_order : n ≤ highest_order
  tree_order = ((list_check_valid n (length ws) ws).0 p).0

  pub tree_valid : Valid n (tiles ws)
  tree_valid =
      let v = ((list_check_valid n (length ws) ws).0 p).2 in
      let P : List Tile → Type 0 = λ ts. Valid n ts in
      subst P (tiles_whole ws) v

pub tree_tiles : (t : ℕ) (slots : List ℕ) {ws : List ℕ} → ws ≡ take t slots → tiles_in t slots ≡ tiles ws
unfolding tiles_in
tree_tiles t slots e = ap tiles (sym e)

-- what passes as so many slots passes by itself
pub tree_passes : (n t : ℕ) (slots : List ℕ) → list_check n t slots ≡ accepted → list_check n (length (take t slots)) (take t slots) ≡ accepted
tree_passes n t slots p =
    let v = (list_check_valid n t slots).0 p in
    let P : List Tile → Type 0 = λ ts. Valid n ts in
    let w = subst P (tree_tiles t slots refl ∙ sym (tiles_whole (take t slots))) v.2 in
    (list_check_valid n (length (take t slots)) (take t slots)).1 (v.0, le_refl _, w)
