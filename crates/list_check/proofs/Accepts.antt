-- List checking accepts just the valid lists.
--     passed, passes     a word breaks no check just where its tile is sound and not the last of four siblings
--     words_check_valid   words are accepted just where their tiles are a valid list
--     list_check_valid    the offered call accepts just an order, a count and a valid list that are within bounds
--     list_check_order    the order of an accepted list
--     list_check_filled   a valid list that is left in slots is accepted from them
use mathlib.Core.Path.{◌≡◌, refl, sym, ◌∙◌}
use mathlib.Core.Logic.{◌↔◌}
use mathlib.Core.List.{List, [], ◌∷◌, map, reverse_aux}
use Prim.Native.Nat.{ℕ, ◌≤◌}
use native.Mathlib.Omega.{arith}
use lib.ListN.{length, take}
use Rattle.basics.proofs.Tests.{test_leb, test_not}
use Rattle.refusal.specs.Refusal.{accepted, order_too_large, count_above_slots, siblings_unmerged}
use Rattle.refusal.proofs.CheckLaws.{must_pass, must_inv, else_on, else_inv}
use Rattle.tile.specs.declared.Tile.{Tile}
use Rattle.tile.specs.Tile.{tile_of, highest_order, highest_account}
use Rattle.tile.specs.Slots.{tiles_in, filled}
use Rattle.tile.proofs.SlotsLaws.{filled_length, tiles_in_filled}
use Rattle.quadtree.specs.Raster.{◌∈◌}
use Rattle.quadtree.specs.Valid.{Sound, Chain, end, link, Valid}
use Rattle.quadtree.proofs.Siblings.{Four, NoFour, merged_no_four, no_four_merged}
use Rattle.quadtree.proofs.ValidLaws.{valid_quadrant}
use Rattle.list_check.specs.ListCheck.{ended, word_check, words_check, list_check}
use Rattle.list_check.proofs.OneWord.{sound_passed, sound_passes}
use Rattle.list_check.proofs.LastOfFour.{Last, test_last}

-- what a word that passes has
pub record Passed (n : ℕ) (seen : List Tile) (w rest : ℕ) : Type 0 where
  pub sound : Sound n (ended seen) (tile_of w)
  pub merged : Last seen (tile_of w) → ⊥
  pub on : rest ≡ accepted

module _ (n : ℕ) (seen : List Tile) (w rest : ℕ) where
  pub passed : word_check n seen w rest ≡ accepted → Passed n seen w rest
  unfolding word_check
  passed e =
      let s = else_inv _ _ e in
      let l = must_inv (test_not (test_last seen (tile_of w))) (omega arith) s.1 in
      record { sound = sound_passed n (ended seen) w s.0; merged = l.0; on = l.1 }

  pub passes : n ≤ highest_order → Passed n seen w rest → word_check n seen w rest ≡ accepted
  unfolding word_check
  passes h p = else_on _ _ (sound_passes n (ended seen) w h p.sound) ∙ must_pass siblings_unmerged (test_not (test_last seen (tile_of w))) p.merged p.on

module _ (n : ℕ) where
  first : (seen : List Tile) (w : ℕ) (ws : List ℕ) → words_check n seen (w ∷ ws) ≡ accepted → Passed n seen w (words_check n (tile_of w ∷ seen) ws)
  unfolding words_check
  first seen w ws e = passed n seen w _ e

  accepted_chain : (seen : List Tile) (ws : List ℕ) → words_check n seen ws ≡ accepted → Chain n (ended seen) (map tile_of ws)
  unfolding ended
  accepted_chain seen [] e = end
  accepted_chain seen (w ∷ ws) e = let p = first seen w ws e in link p.sound (accepted_chain (tile_of w ∷ seen) ws p.on)

  no_four_ahead : (seen : List Tile) (x : Tile) (ws : List ℕ) → words_check n (x ∷ seen) ws ≡ accepted → Four x (map tile_of ws) → ⊥
  no_four_ahead seen x [] e b = b
  no_four_ahead seen x (y ∷ []) e b = b
  no_four_ahead seen x (y ∷ z ∷ []) e b = b
  no_four_ahead seen x (y ∷ z ∷ w ∷ ws) e b =
      (first (tile_of z ∷ tile_of y ∷ x ∷ seen) w ws (first (tile_of y ∷ x ∷ seen) z (w ∷ ws) (first (x ∷ seen) y (z ∷ w ∷ ws) e).on).on).merged b

  accepted_no_four : (seen : List Tile) (ws : List ℕ) → words_check n seen ws ≡ accepted → NoFour (map tile_of ws)
  accepted_no_four seen [] e = tt
  accepted_no_four seen (w ∷ ws) e = let p = first seen w ws e in (no_four_ahead seen (tile_of w) ws p.on, accepted_no_four (tile_of w ∷ seen) ws p.on)

  -- the tiles seen, in their order, and those to come
  no_four_behind : (seen ts : List Tile) → NoFour (reverse_aux seen ts) → NoFour ts
  no_four_behind [] ts h = h
  no_four_behind (x ∷ seen) ts h = (no_four_behind seen (x ∷ ts) h).1

  not_last : (seen : List Tile) (x : Tile) (ts : List Tile) → NoFour (reverse_aux seen (x ∷ ts)) → Last seen x → ⊥
  not_last [] x ts h b = b
  not_last (z ∷ []) x ts h b = b
  not_last (z ∷ y ∷ []) x ts h b = b
  not_last (z ∷ y ∷ w ∷ seen) x ts h b = (no_four_behind seen (w ∷ y ∷ z ∷ x ∷ ts) h).0 b

  chain_accepted : n ≤ highest_order → (seen : List Tile) (ws : List ℕ) → Chain n (ended seen) (map tile_of ws) → NoFour (reverse_aux seen (map tile_of ws)) → words_check n seen ws ≡ accepted
  unfolding words_check ended
  chain_accepted o seen [] c h = refl
  chain_accepted o seen (w ∷ ws) (link p r) h =
      passes n seen w _ o (record { sound = p; merged = not_last seen (tile_of w) (map tile_of ws) h; on = chain_accepted o (tile_of w ∷ seen) ws r h })

  pub words_check_valid : n ≤ highest_order → (ws : List ℕ) → (words_check n [] ws ≡ accepted) ↔ Valid n (map tile_of ws)
  unfolding ended
  words_check_valid o ws = (
    λ e. let c = accepted_chain [] ws e in record { chain = c; merged = no_four_merged c (accepted_no_four [] ws e) },
    λ v. chain_accepted o [] ws v.chain (merged_no_four (map tile_of ws) v.merged),
  )

pub list_check_valid : (n t : ℕ) (slots : List ℕ) → (list_check n t slots ≡ accepted) ↔ ((n ≤ highest_order) × (t ≤ length slots) × Valid n (tiles_in t slots))
unfolding list_check tiles_in
list_check_valid n t slots = (
  λ e.
      let a = must_inv (test_leb n highest_order) (omega arith) e in
      let b = must_inv (test_leb t (length slots)) (omega arith) a.1 in
      (a.0, b.0, (words_check_valid n a.0 (take t slots)).0 b.1),
  λ v. must_pass order_too_large (test_leb n highest_order) v.0 (must_pass count_above_slots (test_leb t (length slots)) v.1 ((words_check_valid n v.0 (take t slots)).1 v.2)),
)

-- the order of an accepted list, as code meets it
pub list_check_order : (n t : ℕ) (slots : List ℕ) {x : ℕ} → x ≡ list_check n t slots → x ≡ accepted → n ≤ highest_order
list_check_order n t slots e h = ((list_check_valid n t slots).0 (sym e ∙ h)).0

pub list_check_filled : (n m : ℕ) (ts : List Tile) → n ≤ highest_order → length ts ≤ m → ((t : Tile) → t ∈ ts → t.account ≤ highest_account) → Valid n ts → list_check n (length ts) (filled m ts) ≡ accepted
list_check_filled n m ts o l a v =
    (list_check_valid n (length ts) (filled m ts)).1
    (o, omega (arith, filled_length m ts l), rw (tiles_in_filled m ts (λ t i. record { size = omega (arith, (valid_quadrant v i).fits); account = a t i })) v)
