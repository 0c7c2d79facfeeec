-- List checking (document 01, "Refusals by the place of the check": 1, 2 and 11 to 16). Definitions only.
--     follows t u               u starts where t ends, and has its size and account
--     last_of_four seen t         t is the last of four siblings, whose others are the three tiles ahead of it
--     sound_check n lo w         the first of checks 11 to 15 that the word w breaks, where the tile ahead of it ends at
--                               lo
--     word_check n seen w rest   the first check that the word w breaks behind the tiles `seen`, or what the rest says
--     words_check n seen ws      the words in turn: the first bad word decides, and in it the first check that it breaks
--     list_check n t slots       the offered call, of an order, a tile count and slots
-- The tiles seen are given last first. All of them passed, so that siblings of t among them are the ones directly ahead
-- of it.
use Rattle.std.specs.Prelude.{Bool, false, ◌&&◌, not, List, [], ◌∷◌, ℕ, ◌+◌, ◌^◌, leb, ltb, eqb, length, take}
use Rattle.refusal.specs.Refusal.{accepted, order_too_large, count_above_slots, high_bits_set, size_above_order, corner_invalid, account_zero, tiles_overlap, siblings_unmerged}
use Rattle.refusal.specs.Checks.{must, or_else}
use Rattle.tile.specs.declared.Tile.{Tile}
use Rattle.tile.specs.Tile.{stop, tile_of, word_limit, highest_order}
use Rattle.quadtree.specs.Raster.{aligned}

unfoldable pub follows : Tile → Tile → Bool
follows t u = eqb u.corner (stop t) && (eqb u.size t.size && eqb u.account t.account)

unfoldable pub last_of_four : List Tile → Tile → Bool
last_of_four [] t = false
last_of_four (z ∷ []) t = false
last_of_four (z ∷ y ∷ []) t = false
last_of_four (z ∷ y ∷ x ∷ seen) t = aligned (x.size + 1) x.corner && (follows x y && (follows y z && follows z t))

-- where the tile ahead ends
unfoldable pub ended : List Tile → ℕ
ended [] = 0
ended (t ∷ seen) = stop t

unfoldable pub sound_check : ℕ → ℕ → ℕ → ℕ
sound_check n lo w =
    must (ltb w word_limit) high_bits_set
    (must (leb (tile_of w).size n) size_above_order
    (must (ltb (tile_of w).corner (4 ^ n) && aligned (tile_of w).size (tile_of w).corner) corner_invalid
    (must (ltb 0 (tile_of w).account) account_zero
    (must (leb lo (tile_of w).corner) tiles_overlap accepted))))

unfoldable pub word_check : ℕ → List Tile → ℕ → ℕ → ℕ
word_check n seen w rest = or_else (sound_check n (ended seen) w)
    (must (not (last_of_four seen (tile_of w))) siblings_unmerged rest)

unfoldable pub words_check : ℕ → List Tile → List ℕ → ℕ
words_check n seen [] = accepted
words_check n seen (w ∷ ws) = word_check n seen w (words_check n (tile_of w ∷ seen) ws)

unfoldable pub list_check : ℕ → ℕ → List ℕ → ℕ
list_check n t slots =
    must (leb n highest_order) order_too_large
    (must (leb t (length slots)) count_above_slots
    (words_check n [] (take t slots)))
