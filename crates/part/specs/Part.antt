-- Quadrant part (document 01, "Other calls"): the tiles of a list that lie wholly inside a quadrant. Definitions only.
--     is_inside c k u                the tile u lies wholly inside the block of size k at the corner c
--     part_check ..                  1, 2, 11 to 16, then 32
--     part_of n t slots c k          the companion: the part's position, behind all tiles with a smaller corner, and its
--                                   length
--     slice_of n t slots c k         the words of the part; none if refused
--     words_in p i                   the place i words of 4 bytes into a slice that starts at the place p;
--                                   a place is a block of memory and a byte offset in it
-- That the part is the tiles inside, no less and no more, is the law `part_inside`.
use Rattle.std.specs.Prelude.{Bool, ◌&&◌, List, ℕ, ◌+◌, ◌*◌, ◌^◌, leb, take, drop}
use Rattle.refusal.specs.Refusal.{accepted}
use Rattle.refusal.specs.Checks.{or_else, unless}
use Rattle.tile.specs.declared.Tile.{Tile}
use Rattle.tile.specs.Tile.{stop}
use Rattle.tile.specs.Slots.{tiles_in}
use Rattle.list_check.specs.ListCheck.{list_check}
use Rattle.checks.specs.Asked.{block_check}
use Rattle.list_search.specs.Count.{is_ahead, counted}
use Rattle.part.specs.declared.PartAnswer.{PartAnswer}

abbrev pub is_inside : ℕ → ℕ → Tile → Bool
is_inside c k u = leb c u.corner && leb (stop u) (c + 4 ^ k)

unfoldable pub part_check : ℕ → ℕ → List ℕ → ℕ → ℕ → ℕ
part_check n t slots c k = or_else (list_check n t slots) (block_check n c k)

unfoldable pub part_of : ℕ → ℕ → List ℕ → ℕ → ℕ → PartAnswer
part_of n t slots c k =
    unless (part_check n t slots c k)
    (λ number. record { number = number; position = 0; length = 0 })
    (record {
      number = accepted;
      position = counted (is_ahead c) (tiles_in t slots);
      length = counted (is_inside c k) (tiles_in t slots);
    })

unfoldable pub slice_of : ℕ → ℕ → List ℕ → ℕ → ℕ → List ℕ
slice_of n t slots c k = take (part_of n t slots c k).length (drop (part_of n t slots c k).position slots)

abbrev pub words_in : ℕ × ℕ → ℕ → ℕ × ℕ
words_in p i = (p.0, p.1 + 4 * i)
