-- Combine (document 02, CR 1, "Reserved zones"): a third list from two maps. Definitions only.
--     third_tiles rule n t s u w          the linear quadtree of a pixel rule, of two maps of order n: the lists in the
--                                        first t slots of s and in the first u slots of w
--     third_of rule n s w                 the same of whole lists of words
--     maps_check n t s m u w              1, 2, 11 to 16 of the first map, the same of the second, then 51
--     combine_refusal rule ..             these, then 25
--     combine_by rule n t s m u w out     the call over a pixel rule, of a first map (order n, t, s) and a second one
--                                        (order m, u, w): the third list goes to the slots `out`, the unused ones 0
--     combine_of choice n t s m u w out   the offered call, which is handed the rule by a choice
use Rattle.std.specs.Prelude.{List, ℕ, leb, eqb, length}
use Rattle.refusal.specs.Refusal.{accepted, orders_differ, slots_exceeded}
use Rattle.refusal.specs.Checks.{must, or_else, unless, After}
use Rattle.tile.specs.declared.Tile.{Tile}
use Rattle.tile.specs.Slots.{filled}
use Rattle.quadtree.specs.Quadtree.{quadtree}
use Rattle.list_check.specs.ListCheck.{list_check}
use Rattle.combine_rule.specs.declared.Choice.{Choice}
use Rattle.combine_rule.specs.Rule.{rule_of, third_raster}
use Rattle.combine.specs.declared.CombineAnswer.{CombineAnswer}

abbrev pub third_tiles : (ℕ → ℕ → ℕ) → ℕ → ℕ → List ℕ → ℕ → List ℕ → List Tile
third_tiles rule n t s u w = quadtree n (third_raster rule t s u w)

abbrev pub third_of : (ℕ → ℕ → ℕ) → ℕ → List ℕ → List ℕ → List Tile
third_of rule n s w = third_tiles rule n (length s) s (length w) w

unfoldable pub maps_check : ℕ → ℕ → List ℕ → ℕ → ℕ → List ℕ → ℕ
maps_check n t s m u w = or_else (list_check n t s) (or_else (list_check m u w) (must (eqb n m) orders_differ accepted))

unfoldable pub combine_refusal : (ℕ → ℕ → ℕ) → ℕ → ℕ → List ℕ → ℕ → ℕ → List ℕ → List ℕ → ℕ
combine_refusal rule n t s m u w out = or_else (maps_check n t s m u w)
    (must (leb (length (third_tiles rule n t s u w)) (length out)) slots_exceeded accepted)

unfoldable pub combine_by : (ℕ → ℕ → ℕ) → ℕ → ℕ → List ℕ → ℕ → ℕ → List ℕ → List ℕ → After CombineAnswer
combine_by rule n t s m u w out =
    let ts : List Tile = third_tiles rule n t s u w in
    unless (combine_refusal rule n t s m u w out)
    (λ number. record { answer = record { number = number; tiles = 0 }; storage = out })
    (record { answer = record { number = accepted; tiles = length ts }; storage = filled (length out) ts })

abbrev pub combine_of : Choice → ℕ → ℕ → List ℕ → ℕ → ℕ → List ℕ → List ℕ → After CombineAnswer
combine_of choice n t s m u w out = combine_by (rule_of choice) n t s m u w out
