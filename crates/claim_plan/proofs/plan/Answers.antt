-- The change, with its counts.
use mathlib.Core.Path.{◌∙◌}
use native.Mathlib.Omega.{arith}
use lib.ListN.{length-map}
use Rattle.tile.specs.Tile.{tile_of}
use Rattle.claim_plan.proofs.Counts.{changes_pieces, changes_tiles, changes_sums}
use Rattle.claim_plan.proofs.plan.Goals as goal

pub overflow_sub-change : goal.overflow_sub-change
overflow_sub-change c = omega (arith, c.find_change-change.ensures.split.sizes)

pub count_pieces-pieces-requires : goal.count_pieces-pieces-requires
count_pieces-pieces-requires c = omega (arith, c.find_change-change.ensures.fits, c.requires.order)

pub returns : goal.returns
returns c =
    let change = c.find_change-change.ensures in
    let pieces = c.count_pieces-pieces.ensures in
    record { change = change; pieces = pieces ∙ changes_pieces change; tiles = changes_tiles change _ _ (length-map c.args.tree.words.now tile_of) pieces }

pub overflow_add-result : goal.overflow_add-result
overflow_add-result c = omega (arith, changes_sums c.find_change-change.ensures _ _ (length-map c.args.tree.words.now tile_of) c.count_pieces-pieces.ensures c.requires.order)

pub overflow_add-result-2 : goal.overflow_add-result-2
overflow_add-result-2 c = omega (arith, changes_sums c.find_change-change.ensures _ _ (length-map c.args.tree.words.now tile_of) c.count_pieces-pieces.ensures c.requires.order)
