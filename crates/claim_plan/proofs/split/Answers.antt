-- The tile at lo is kept or split, by its account.
use Rattle.claim_plan.proofs.Searches.{covered_kept, covered_split}
use Rattle.claim_plan.proofs.split.Goals as goal

pub returns-then-owner-tile : goal.returns-then-owner-tile
returns-then-owner-tile c = let p = c.requires in covered_kept p.0 p.1 p.2 c.from-corner.result c.from-corner.ensures c.if-owner-tile.true

pub returns : goal.returns
returns c = let p = c.requires in covered_split p.0 p.1 p.2 c.from-corner.result c.from-corner.ensures c.if-owner-tile.false
