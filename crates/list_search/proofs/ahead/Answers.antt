-- In a sorted list the place of z says how many tiles are ahead of it.
use Rattle.list_search.proofs.CountLaws.{ahead_cut}
use Rattle.list_search.proofs.ahead.Goals as goal

pub returns : goal.returns
returns c = let s = c in ahead_cut s.args.tiles s.args.slots.now s.requires.0 s.requires.1 s.args.z _ c.cut.ensures
