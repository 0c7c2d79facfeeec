-- The tile at the place, where one is, or the end of the bed.
use mathlib.Core.Path.{◌≡◌, ◌∙◌}
use native.Mathlib.Omega.{arith}
use lib.ListN.{length, get_or}
use Rattle.std.proofs.Common.{rules, ◌<◌}
use Rattle.list_check.proofs.TreeLaws.{tree_order}
use Rattle.lookup.proofs.StretchLaws.{upto_ahead, upto_end}
use Rattle.lookup.proofs.stretch_upto.Goals as goal

pub returns-in-Some : goal.returns-in-Some
returns-in-Some c =
    let ws = c.args.tree.words.now in
    let h : c.args.place < length ws = search rules in
    let e : c.in-Some.word.now ≡ get_or ws c.args.place 0 = search rules in
    c.corner.ensures ∙ rw e (upto_ahead _ _ ws c.args.place h)

pub returns-in-None : goal.returns-in-None
returns-in-None c =
    let ws = c.args.tree.words.now in
    let h : c.args.place < length ws → ⊥ = λ l. search rules in
    c.area.ensures ∙ upto_end _ _ ws c.args.place h

pub area-requires : goal.area-requires
area-requires c = omega (arith, tree_order _ _ c.args.tree.passes)
