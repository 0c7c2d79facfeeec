-- The accounts in the set and those of the words left make the whole.
use mathlib.Core.Path.{refl}
use native.Mathlib.Omega.{arith}
use lib.ListN.{get_or}
use Rattle.tile.proofs.TileLaws.{tile_of_account}
use Rattle.mapfile_roster.proofs.AccountsLaws.{growing_start}
use Rattle.mapfile_sections.proofs.Members.{tiled_on, tiled_end}
use Rattle.mapfile_sections.proofs.tiled.Goals as goal

pub loop-word-init : goal.loop-word-init
loop-word-init c = growing_start _ c.none-set.ensures

pub loop-word-preserved : goal.loop-word-preserved
loop-word-preserved c =
    let l = c.loop-word in
    tiled_on c.args.words.now l.word-index l.invariant c.account.result _ (omega arith) refl c.account.ensures c.with-set.ensures

pub returns : goal.returns
returns c = let l = c.loop-word in tiled_end c.args.words.now l.word-index l.invariant (omega arith)

pub with-set-requires : goal.with-set-requires
with-set-requires c = omega (arith, c.account.ensures, tile_of_account (get_or c.args.words.now c.loop-word.word-index 0))
