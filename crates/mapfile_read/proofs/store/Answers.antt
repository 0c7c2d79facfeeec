-- The words in front are the file's, those behind are untouched.
use native.Mathlib.Omega.{arith}
use Rattle.std.proofs.Common.{rules}
use mathlib.Core.Path.{sym, ◌∙◌}
use mathlib.Core.List.{map}
use lib.ListN.{length-map}
use Rattle.mapfile_bytes.specs.Items.{word_at}
use Rattle.mapfile_read.proofs.ReadStores.{store_on}
use Rattle.mapfile_bytes.proofs.ItemsLaws.{get_or_word}
use Rattle.mapfile_read.proofs.store.Goals as goal

pub loop-i-preserved : goal.loop-i-preserved
loop-i-preserved c =
    let l = c.loop-i in
    let ws = c.args.words.now in
    (search rules, store_on _ c.args.slots.now (map (λ w. word_at w 0) ws) l.i _ l.invariant.1 (omega (arith, length-map ws (λ w. word_at w 0))) (omega arith) (get_or_word ws l.i ∙ sym c.number.ensures))
