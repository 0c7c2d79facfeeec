-- The three tests together ask whether the words differ in nothing but the corner, and there by less than their block.
use mathlib.Core.Path.{◌∙◌, sym}
use Prim.Native.Nat.{suc, ◌/◌}
use native.Mathlib.Omega.{arith}
use Rattle.basics.proofs.Tests.{fails, test_leb, test_map}
use Rattle.tile.proofs.TileLaws.{tile_of_size}
use Rattle.list_flat.proofs.FaultLaws.{area_of_lem}
use Rattle.list_check.proofs.FourWords.{last_by_words}
use Rattle.list_check.proofs.Ahead.last_of_four.Goals as goal

pub returns-then-account-ne0 : goal.returns-then-account-ne0
returns-then-account-ne0 c = λ n seen g s. last_by_words c.args.word g s (fails (λ p. c.if-account-ne0.true (c.account.ensures ∙ p.account)))

pub returns-then-size-ne0 : goal.returns-then-size-ne0
returns-then-size-ne0 c = λ n seen g s. last_by_words c.args.word g s (fails (λ p. c.if-size-ne0.true (c.size.ensures ∙ p.size)))

pub returns : goal.returns
returns c = λ n seen g s.
    let a = c.args in
    let corner = c.corner in
    let area = area_of_lem a.word c.size-2.ensures c.area.ensures in
    last_by_words a.word g s (test_map
    (λ l. record { account = sym c.account.ensures ∙ c.if-account-ne0.false; size = sym c.size.ensures ∙ c.if-size-ne0.false; corner = omega (arith, corner.ensures) })
    (λ p. omega (arith, p.corner, corner.ensures))
    (test_leb (suc (corner.result / 4)) c.area.result))

pub area-requires : goal.area-requires
area-requires c = omega (arith, c.size-2.ensures, tile_of_size c.args.word)
