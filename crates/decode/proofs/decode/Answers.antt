-- Checks in their order, then the pixels.
use mathlib.Core.Path.{sym}
use native.Mathlib.Omega.{arith}
use Rattle.std.proofs.Common.{rules}
use Rattle.refusal.proofs.RefusedLaws.{else_refused, unless_refused}
use Rattle.list_check.proofs.TreeLaws.{tree_order}
use Rattle.decode.specs.Decode.{decode_check, decode_of}
use Rattle.decode.proofs.DecodeLaws.{decode_of_length, decode_of_words}
use Rattle.decode.proofs.decode.Goals as goal

pub returns-in_err-map : goal.returns-in_err-map
unfolding decode_check decode_of
returns-in_err-map c = search (rules, else_refused, unless_refused)

pub area-requires : goal.area-requires
area-requires c = omega (arith, tree_order _ _ c.in_ok-map.map.passes, c.in_ok-map.ensures.tree.0)

pub returns-then-raster-area : goal.returns-then-raster-area
returns-then-raster-area c = sym (decode_of_length _ _ _ _ (sym c.in_ok-map.ensures.number) (λ e. omega (arith, c.if-raster-area.true, c.area.ensures)))

pub returns : goal.returns
returns c =
    let tree = c.in_ok-map.ensures.tree in
    sym (decode_of_words _ _ _ _ (sym c.in_ok-map.ensures.number) (omega (arith, c.if-raster-area.false, c.area.ensures)) tree.1 (rw tree.0 at c.fill.ensures))
