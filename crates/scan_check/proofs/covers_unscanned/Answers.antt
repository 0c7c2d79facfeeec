-- Nothing is left to scan, or there is no tile; else by kind: every tile by rows, the last one in Morton order.
use mathlib.Core.Path.{◌∙◌, ap, sym}
use Prim.Native.Nat.{ℕ}
use native.Mathlib.Omega.{arith}
use Rattle.bed.specs.declared.Kind.{Kind}
use Rattle.bed.specs.declared.Kind.TheVariants.{Rows}
use Rattle.bed.specs.Places.{scan_of}
use Rattle.tile.specs.Slots.{tiles}
use Rattle.list_check.proofs.TreeLaws.{tree_order, tree_valid}
use Rattle.scan_check.specs.Opening.{covers_unscanned}
use Rattle.scan_check.proofs.ScannedLaws.{whole_clear}
use Rattle.scan_check.proofs.ByMorton.{covers_empty, morton_last}
use Rattle.scan_check.proofs.covers_unscanned.Goals as goal

pub area-requires : goal.area-requires
area-requires c = omega (arith, tree_order _ _ c.args.tree.passes, c.requires)

pub returns-then-area-scan : goal.returns-then-area-scan
returns-then-area-scan c =
    let a = c.args in
    sym (whole_clear a.scan (tiles a.tree.words.now) (rw c.requires at (tree_valid _ _ a.tree.passes)) (omega (arith, c.area.ensures, c.if-area-scan.true)))

pub returns-then-tiles-eq0 : goal.returns-then-tiles-eq0
returns-then-tiles-eq0 c = sym (covers_empty c.args.scan c.args.tree.words.now c.if-tiles-eq0.true)

pub returns-in-Rows : goal.returns-in-Rows
returns-in-Rows c =
    let a = c.args in
    let s = a.scan in
    c.rows_unscanned.ensures s.tiles
    ∙ ap (λ (n : ℕ). covers_unscanned (scan_of Rows n s.pixels s.tiles) (tiles a.tree.words.now)) c.requires
    ∙ ap (λ (k : Kind). covers_unscanned (scan_of k s.order s.pixels s.tiles) (tiles a.tree.words.now)) (sym c.in-Rows.is)

pub returns-in-Morton : goal.returns-in-Morton
returns-in-Morton c =
    let a = c.args in
    morton_last a.scan a.tree.words.now c.in-Morton.is (rw c.requires at (tree_valid _ _ a.tree.passes)) (omega (arith, c.if-tiles-eq0.false)) _ c.stop.ensures

pub rows_unscanned-requires : goal.rows_unscanned-requires
rows_unscanned-requires c = rw c.requires (omega (arith, c.area.ensures, c.if-area-scan.false))
