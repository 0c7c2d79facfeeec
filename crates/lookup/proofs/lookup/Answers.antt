-- The opening checks, then 31, then 52 of the point's Morton number; behind them the block is that of the checked list.
use mathlib.Core.Path.{◌≡◌, ◌∙◌, sym}
use Rattle.std.proofs.Common.{rules}
use Rattle.refusal.proofs.RefusedLaws.{else_passed, else_refused, unless_refused}
use Rattle.morton.specs.Morton.{morton, side_bits}
use Rattle.morton.proofs.MortonLaws.{morton_lt, morton_wide}
use Rattle.checks.proofs.AskedLaws.{point_passed}
use Rattle.list_check.proofs.TreeLaws.{tree_tiles}
use Rattle.scan_check.proofs.Opening.{opening_opened}
use Rattle.scan_check.proofs.ScannedLaws.{pixel_passed}
use Rattle.lookup.specs.Lookup.{lookup_check, lookup_of}
use Rattle.lookup.proofs.LookupLaws.{lookup_of_words}
use Rattle.lookup.proofs.lookup.Goals as goal
use Rattle.lookup.proofs.lookup.Goals.{After-number-z}

-- the number by all bits of column and row is that of the order
number : (c : After-number-z) → c.number-z.result ≡ morton c.args.scan.order c.args.point.column c.args.point.row
number c =
    let a = c.args in
    let o = opening_opened a.scan a.slots.now (sym c.in_ok-tree.ensures.number) in
    let p = point_passed a.scan.order a.point.column a.point.row (sym c.in_ok-point.ensures) in
    c.number-z.ensures ∙ morton_wide a.scan.order side_bits a.point.column a.point.row o.order p.0 p.1

pub returns-in_err-tree : goal.returns-in_err-tree
unfolding lookup_check lookup_of
returns-in_err-tree c = search (rules, else_refused, unless_refused)

pub returns-in_err-point : goal.returns-in_err-point
unfolding lookup_check lookup_of
returns-in_err-point c = rw (else_passed _ c.in_ok-tree.ensures.number) (search (rules, else_refused, unless_refused))

pub returns-in_err-pixel_scanned : goal.returns-in_err-pixel_scanned
unfolding lookup_check lookup_of
returns-in_err-pixel_scanned c =
    let e = number (goal.at.returns-in_err-pixel_scanned c).After-number-z in
    rw (else_passed _ c.in_ok-tree.ensures.number, else_passed _ c.in_ok-point.ensures, ← e) (search (rules, unless_refused))

pub returns : goal.returns
returns c =
    let e = number (goal.at.returns c).After-number-z in
    lookup_of_words _ _ _ _ (sym c.in_ok-tree.ensures.number) (sym c.in_ok-point.ensures) e (sym c.in_ok-pixel_scanned.ensures) c.in_ok-tree.ensures.tree.1 c.block_at.ensures

pub point-requires : goal.point-requires
point-requires c = (opening_opened c.args.scan c.args.slots.now (sym c.in_ok-tree.ensures.number)).order

pub pixel_scanned-requires : goal.pixel_scanned-requires
pixel_scanned-requires c =
    let a = c.args in (
      (opening_opened a.scan a.slots.now (sym c.in_ok-tree.ensures.number)).order,
      rw (number (goal.at.pixel_scanned-requires c).After-number-z) (morton_lt a.scan.order a.point.column a.point.row),
    )

pub block_at-requires : goal.block_at-requires
block_at-requires c =
    let a = c.args in
    let e = number (goal.at.block_at-requires c).After-number-z in
    let o = opening_opened a.scan a.slots.now (sym c.in_ok-tree.ensures.number) in (
      c.in_ok-tree.ensures.tree.0,
      rw (tree_tiles a.scan.tiles a.slots.now c.in_ok-tree.ensures.tree.1) at o.blank,
      rw e (morton_lt a.scan.order a.point.column a.point.row),
      pixel_passed a.scan _ (sym c.in_ok-pixel_scanned.ensures),
    )
