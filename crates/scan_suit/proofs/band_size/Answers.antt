-- The loop keeps `Suiting`: what has been weighed suits, and the largest band in it is taken.
use Rattle.scan_weigh.proofs.Weighing.{range_above}
use Rattle.scan_band.proofs.Numbers.{row_first, many_shift}
use Rattle.tile.specs.Tile.{highest_order}
use Rattle.scan_suit.proofs.Suited.{power_half, suiting_start, suiting_end, suiting_le, suiting_small, suiting_next}
use Rattle.std.proofs.Common.{◌≡◌, ◌∙◌, ap, sym, ℕ, ◌+◌, ◌-◌, ◌*◌, ◌%◌, ◌^◌, ◌≤◌, ◌<◌, arith}
use Rattle.scan_suit.proofs.band_size.Goals as goal

-- the end of the rows that are tried, as the code computes it
rows_end : (n k at step : ℕ) → n ≤ highest_order → k < n → step ≡ 2 ^ (k + 1) → at + step * 2 ^ n % 2 ^ 64 ≡ at + 2 ^ (k + 1) * 2 ^ n
rows_end n k at step h l e = ap (λ (x : ℕ). at + x) (ap (λ (x : ℕ). x * 2 ^ n % 2 ^ 64) e ∙ many_shift n (k + 1) h (omega arith))

pub loop-size-init : goal.loop-size-init
loop-size-init c =
    let f = c.args.feed in
    suiting_start f.accounts.now f.start f.order c.args.pixels c.args.free _ _ (omega arith)

pub loop-size-preserved : goal.loop-size-preserved
loop-size-preserved c =
    let pre = c.requires in
    let f = c.args.feed in
    let l = c.loop-size in
    let side = c.side-width.ensures in
    let step = c.side-step in
    let first = row_first f.order c.args.pixels pre.0 pre.2 c.if-row-order.false in
    let eu = rows_end f.order l.size (c.args.pixels - f.start) step.result pre.0 c.loop-size-test.true step.ensures in
    suiting_next l.invariant pre.0 c.loop-size-test.true step.result _ step.ensures eu c.rows.result c.highest.result (sym first) (omega (arith, first, pre.1)) (omega (arith, first))
    (rw step.ensures at c.if-line-step-ne0.false) (omega arith) c.if-accounts-upto.false (rw side at c.rows.ensures) c.if-free-more.false (range_above f.accounts.now l.end _ c.highest.result c.if-accounts-upto.false c.highest.ensures) c.if-highest-gt-HIGHEST_ACCOUNT.false

pub rows-requires : goal.rows-requires
rows-requires c =
    let f = c.args.feed in
    let l = c.loop-size in
    let step = c.side-step in
    let eu = rows_end f.order l.size (c.args.pixels - f.start) step.result c.requires.0 c.loop-size-test.true step.ensures in
    rw c.side-width.ensures (power_half f.order (omega arith), omega (arith, suiting_end l.invariant c.requires.0 c.loop-size-test.true step.result _ step.ensures eu))

pub overflow_add-more : goal.overflow_add-more
overflow_add-more c =
    let f = c.args.feed in
    let l = c.loop-size in
    let step = c.side-step in
    let eu = rows_end f.order l.size (c.args.pixels - f.start) step.result c.requires.0 c.loop-size-test.true step.ensures in
    omega (arith, rw c.side-width.ensures at c.rows.ensures, suiting_small l.invariant c.requires.0 c.loop-size-test.true step.result _ step.ensures eu c.if-accounts-upto.false)

pub slice_bounds-highest-count : goal.slice_bounds-highest-count
slice_bounds-highest-count c =
    let l = c.loop-size in
    let step = c.side-step in
    suiting_le l.invariant c.requires.0 c.loop-size-test.true step.result _ step.ensures (rows_end c.args.feed.order l.size _ step.result c.requires.0 c.loop-size-test.true step.ensures)

pub slice_bounds-highest-start : goal.slice_bounds-highest-start
slice_bounds-highest-start c =
    let l = c.loop-size in
    let step = c.side-step in
    suiting_le l.invariant c.requires.0 c.loop-size-test.true step.result _ step.ensures (rows_end c.args.feed.order l.size _ step.result c.requires.0 c.loop-size-test.true step.ensures)
