-- The loop keeps that the block of the next size, up to the first one, is not wholly scanned; the pixel itself is.
use mathlib.Core.Path.{◌≡◌, ◌∙◌, sym}
use Prim.Native.Nat.{suc, ◌-◌}
use native.Mathlib.Omega.{arith}
use Rattle.refusal.specs.Refusal.{accepted}
use Rattle.refusal.specs.Refused.{said}
use Rattle.quadtree.proofs.Alignment.{corner_aligned, corner_has}
use Rattle.scan_check.proofs.ScannedLaws.{block_passed, block_all}
use Rattle.lookup.specs.Stretch.{Scanned}
use Rattle.lookup.proofs.StretchLaws.{pixel_scanned, ok_said, bad_said}
use Rattle.lookup.proofs.scanned_size.Goals as goal

pub returns-then-is_ok : goal.returns-then-is_ok
returns-then-is_ok c =
    let l = c.loop-k in
    let ok : said c.block_scanned.result ≡ accepted = ok_said _ (sym c.is_ok.ensures.value ∙ c.if-is_ok.true) in
    record { low = l.invariant.0; scanned = block_passed c.args.scan _ l.k (rw c.corner_at.ensures at (sym c.block_scanned.ensures ∙ ok)); top = l.invariant.1 }

pub loop-k-preserved : goal.loop-k-preserved
loop-k-preserved c =
    let a = c.args in
    let l = c.loop-k in
    let k : suc (l.k - 1) ≡ l.k = omega arith in
    let bad : said c.block_scanned.result ≡ accepted → ⊥ = bad_said _ (sym c.is_ok.ensures.value ∙ c.if-is_ok.false) in
    let none : Scanned a.scan l.k a.z → ⊥ = λ w. bad (c.block_scanned.ensures ∙ rw c.corner_at.ensures (block_all a.scan _ l.k w)) in
    (omega (arith, l.invariant.0), λ h w. none (rw k at w))

pub returns : goal.returns
returns c =
    let a = c.args in
    let l = c.loop-k in
    let k : l.k ≡ 0 = omega arith in
    record { low = omega arith; scanned = pixel_scanned a.scan a.z c.requires.3; top = rw k at l.invariant.1 }

pub block_scanned-requires : goal.block_scanned-requires
block_scanned-requires c =
    let p = c.requires in
    let z = c.args.z in
    let k = c.loop-k.k in
    rw c.corner_at.ensures (p.0, omega (arith, p.2, c.loop-k.invariant.0), omega (arith, p.1, (corner_has k z).0), corner_aligned k z)
