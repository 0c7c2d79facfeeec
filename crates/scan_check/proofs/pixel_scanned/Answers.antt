-- Every pixel, or by this one's place.
use mathlib.Core.Path.{◌∙◌, sym}
use native.Mathlib.Omega.{arith}
use Rattle.scan_check.proofs.ScannedLaws.{whole_pixel, pixel_unscanned, pixel_scanned}
use Rattle.scan_check.proofs.pixel_scanned.Goals as goal

pub returns-then-whole : goal.returns-then-whole
returns-then-whole c =
    let s = c in
    whole_pixel s.args.scan (sym c.if-whole.true ∙ c.whole.ensures) s.args.z s.requires.1

pub returns-then-scan-place : goal.returns-then-scan-place
returns-then-scan-place c =
    let a = c.args in
    pixel_unscanned a.scan a.z (omega (arith, c.place.ensures, c.if-scan-place.true))

pub returns : goal.returns
returns c =
    let a = c.args in
    pixel_scanned a.scan a.z (omega (arith, c.place.ensures, c.if-scan-place.false))
