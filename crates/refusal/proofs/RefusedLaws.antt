-- Laws of what checks answer, as the two ways out of a `?` have them.
--     number_some                    a refusal has a number
--     else_passed, else_refused      checks in turn: where the first passes the rest decides, and else it does
--     unless_passed, unless_refused  a call's answer: what comes where its checks pass, or that of their refusal
use Rattle.std.proofs.Common.{◌≡◌, sym, ◌∙◌, ap, ℕ, ◌<◌}
use native.Mathlib.Omega.{arith}
use Rattle.refusal.specs.declared.Refusal.{Refusal}
use Rattle.refusal.specs.declared.Refusal.TheVariants.{OrderTooLarge, CountAboveSlots, HighBitsSet, SizeAboveOrder, CornerInvalid, AccountZero, TilesOverlap, SiblingsUnmerged, ScannedTooLarge, TileUnscanned, ScanFull, AccountTooLarge, SlotsExceeded, BytesTooFew, PointOutside, BlockInvalid, RasterLength, AskerInvalid, FileCutShort, TrailingBytes, RosterWrong, OrdersDiffer, Unscanned, PositionInvalid, RosterUnsorted, TableMalformed, TableUnsound}
use Rattle.refusal.specs.Refusal.{accepted}
use Rattle.refusal.specs.Refused.{number}
use Rattle.refusal.specs.Checks.{or_else, unless}
use Rattle.refusal.proofs.CheckLaws.{else_on, else_off, unless_on, unless_off}

pub number_some : (r : Refusal) → 0 < number r
number_some OrderTooLarge = omega arith
number_some CountAboveSlots = omega arith
number_some HighBitsSet = omega arith
number_some SizeAboveOrder = omega arith
number_some CornerInvalid = omega arith
number_some AccountZero = omega arith
number_some TilesOverlap = omega arith
number_some SiblingsUnmerged = omega arith
number_some ScannedTooLarge = omega arith
number_some TileUnscanned = omega arith
number_some ScanFull = omega arith
number_some AccountTooLarge = omega arith
number_some SlotsExceeded = omega arith
number_some BytesTooFew = omega arith
number_some PointOutside = omega arith
number_some BlockInvalid = omega arith
number_some RasterLength = omega arith
number_some AskerInvalid = omega arith
number_some FileCutShort = omega arith
number_some TrailingBytes = omega arith
number_some RosterWrong = omega arith
number_some OrdersDiffer = omega arith
number_some Unscanned = omega arith
number_some PositionInvalid = omega arith
number_some RosterUnsorted = omega arith
number_some TableMalformed = omega arith
number_some TableUnsound = omega arith

pub else_passed : {n : ℕ} (rest : ℕ) → accepted ≡ n → or_else n rest ≡ rest
else_passed rest p = else_on _ rest (sym p)

pub else_refused : {n : ℕ} (e : Refusal) (rest : ℕ) → number e ≡ n → number e ≡ or_else n rest
else_refused e rest p =
    let h = number_some e in
    p ∙ sym (else_off _ _ (λ z. omega (arith, h, p, z)))

pub unless_passed : {A : Type 0} {n : ℕ} (x : ℕ → A) (y : A) → accepted ≡ n → y ≡ unless n x y
unless_passed x y p = sym (unless_on _ x y (sym p))

pub unless_refused : {A : Type 0} {n : ℕ} (e : Refusal) (x : ℕ → A) (y : A) → number e ≡ n → x (number e) ≡ unless n x y
unless_refused e x y p =
    let h = number_some e in
    ap x p ∙ sym (unless_off _ x y (λ z. omega (arith, h, p, z)))
