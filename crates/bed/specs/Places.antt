-- The places of a scan (document 01, "Scanning" and "The plain bed"). Definitions only.
--     scan_of k n s t      the scan record of kind k and order n with s pixels scanned and t tiles
--     place_of k n z       how many places come before that of the pixel with the Morton number z, in the scan of kind k
--                         and order n
--     pixel_at k n i       the Morton number of the pixel with i places before its own
--     scanned k n s z     the pixel z is scanned once s pixels are: fewer than s places come before its own
--     unscanned_in k n s c j   the block of size j at the corner c has a pixel that is then not scanned
--     rows n f            the accounts of the raster f of order n, row after row
use Rattle.std.specs.Prelude.{Bool, not, List, ℕ, ◌+◌, ◌*◌, ◌/◌, ◌%◌, ◌^◌, ltb}
use Rattle.basics.specs.Choice.{some, tabulate}
use Rattle.morton.specs.Morton.{morton, column, row}
use Rattle.bed.specs.declared.Kind.{Kind}
use Rattle.bed.specs.declared.Kind.TheVariants.{Rows, Morton}
use Rattle.bed.specs.declared.Scan.{Scan}

abbrev pub scan_of : Kind → ℕ → ℕ → ℕ → Scan
scan_of k n s t = record { kind = k; order = n; pixels = s; tiles = t }

unfoldable pub place_of : Kind → ℕ → ℕ → ℕ
place_of Rows n z = row n z * 2 ^ n + column n z
place_of Morton n z = z

unfoldable pub pixel_at : Kind → ℕ → ℕ → ℕ
pixel_at Rows n i = morton n (i % 2 ^ n) (i / 2 ^ n)
pixel_at Morton n i = i

unfoldable pub scanned : Kind → ℕ → ℕ → ℕ → Bool
scanned k n s z = ltb (place_of k n z) s

abbrev pub unscanned_in : Kind → ℕ → ℕ → ℕ → ℕ → Bool
unscanned_in k n s c j = some (λ z. not (scanned k n s z)) c (4 ^ j)

unfoldable pub rows : ℕ → (ℕ → ℕ) → List ℕ
rows n f = tabulate (λ i. f (pixel_at Rows n i)) 0 (4 ^ n)
