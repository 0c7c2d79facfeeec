-- Laws of the lines of tiles, and of lines put into a lent buffer.
--     tile_line_most      how long a line is at most
--     tile_lines_most     how long the lines of tiles are at most, if no line is longer than k
--     tile_lines_next     one more tile
--     lines_none, lines_next    the lines of the first tiles, put
--     lines_taken        the lines of a list are those of its part of the slots
use mathlib.Core.Path.{◌≡◌, refl, sym, ap}
use mathlib.Core.List.{List, [], ◌∷◌, ◌++◌, append_assoc, append-nil, map, Memᴰ}
use Prim.Native.Nat.{ℕ, zero, suc, ◌+◌, ◌*◌, ◌≤◌, ◌<◌}
use native.Mathlib.Nat.{mul-suc}
use native.Mathlib.Omega.{arith}
use native.Mathlib.Numerals.{add-one}
use lib.ListN.{length, take, get_or, length-append}
use lib.Seq.{take_all, length-take-le}
use Rattle.tile.specs.declared.Tile.{Tile}
use Rattle.tile.specs.Tile.{tile_of}
use Rattle.tile.specs.Slots.{tiles_in}
use Rattle.text.specs.declared.Writer.{Writer}
use Rattle.text.specs.Puts.{Puts}
use Rattle.text.proofs.PutAtLaws.{puts_none, puts_then}
use Rattle.decimal.specs.Lines.{triple_most}
use Rattle.decimal.proofs.LinesLaws.{triple_line_most}
use Rattle.listing.specs.Listing.{tile_line, tile_lines, scan_lines}

pub tile_line_most : (t : Tile) → length (tile_line t) ≤ triple_most
unfolding tile_line
tile_line_most t = triple_line_most t.corner t.size t.account

pub tile_lines_most : (k : ℕ) (ts : List Tile) → ((t : Tile) → Memᴰ t ts → length (tile_line t) ≤ k) → length (tile_lines ts) ≤ k * length ts
unfolding tile_lines
tile_lines_most k [] h = omega arith
tile_lines_most k (t ∷ ts) h =
    omega (arith, length-append (tile_line t) (tile_lines ts), mul-suc k (length ts), h t (Memᴰ.head refl), tile_lines_most k ts (λ u i. h u (Memᴰ.tail i)))

next : (ws : List ℕ) (i : ℕ) → i < length ws → tile_lines (map tile_of (take (suc i) ws)) ≡ tile_lines (map tile_of (take i ws)) ++ tile_line (tile_of (get_or ws i 0))
unfolding tile_lines
next [] i h = absurd (omega arith)
next (w ∷ ws) zero h = append-nil (tile_line (tile_of w))
next (w ∷ ws) (suc i) h =
    rw (next ws i (omega arith)) (sym (append_assoc (tile_line (tile_of w)) (tile_lines (map tile_of (take i ws))) (tile_line (tile_of (get_or ws i 0)))))

pub tile_lines_next : (ws : List ℕ) (i : ℕ) → i < length ws → tile_lines (tiles_in (i + 1) ws) ≡ tile_lines (tiles_in i ws) ++ tile_line (tile_of (get_or ws i 0))
unfolding tiles_in
tile_lines_next ws i h = rw (add-one i) (next ws i h)

pub lines_none : (ws : List ℕ) (writer : Writer) → Puts (tile_lines (tiles_in 0 ws)) writer writer
unfolding tile_lines tiles_in
lines_none ws writer = puts_none writer

pub lines_next : (ws : List ℕ) (i : ℕ) {old half new : Writer} → i < length ws → Puts (tile_lines (tiles_in i ws)) old half →
    Puts (tile_line (tile_of (get_or ws i 0))) half new → Puts (tile_lines (tiles_in (i + 1) ws)) old new
lines_next ws i h v w = rw (tile_lines_next ws i h) (puts_then v w)

tiles_taken : (t : ℕ) (ws : List ℕ) → tiles_in (length (take t ws)) (take t ws) ≡ tiles_in t ws
unfolding tiles_in
tiles_taken t ws = ap (map tile_of) (take_all (length (take t ws)) (take t ws) (omega arith))

pub lines_taken : (n t : ℕ) (ws : List ℕ) (number taken : ℕ) → t ≤ length ws → scan_lines n (length (take t ws)) (take t ws) number taken ≡ scan_lines n t ws number taken
lines_taken n t ws number taken h = rw (tiles_taken t ws, length-take-le t ws h) refl
