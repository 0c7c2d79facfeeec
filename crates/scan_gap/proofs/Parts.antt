-- The two parts of a list in slots, as equations between lists.
--     held_tiles, held_length     the tiles of both parts, and how many there are
--     held_front                  where the back part is empty
--     closed                      what moving the back part down and clearing the rest leaves
use mathlib.Core.Path.{◌≡◌, ◌∙◌}
use mathlib.Core.List.{List, ◌++◌, append-nil, map-append}
use Prim.Native.Nat.{ℕ, ◌+◌, ◌-◌, ◌≤◌}
use native.Mathlib.Omega.{arith}
use lib.ListN.{length, take, drop, replicate, length-append, length-map, length-drop}
use lib.Seq.{slice, drop-length, take-length, length-take-le, take_at}
use Rattle.tile.specs.Tile.{tile_of}
use Rattle.tile.specs.Slots.{tiles}
use Rattle.scan_gap.specs.Gap.{held}

pub held_tiles : (s : List ℕ) (i b : ℕ) → tiles (held s i b) ≡ tiles (take i s) ++ tiles (drop b s)
held_tiles s i b = map-append tile_of (take i s) (drop b s)

pub held_length : (s : List ℕ) (i b : ℕ) → i ≤ b → b ≤ length s → length (tiles (held s i b)) ≡ i + (length s - b)
held_length s i b l h = rw (length-map (held s i b) tile_of, length-append (take i s) (drop b s), length-take-le i s (omega arith), length-drop b s)

pub held_front : (s : List ℕ) (i : ℕ) → held s i (length s) ≡ take i s
held_front s i = rw (drop-length s, append-nil (take i s))

pub closed : (s u v : List ℕ) (i b k : ℕ) → i ≤ b → b ≤ length s → k ≡ b - i → u ≡ take i s ++ slice (i + k) (length s) s ++ drop (length s - k) s →
    v ≡ take (length s - k) u ++ replicate (length u - (length s - k)) 0 → length u ≡ length s → v ≡ held s i b ++ replicate (b - i) 0
closed s u v i b k l h e p q n =
    let d : i + k ≡ b = omega arith in
    let f : length u - (length s - k) ≡ b - i = omega arith in
    let g : length (held s i b) ≡ length s - k = simp (length-append, length-take-le i s (omega arith), length-drop) (omega arith) in
    let w : u ≡ held s i b ++ drop (length s - k) s = p ∙ rw (d, take-length s) in
    q ∙ rw (f, w, take_at (held s i b) (drop (length s - k) s) (length s - k) g)
