-- Inner: blocks put in Morton order into a list with a gap. Definitions only.
--     mixed f g lo x            the raster f with g's accounts on the numbers from lo up to x
--     Site m n f g lo hi        the numbers from lo up to hi can be put on the raster f of order n: of each block that
--                               meets them, the last pixel is nobody's, and m slots are enough at each number on the
--                               way
--     Built n f g lo x s i b    the list in s with a gap from i to b is that of f with g's accounts from lo up to x,
--                               and the gap lies at x
--     Advances s t i b x y P r  where g satisfies P, from the slots s to t the list was built on from x to y; r is the
--                               gap's new front
--     Alone s t i b z a r       from the slots s to t the account a was put on the pixel z as a tile by itself
--     Quad z a b c d g          what g has at the four pixels from z on
--     Given bytes k l           the l bytes from number k on are there, none above the highest account
--     Line bytes k l z g        g has them at the l numbers from z on
--     byte_at bytes d i          the account of the place i, where the first byte is that of the place d
--     Legible n d bytes lo hi   the places of the pixels from lo up to hi have bytes, none above the highest account
--     Bytes n d bytes lo hi g   g has these accounts there
--     BlockFits n d bytes x r k the block of size k at the column x and the row r lies in the bed, and is legible
--     Blocked s t i b n d bytes lo hi r   from the slots s to t the block from lo up to hi got its accounts, if it can
--                               be put (`Site`)
use Rattle.std.specs.Prelude.{◌≡◌, ◌&&◌, List, [], ◌∷◌, ◌++◌, ℕ, ◌+◌, ◌-◌, ◌^◌, ◌≤◌, ◌<◌, leb, ltb, length, take, drop, get_or}
use Rattle.basics.specs.Choice.{if}
use Rattle.morton.specs.Morton.{morton, side_bits}
use Rattle.tile.specs.Tile.{tile, highest_order, highest_account}
use Rattle.tile.specs.Slots.{tiles}
use Rattle.quadtree.specs.Raster.{Aligned}
use Rattle.quadtree.specs.Quadtree.{quadtree}
use Rattle.bed.specs.Places.{place_of}
use Rattle.bed.specs.declared.Kind.TheVariants.{Rows}
use Rattle.scan_gap.specs.Gap.{held, Fits, Low, High}
use Rattle.scan_gap.specs.declared.Gap.{Gap}

unfoldable pub mixed : (ℕ → ℕ) → (ℕ → ℕ) → ℕ → ℕ → ℕ → ℕ
mixed f g lo x z = if (leb lo z && ltb z x) (g z) (f z)

pub record Site (m n : ℕ) (f g : ℕ → ℕ) (lo hi : ℕ) : Type 0 where
  pub inside : hi ≤ 4 ^ n
  pub last : (z j c : ℕ) → lo ≤ z → z < hi → Aligned j c → c ≤ z → z < c + 4 ^ j → c + 4 ^ j ≤ 4 ^ n →
      f (c + 4 ^ j - 1) ≡ 0
  pub room : (x : ℕ) → lo ≤ x → x ≤ hi → length (quadtree n (mixed f g lo x)) ≤ m

pub record Built (n : ℕ) (f g : ℕ → ℕ) (lo x : ℕ) (s : List ℕ) (i b : ℕ) : Type 0 where
  pub low : Low s i x
  pub high : High s b x
  pub list : tiles (held s i b) ≡ quadtree n (mixed f g lo x)

pub record Advances (s t : List ℕ) (i b x y : ℕ) (is : (ℕ → ℕ) → Type 0) (r : ℕ) : Type 0 where
  pub fits : r ≤ b
  pub on : (n : ℕ) (f g : ℕ → ℕ) (lo hi : ℕ) → Site (length s) n f g lo hi → lo ≤ x → y ≤ hi → is g →
      Built n f g lo x s i b → Built n f g lo y t r b

-- what storing a word does: nothing for nobody's account
pub record Alone (s t : List ℕ) (i b z a r : ℕ) : Type 0 where
  pub fits : r ≤ b
  pub back : drop b t ≡ drop b s
  pub none : a ≡ 0 → (r ≡ i) × (t ≡ s)
  pub put : 0 < a → i < b →
      (r ≡ i + 1) × (tiles (take (i + 1) t) ≡ tiles (take i s) ++ tile z 0 a ∷ []) × Low t (i + 1) (z + 1)

abbrev pub Quad : ℕ → ℕ → ℕ → ℕ → ℕ → (ℕ → ℕ) → Type 0
Quad z a b c d g = (g z ≡ a) × (g (z + 1) ≡ b) × (g (z + 2) ≡ c) × (g (z + 3) ≡ d)

pub record Given (bytes : List ℕ) (k l : ℕ) : Type 0 where
  pub there : k + l ≤ length bytes
  pub low : (i : ℕ) → i < l → get_or bytes (k + i) 0 ≤ highest_account

abbrev pub Line : List ℕ → ℕ → ℕ → ℕ → (ℕ → ℕ) → Type 0
Line bytes k l z g = (i : ℕ) → i < l → g (z + i) ≡ get_or bytes (k + i) 0

abbrev pub byte_at : List ℕ → ℕ → ℕ → ℕ
byte_at bytes d i = get_or bytes (i - d) 0

abbrev pub Legible : ℕ → ℕ → List ℕ → ℕ → ℕ → Type 0
Legible n d bytes lo hi = (z : ℕ) → lo ≤ z → z < hi →
    (d ≤ place_of Rows n z) × (place_of Rows n z < d + length bytes)
    × (byte_at bytes d (place_of Rows n z) ≤ highest_account)

abbrev pub Bytes : ℕ → ℕ → List ℕ → ℕ → ℕ → (ℕ → ℕ) → Type 0
Bytes n d bytes lo hi g = (z : ℕ) → lo ≤ z → z < hi → g z ≡ byte_at bytes d (place_of Rows n z)

pub record BlockFits (n d : ℕ) (bytes : List ℕ) (x r k : ℕ) : Type 0 where
  pub order : n ≤ highest_order
  pub some : 1 ≤ k
  pub size : k ≤ n
  pub column : x < 2 ^ n
  pub row : r < 2 ^ n
  pub aligned : Aligned k (morton side_bits x r)
  pub inside : morton side_bits x r + 4 ^ k ≤ 4 ^ n
  pub legible : Legible n d bytes (morton side_bits x r) (morton side_bits x r + 4 ^ k)

pub record Blocked (s t : List ℕ) (i b n d : ℕ) (bytes : List ℕ) (lo hi : ℕ) (r : Gap) : Type 0 where
  pub fits : Fits t r.front r.back
  pub on : (f g : ℕ → ℕ) → Site (length s) n f g lo hi → Bytes n d bytes lo hi g →
      tiles (held s i b) ≡ quadtree n f → tiles (held t r.front r.back) ≡ quadtree n (mixed f g lo hi)
