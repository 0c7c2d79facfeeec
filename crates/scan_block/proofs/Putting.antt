-- A block put quad by quad.
--     side_least                  sides, by size
--     quad_place                  the places of a quad's pixels
--     Putting                     the block is put up to x
--     putting-start, -room, -bytes, -quad, -done, -next
--     square_place                the place of a column and a row
use mathlib.Core.Path.{◌≡◌, refl, ap, sym, ◌∙◌}
use mathlib.Core.List.{List}
use Prim.Native.Nat.{ℕ, zero, suc, ◌+◌, ◌-◌, ◌*◌, ◌/◌, ◌%◌, ◌^◌, ◌≤◌, ◌<◌}
use native.Mathlib.Nat.{add-mul, mul-le-mul_right}
use native.Mathlib.Omega.{arith}
use lib.Pow.{pow_mono}
use lib.ListN.{length, get_or}
use Rattle.morton.specs.Morton.{morton, column, row, side_bits}
use Rattle.morton.proofs.MortonLaws.{morton_wide, column_morton, row_morton}
use Rattle.tile.specs.Tile.{highest_order, highest_account}
use Rattle.quadtree.specs.Raster.{Aligned}
use Rattle.quadtree.proofs.Alignment.{area_mono, aligned_down, aligned_next, aligned_gap}
use Rattle.quadtree.proofs.ValidLaws.{quadtree_cong}
use Rattle.bed.specs.Places.{place_of}
use Rattle.bed.specs.declared.Kind.TheVariants.{Rows}
use Rattle.bed.proofs.PlaceLaws.{area_sides}
use Rattle.tile.specs.Slots.{tiles}
use Rattle.scan_gap.specs.Gap.{Fits, Moved}
use Rattle.scan_block.specs.Blocks.{mixed, Advances, Quad, Legible, Bytes, Blocked, BlockFits}
use Rattle.scan_block.proofs.Advance.{mixed_out, advance_then, advance_is}

pub side_least : {j k : ℕ} → j ≤ k → 2 ^ j ≤ 2 ^ k
side_least h = pow_mono h

-- the places of the four pixels of a quad
split : (r x s c w : ℕ) → (r + x) * s + (c + w) ≡ (r + 0) * s + (c + 0) + x * s + w
split r x s c w = omega (arith, add-mul r x s, add-mul r 0 s)

quad_sides : (m t d y z : ℕ) → d < 4 → y ≡ t * 4 + d → z ≡ t * 4 → place_of Rows (suc m) y ≡ place_of Rows (suc m) z + d / 2 * 2 ^ suc m + d % 2
unfolding place_of column row
quad_sides m t d y z l ey ez =
    let a : y / 4 ≡ t = omega arith in
    let b : z / 4 ≡ t = omega arith in
    let c : y / 2 % 2 ≡ d / 2 = omega arith in
    let e : z / 2 % 2 ≡ 0 = omega arith in
    let f : y % 2 ≡ d % 2 = omega arith in
    let g : z % 2 ≡ 0 = omega arith in
    rw (a, b, c, e, f, g) (split (2 * row m t) (d / 2) (2 ^ suc m) (2 * column m t) (d % 2))

pub quad_place : (n z d : ℕ) → 1 ≤ n → Aligned 1 z → d < 4 → place_of Rows n (z + d) ≡ place_of Rows n z + d / 2 * 2 ^ n + d % 2
quad_place zero z d h m l = absurd (omega arith)
quad_place (suc j) z d h m l = quad_sides j m.times d (z + d) z l (omega (arith, m.is)) (omega (arith, m.is))

-- the bytes of a quad
pub record QuadBytes (n d : ℕ) (bytes : List ℕ) (x at w : ℕ) : Type 0 where
  pub index : at + w + 1 < length bytes
  pub first : get_or bytes at 0 ≤ highest_account
  pub second : get_or bytes (at + 1) 0 ≤ highest_account
  pub third : get_or bytes (at + w) 0 ≤ highest_account
  pub fourth : get_or bytes (at + w + 1) 0 ≤ highest_account
  pub are : (lo : ℕ) (g : ℕ → ℕ) → lo ≤ x → Bytes n d bytes lo (x + 4) g → Quad x (get_or bytes at 0) (get_or bytes (at + 1) 0) (get_or bytes (at + w) 0) (get_or bytes (at + w + 1) 0) g

module _ (n d : ℕ) (bytes : List ℕ) (lo hi x at w : ℕ) (pos : 1 ≤ n) (legible : Legible n d bytes lo hi) (l : lo ≤ x) (h : x + 4 ≤ hi) (m : Aligned 1 x) (e : at ≡ place_of Rows n x - d) (ew : w ≡ 2 ^ n) where
  start : d ≤ place_of Rows n x
  start = (legible x l (omega arith)).0

  p1 : place_of Rows n (x + 1) - d ≡ at + 1
  p1 = omega (arith, quad_place n x 1 pos m (omega arith), start)

  p2 : place_of Rows n (x + 2) - d ≡ at + w
  p2 = omega (arith, quad_place n x 2 pos m (omega arith), start)

  p3 : place_of Rows n (x + 3) - d ≡ at + w + 1
  p3 = omega (arith, quad_place n x 3 pos m (omega arith), start)

  pub quad_bytes : QuadBytes n d bytes x at w
  quad_bytes = record {
    index = omega (arith, p3, legible (x + 3) (omega arith) (omega arith));
    first = rw (← e) at (legible x l (omega arith)).2;
    second = rw p1 at (legible (x + 1) (omega arith) (omega arith)).2;
    third = rw p2 at (legible (x + 2) (omega arith) (omega arith)).2;
    fourth = rw p3 at (legible (x + 3) (omega arith) (omega arith)).2;
    are = λ lo g u b. (rw (← e) at (b x u (omega arith)), rw p1 at (b (x + 1) (omega arith) (omega arith)), rw p2 at (b (x + 2) (omega arith) (omega arith)), rw p3 at (b (x + 3) (omega arith) (omega arith)));
  }

-- the block is put up to x
pub record Putting (u t : List ℕ) (i e n d : ℕ) (bytes : List ℕ) (lo x r : ℕ) : Type 0 where
  pub from : lo ≤ x
  pub quad : Aligned 1 x
  pub fits : Fits t r e
  pub long : length t ≡ length u
  pub built : Advances u t i e lo x (Bytes n d bytes lo x) r

pub putting_start : (u : List ℕ) (i e n d : ℕ) (bytes : List ℕ) (lo k : ℕ) → Fits u i e → 1 ≤ k → Aligned k lo → Putting u u i e n d bytes lo lo i
putting_start u i e n d bytes lo k fit pos m = record {
  from = omega arith;
  quad = aligned_down pos m;
  fits = fit;
  long = refl;
  built = record { fits = fit.0; on = λ n f g lo hi site l h is built. built };
}

module _ {u t : List ℕ} {i e n d : ℕ} {bytes : List ℕ} {lo x r : ℕ} (w : Putting u t i e n d bytes lo x r) where
  pub putting_room : (k : ℕ) → 1 ≤ k → Aligned k lo → x < lo + 4 ^ k → x + 4 ≤ lo + 4 ^ k
  putting_room k pos m l = aligned_gap w.quad (aligned_down pos (aligned_next m)) l

  pub putting_bytes : (k at y : ℕ) → 1 ≤ k → k ≤ n → Aligned k lo → Legible n d bytes lo (lo + 4 ^ k) → x < lo + 4 ^ k → at ≡ place_of Rows n x - d → y ≡ 2 ^ n → QuadBytes n d bytes x at y
  putting_bytes k at y pos kn m legible l e ey = quad_bytes n d bytes lo (lo + 4 ^ k) x at y (omega arith) legible w.from (putting_room k pos m l) w.quad e ey

  pub putting_quad : (v : List ℕ) (q at y : ℕ) → QuadBytes n d bytes x at y → length v ≡ length t →
      Advances t v r e x (x + 4) (Quad x (get_or bytes at 0) (get_or bytes (at + 1) 0) (get_or bytes (at + y) 0) (get_or bytes (at + y + 1) 0)) q → Putting u v i e n d bytes lo (x + 4) q
  putting_quad v q at y b len a = record {
    from = omega (arith, w.from);
    quad = aligned_next w.quad;
    fits = (a.fits, omega (arith, w.fits));
    long = len ∙ w.long;
    built = advance_is u v i e lo (x + 4) (λ g p. ((λ z l h. p z l (omega arith)), b.are lo g w.from p)) (advance_then u t v i e lo x (x + 4) w.from (omega arith) w.long w.built a);
  }

  pub putting_done : (s : List ℕ) (j c hi : ℕ) → hi ≡ x → Moved s u j c lo (record { front = i; back = e }) → length u ≡ length s → Blocked s t j c n d bytes lo hi (record { front = r; back = e })
  putting_done s j c hi eh moved len = rw eh (record {
    fits = w.fits;
    on = λ f g site is list.
        (w.built.on n f g lo x (rw (← len) at site) (omega arith) (omega arith) is
        (record { low = moved.low; high = moved.high; list = ap tiles moved.held ∙ list ∙ quadtree_cong n f (mixed f g lo lo) (λ z h. sym (mixed_out f g lo lo z (λ y. omega (arith, y.0, y.1)))) })).list;
  })

-- a pixel at a column and a row
module _ (n c r : ℕ) (h : n ≤ highest_order) (lc : c < 2 ^ n) (lr : r < 2 ^ n) where
  pub square_place : r * 2 ^ n % 2 ^ 32 + c ≡ place_of Rows n (morton side_bits c r)
  unfolding place_of
  square_place =
      let big : 4 ^ n ≤ 4 ^ highest_order = area_mono h in
      let small : r * 2 ^ n % 2 ^ 32 ≡ r * 2 ^ n = omega (arith, mul-le-mul_right (2 ^ n) (let s : r + 1 ≤ 2 ^ n = omega arith in s), add-mul r 1 (2 ^ n), area_sides n) in
      rw (small, morton_wide n side_bits c r h lc lr, row_morton n c r lr, column_morton n c r lc)

-- the bytes of the next quad, in the words of the code
pub putting_next : {u t : List ℕ} {i e n d : ℕ} {bytes : List ℕ} {lo x r : ℕ} → Putting u t i e n d bytes lo x r → {c q k : ℕ} → BlockFits n d bytes c q k → lo ≡ morton side_bits c q → (area at y : ℕ) → area ≡ 4 ^ k → x < lo + area →
    at ≡ place_of Rows n x - d → y ≡ 2 ^ n → QuadBytes n d bytes x at y
putting_next w {k = k} fits el area at y ea l e ey =
    putting_bytes w k at y fits.some fits.size (rw (← el) at fits.aligned) (rw (← el) at fits.legible) (omega arith) e ey
