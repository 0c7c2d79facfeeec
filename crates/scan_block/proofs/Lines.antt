-- A stretch put quad by quad.
--     quads_many, quad_in, quad_low    the quads of a stretch, and their accounts
--     Lining                           it is put up to the quad number q
--     lining-start, -aligned, -next, -done
use mathlib.Core.Path.{◌≡◌, refl, ap, sym, ◌∙◌}
use mathlib.Core.List.{List, []}
use Prim.Native.Nat.{ℕ, zero, suc, ◌+◌, ◌-◌, ◌*◌, ◌/◌, ◌≤◌, ◌<◌, min}
use native.Mathlib.Omega.{arith}
use lib.ListN.{length, take, drop, get_or}
use lib.Seq.{get_or-drop, get_or-take}
use Rattle.std.specs.Simd.{first_chunks}
use Rattle.std.proofs.lemmas.List.{length-drop, length-take}
use Rattle.tile.specs.Tile.{highest_account}
use Rattle.quadtree.specs.Raster.{Aligned}
use Rattle.scan_gap.specs.Gap.{Fits}
use Rattle.scan_block.specs.Blocks.{Advances, Quad, Given, Line}
use Rattle.scan_block.proofs.Advance.{advance_then, advance_is}

chunk_at : (t : ℕ) (bs : List ℕ) (q j : ℕ) → q < t → j < 4 → get_or (get_or (first_chunks 4 t bs) q []) j 0 ≡ get_or bs (4 * q + j) 0
chunk_at zero bs q j h l = absurd (omega arith)
chunk_at (suc t) bs zero j h l = get_or-take 4 bs j 0 l ∙ ap (λ (i : ℕ). get_or bs i 0) (omega arith)
chunk_at (suc t) bs (suc q) j h l = chunk_at t (drop 4 bs) q j (omega arith) l ∙ get_or-drop 4 bs (4 * q + j) 0 ∙ ap (λ (i : ℕ). get_or bs i 0) (omega arith)

module _ (bytes : List ℕ) (k n m : ℕ) (em : m ≡ length (take n (drop k bytes)) / 4) where
  pub quads_many : m ≡ min n (length bytes - k) / 4
  quads_many = em ∙ ap (λ (i : ℕ). i / 4) (length-take n (drop k bytes) ∙ ap (min n) (length-drop k bytes))

  pub quad_in : {quads : List (List ℕ)} → quads ≡ first_chunks 4 (length (take n (drop k bytes)) / 4) (take n (drop k bytes)) → (q : ℕ) → q < m →
      Quad (k + 4 * q) (get_or (get_or quads q []) 0 0) (get_or (get_or quads q []) 1 0) (get_or (get_or quads q []) 2 0) (get_or (get_or quads q []) 3 0) (λ i. get_or bytes i 0)
  quad_in {quads} e q h = (at 0 (k + 4 * q) (omega arith) (omega arith), at 1 (k + 4 * q + 1) (omega arith) (omega arith), at 2 (k + 4 * q + 2) (omega arith) (omega arith), at 3 (k + 4 * q + 3) (omega arith) (omega arith))
    where
      at : (j i : ℕ) → k + (4 * q + j) ≡ i → j < 4 → get_or bytes i 0 ≡ get_or (get_or quads q []) j 0
      at j i ei l = rw e (sym (chunk_at _ (take n (drop k bytes)) q j (omega (arith, em)) l ∙ get_or-take n (drop k bytes) (4 * q + j) 0 (omega (arith, em, length-take n (drop k bytes))) ∙ get_or-drop k bytes (4 * q + j) 0 ∙ ap (λ (i : ℕ). get_or bytes i 0) ei))

pub quad_low : (bytes : List ℕ) (k len q a0 a1 a2 a3 : ℕ) → Given bytes k len → 4 * q + 4 ≤ len → Quad (k + 4 * q) a0 a1 a2 a3 (λ i. get_or bytes i 0) →
    (a0 ≤ highest_account) × (a1 ≤ highest_account) × (a2 ≤ highest_account) × (a3 ≤ highest_account)
quad_low bytes k len q a0 a1 a2 a3 given room is = (low 0 (k + 4 * q) a0 (omega arith) (omega arith) is.0, low 1 (k + 4 * q + 1) a1 (omega arith) (omega arith) is.1, low 2 (k + 4 * q + 2) a2 (omega arith) (omega arith) is.2, low 3 (k + 4 * q + 3) a3 (omega arith) (omega arith) is.3)
  where
    low : (j i a : ℕ) → k + (4 * q + j) ≡ i → j < 4 → get_or bytes i 0 ≡ a → a ≤ highest_account
    low j i a ei h ea = rw (ei, ea) at (given.low (4 * q + j) (omega arith))

pub record Lining (s t : List ℕ) (i b : ℕ) (bytes : List ℕ) (k z q y r : ℕ) : Type 0 where
  pub next : y ≡ z + 4 * q
  pub fits : Fits t r b
  pub long : length t ≡ length s
  pub built : Advances s t i b z y (Line bytes k (4 * q) z) r

pub lining_start : (s : List ℕ) (i b : ℕ) (bytes : List ℕ) (k z : ℕ) → Fits s i b → Lining s s i b bytes k z 0 z i
lining_start s i b bytes k z fit = record {
  next = omega arith;
  fits = fit;
  long = refl;
  built = record { fits = fit.0; on = λ n f g lo hi site l h is built. built };
}

module _ {s t : List ℕ} {i b : ℕ} {bytes : List ℕ} {k z q y r : ℕ} (w : Lining s t i b bytes k z q y r) where
  pub lining_aligned : Aligned 1 z → Aligned 1 y
  lining_aligned al = record { times = al.times + q; is = omega (arith, al.is, w.next) }

  pub lining_next : (v : List ℕ) (o a0 a1 a2 a3 : ℕ) → length v ≡ length t → Quad (k + 4 * q) a0 a1 a2 a3 (λ i. get_or bytes i 0) → Advances t v r b y (y + 4) (Quad y a0 a1 a2 a3) o →
      Lining s v i b bytes k z (q + 1) (y + 4) o
  lining_next v o a0 a1 a2 a3 len is a = record {
    next = omega (arith, w.next);
    fits = (a.fits, omega (arith, w.fits));
    long = len ∙ w.long;
    built = advance_is s v i b z (y + 4) (λ g p. ((λ j h. p j (omega arith)), quad g p)) (advance_then s t v i b z y (y + 4) (omega (arith, w.next)) (omega arith) w.long w.built a);
  }
    where
      nth : (g : ℕ → ℕ) → Line bytes k (4 * (q + 1)) z g → (j c d : ℕ) → j < 4 → z + (4 * q + j) ≡ c → k + (4 * q + j) ≡ d → g c ≡ get_or bytes d 0
      nth g p j c d h ec ed = rw (ec, ed) at (p (4 * q + j) (omega arith))

      quad : (g : ℕ → ℕ) → Line bytes k (4 * (q + 1)) z g → Quad y a0 a1 a2 a3 g
      quad g p = (nth g p 0 y (k + 4 * q) (omega arith) (omega (arith, w.next)) (omega arith) ∙ is.0, nth g p 1 (y + 1) (k + 4 * q + 1) (omega arith) (omega (arith, w.next)) (omega arith) ∙ is.1, nth g p 2 (y + 2) (k + 4 * q + 2) (omega arith) (omega (arith, w.next)) (omega arith) ∙ is.2, nth g p 3 (y + 3) (k + 4 * q + 3) (omega arith) (omega (arith, w.next)) (omega arith) ∙ is.3)

  pub lining_done : (len : ℕ) → 4 * q ≡ len → Advances s t i b z (z + len) (Line bytes k len z) r
  lining_done len e = let ey : y ≡ z + len = omega (arith, w.next) in rw (e, ey) at w.built
