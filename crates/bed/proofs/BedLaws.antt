-- Laws of the plain bed. It goes by the accounts of its own pixels: rasters that agree on them give the same answers.
--     test_block_in       the test of a block
--     Agree n f g        f and g have the same accounts on the pixels of order n
--     Good m n s f       what holds of a bed that a list in m slots shows: the order and s are in range, accounts too, and the blocks fit
--     put k n s a f      the raster f with the account a on the place behind the first s
--     pixel_check_passed  what an account that is not refused passed
--     FedAlike           two feeds answer alike, and leave beds that agree and are good
--     feed_pixels_alike   feeds of beds that agree
--     claim_check_agree   claims on beds whose rasters agree are refused alike
--     claim_passed       what a claim that is not refused passed
--     Room m b           the linear quadtree of the bed b fits m slots
--     feed_pixels_room    a feed leaves a bed that fits the slots, if it was given one
use mathlib.Core.Path.{◌≡◌, refl, sym, ◌∙◌}
use mathlib.Core.Bool.{not}
use mathlib.Core.List.{List, [], ◌∷◌}
use Prim.Native.Nat.{ℕ, suc, ◌+◌, ◌^◌, ◌≤◌, ◌<◌}
use native.Mathlib.Decide.{dec_lt, dec_le}
use native.Mathlib.Omega.{arith}
use lib.ListN.{length}
use Rattle.basics.proofs.Tests.{Test, test, test_leb, test_eqb, test_and, test_not}
use Rattle.refusal.proofs.CheckLaws.{must_inv, by_unless, unless_alike}
use Rattle.refusal.specs.Refusal.{accepted, tile_unscanned}
use Rattle.tile.specs.Tile.{highest_order, highest_account}
use Rattle.quadtree.specs.Raster.{Aligned, paint}
use Rattle.quadtree.specs.Quadtree.{quadtree}
use Rattle.quadtree.proofs.Alignment.{test_aligned}
use Rattle.quadtree.proofs.Shown.{paint_in, paint_out}
use Rattle.quadtree.proofs.ValidLaws.{quadtree_cong}
use Rattle.bed.specs.declared.Kind.{Kind}
use Rattle.bed.specs.Places.{place_of, pixel_at}
use Rattle.bed.specs.Bed.{Bed, bed_of, BedFed, stopped, has_unscanned, put_pixel, pixel_check, feed_pixels, block_in, claimed, claim_check, claim_bed_check}
use Rattle.bed.proofs.ScannedBlocks.{test_scanned}

pub test_block_in : (n c k : ℕ) → Test ((k ≤ n) × ((c < 4 ^ n) × Aligned k c)) (block_in n c k)
unfolding block_in
test_block_in n c k = test_and (test_leb k n) (test_and (test_leb (suc c) (4 ^ n)) (test_aligned k c))

abbrev pub Agree : ℕ → (ℕ → ℕ) → (ℕ → ℕ) → Type 0
Agree n f g = (z : ℕ) → z < 4 ^ n → f z ≡ g z

pub paint_agree : (n : ℕ) {f g : ℕ → ℕ} (lo hi a : ℕ) → Agree n f g → Agree n (paint f lo hi a) (paint g lo hi a)
paint_agree n {f} {g} lo hi a e z h = elim (dec_le lo z) [
  | yes l ↦ elim (dec_lt z hi) [
    | yes u ↦ paint_in f lo hi a z l u ∙ sym (paint_in g lo hi a z l u)
    | no u ↦ out (λ i. u i.1)
  ]
  | no l ↦ out (λ i. l i.0)
]
  where
    out : ((lo ≤ z) × (z < hi) → ⊥) → paint f lo hi a z ≡ paint g lo hi a z
    out i = paint_out f lo hi a z i ∙ e z h ∙ sym (paint_out g lo hi a z i)

-- accounts are in range
abbrev pub Accounts : ℕ → (ℕ → ℕ) → Type 0
Accounts n f = (z : ℕ) → z < 4 ^ n → f z ≤ highest_account

pub paint_accounts : (n : ℕ) {f : ℕ → ℕ} (lo hi a : ℕ) → a ≤ highest_account → Accounts n f → Accounts n (paint f lo hi a)
paint_accounts n {f} lo hi a l b z h = elim (dec_le lo z) [
  | yes p ↦ elim (dec_lt z hi) [ yes q ↦ omega (arith, paint_in f lo hi a z p q) | no q ↦ omega (arith, paint_out f lo hi a z (λ i. q i.1), b z h) ]
  | no p ↦ omega (arith, paint_out f lo hi a z (λ i. p i.0), b z h)
]

pub record Good (m n s : ℕ) (f : ℕ → ℕ) : Type 0 where
  pub order : n ≤ highest_order
  pub scanned : s ≤ 4 ^ n
  pub accounts : Accounts n f
  pub room : length (quadtree n f) ≤ m

pub record FedAlike (m : ℕ) (k : Kind) (n : ℕ) (p q : BedFed) : Type 0 where
  pub number : p.number ≡ q.number
  pub taken : p.taken ≡ q.taken
  pub scanned : ℕ
  pub first : ℕ → ℕ
  pub second : ℕ → ℕ
  pub first_bed : p.bed ≡ bed_of k n scanned first
  pub second_bed : q.bed ≡ bed_of k n scanned second
  pub agree : Agree n first second
  pub good : Good m n scanned second

pub record Passed (m : ℕ) (b : Bed) (a : ℕ) : Type 0 where
  pub going : b.scanned ≡ 4 ^ b.order → ⊥
  pub low : a ≤ highest_account
  pub room : length (quadtree b.order (put_pixel b a).account) ≤ m

pub pixel_check_passed : {m : ℕ} {b : Bed} {a : ℕ} → pixel_check m b a ≡ accepted → Passed m b a
unfolding pixel_check
pixel_check_passed {m} {b} {a} e =
    let p = must_inv (test_not (test_eqb b.scanned (4 ^ b.order))) (omega arith) e in
    let q = must_inv (test_leb a highest_account) (omega arith) p.1 in
    record { going = p.0; low = q.0; room = (must_inv (test_leb (length (quadtree b.order (put_pixel b a).account)) m) (omega arith) q.1).0 }

-- the raster f with the account a on the place behind the first s
abbrev pub put : Kind → ℕ → ℕ → ℕ → (ℕ → ℕ) → ℕ → ℕ
put k n s a f = paint f (pixel_at k n s) (pixel_at k n s + 1) a

module _ (m : ℕ) (k : Kind) (n : ℕ) where
  stopped_alike : (r j s : ℕ) (f g : ℕ → ℕ) → Agree n f g → Good m n s g → FedAlike m k n (stopped r j (bed_of k n s f)) (stopped r j (bed_of k n s g))
  stopped_alike r j s f g e w = record { number = refl; taken = refl; scanned = s; first = f; second = g; first_bed = refl; second_bed = refl; agree = e; good = w }

  put_agree : (s a : ℕ) (f g : ℕ → ℕ) → Agree n f g → Agree n (put k n s a f) (put k n s a g)
  put_agree s a f g e = paint_agree n (pixel_at k n s) (pixel_at k n s + 1) a e

  pub put_good : (s a : ℕ) (g : ℕ → ℕ) → Good m n s g → Passed m (bed_of k n s g) a → Good m n (s + 1) (put k n s a g)
  unfolding put_pixel
  put_good s a g w p = record { order = w.order; scanned = omega (arith, w.scanned, p.going); accounts = paint_accounts n (pixel_at k n s) (pixel_at k n s + 1) a p.low w.accounts; room = p.room }

  pixel_check_agree : (s a : ℕ) (f g : ℕ → ℕ) → Agree n f g → pixel_check m (bed_of k n s f) a ≡ pixel_check m (bed_of k n s g) a
  unfolding pixel_check put_pixel
  pixel_check_agree s a f g e = rw (quadtree_cong n (put k n s a f) (put k n s a g) (put_agree s a f g e))

  pixel_alike : (j s a : ℕ) (f g : ℕ → ℕ) (bytes : List ℕ) → Agree n f g → Good m n s g →
      (Good m n (s + 1) (put k n s a g) → FedAlike m k n (feed_pixels m (j + 1) (bed_of k n (s + 1) (put k n s a f)) bytes) (feed_pixels m (j + 1) (bed_of k n (s + 1) (put k n s a g)) bytes)) →
      FedAlike m k n (feed_pixels m j (bed_of k n s f) (a ∷ bytes)) (feed_pixels m j (bed_of k n s g) (a ∷ bytes))
  unfolding feed_pixels put_pixel
  pixel_alike j s a f g bytes e w rest =
      rw (pixel_check_agree s a f g e) (unless_alike (FedAlike m k n) (pixel_check m (bed_of k n s g) a) (λ r. stopped_alike r j s f g e w) (λ p. rest (put_good s a g w (pixel_check_passed p))))

  pub feed_pixels_alike : (j s : ℕ) (f g : ℕ → ℕ) (bytes : List ℕ) → Agree n f g → Good m n s g →
      FedAlike m k n (feed_pixels m j (bed_of k n s f) bytes) (feed_pixels m j (bed_of k n s g) bytes)
  unfolding feed_pixels
  feed_pixels_alike j s f g [] e w = stopped_alike accepted j s f g e w
  feed_pixels_alike j s f g (a ∷ bytes) e w = pixel_alike j s a f g bytes e w (λ v. feed_pixels_alike (j + 1) (s + 1) (put k n s a f) (put k n s a g) bytes (put_agree s a f g e) v)

pub claim_check_agree : (m : ℕ) (kind : Kind) (n s : ℕ) (f g : ℕ → ℕ) (c k a : ℕ) → Agree n f g → claim_check m (bed_of kind n s f) c k a ≡ claim_check m (bed_of kind n s g) c k a
unfolding claim_check
claim_check_agree m kind n s f g c k a e = rw (quadtree_cong n (claimed f c k a) (claimed g c k a) (paint_agree n c (c + 4 ^ k) a e))

-- what a claim that is not refused passed
pub record Claims (m : ℕ) (b : Bed) (c k a : ℕ) : Type 0 where
  pub inside : (k ≤ b.order) × ((c < 4 ^ b.order) × Aligned k c)
  pub scanned : (z : ℕ) → c ≤ z → z < c + 4 ^ k → place_of b.kind b.order z < b.scanned
  pub low : a ≤ highest_account
  pub room : length (quadtree b.order (claimed b.account c k a)) ≤ m

pub claim_passed : (m : ℕ) (b : Bed) (c k a : ℕ) → claim_bed_check m b c k a ≡ accepted → Claims m b c k a
unfolding claim_bed_check claim_check
claim_passed m b c k a e =
    let n = must_inv {r = tile_unscanned} (test (not (has_unscanned b)) (λ t. t) (λ t. t)) (omega arith) e in
    let p = must_inv (test_block_in b.order c k) (omega arith) n.1 in
    let s = must_inv (test_scanned b.kind b.order b.scanned c k) (omega arith) p.1 in
    let q = must_inv (test_leb a highest_account) (omega arith) s.1 in
    let r = must_inv (test_leb (length (quadtree b.order (claimed b.account c k a))) m) (omega arith) q.1 in
    record { inside = p.0; scanned = s.0; low = q.0; room = r.0 }

abbrev pub Room : ℕ → Bed → Type 0
Room m b = length (quadtree b.order b.account) ≤ m

pub feed_pixels_room : (m k : ℕ) (b : Bed) (bytes : List ℕ) → Room m b → Room m (feed_pixels m k b bytes).bed
unfolding feed_pixels put_pixel
feed_pixels_room m k b [] h = h
feed_pixels_room m k b (a ∷ bytes) h =
    by_unless (λ (r : BedFed). Room m r.bed) (pixel_check m b a) (λ r. h) (λ e. feed_pixels_room m (k + 1) (put_pixel b a) bytes (pixel_check_passed e).room)
