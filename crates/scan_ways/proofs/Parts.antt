-- A band put up to a column.
--     Part n p len x f g h   h has g's accounts on the places of a band west of the column x, and f's elsewhere
--     part_none, part_all    up to the first column, and up to the last
--     part_site              the next block can be put
--     part_more              and is put
use mathlib.Core.Path.{◌≡◌, refl, ap, ◌∙◌}
use Prim.Native.Nat.{ℕ, ◌+◌, ◌-◌, ◌^◌, ◌≤◌, ◌<◌}
use native.Mathlib.Decide.{dec_lt}
use native.Mathlib.Omega.{arith}
use lib.ListN.{length}
use Rattle.morton.specs.Morton.{column}
use Rattle.morton.proofs.MortonLaws.{column_lt}
use Rattle.quadtree.specs.Raster.{Aligned}
use Rattle.quadtree.specs.Quadtree.{quadtree}
use Rattle.quadtree.proofs.Alignment.{area_pos}
use Rattle.bed.specs.Places.{place_of}
use Rattle.bed.specs.declared.Kind.TheVariants.{Rows}
use Rattle.bed.proofs.PlaceLaws.{place_of_last}
use Rattle.scan_stretch.specs.Stretch.{Blank, Over}
use Rattle.scan_block.specs.Blocks.{mixed, Site}
use Rattle.scan_ways.specs.Bands.{first, many}
use Rattle.scan_block.proofs.Advance.{mixed_in, mixed_out}
use Rattle.scan_ways.proofs.Geometry.{Block, rows_of, places_from, places_upto, column_last_le}

pub record Part (n p len x : ℕ) (f g h : ℕ → ℕ) : Type 0 where
  pub inside : (z : ℕ) → z < 4 ^ n → p ≤ place_of Rows n z → place_of Rows n z < p + len → column n z < x → h z ≡ g (place_of Rows n z)
  pub east : (z : ℕ) → z < 4 ^ n → x ≤ column n z → h z ≡ f z
  pub ahead : (z : ℕ) → z < 4 ^ n → place_of Rows n z < p → h z ≡ f z
  pub behind : (z : ℕ) → z < 4 ^ n → p + len ≤ place_of Rows n z → h z ≡ f z

pub part_none : (n p len : ℕ) (f g : ℕ → ℕ) → Part n p len 0 f g f
part_none n p len f g = record { inside = λ z i l u w. absurd (omega arith); east = λ z i l. refl; ahead = λ z i l. refl; behind = λ z i l. refl }

pub part_all : (n p len x : ℕ) (f g h : ℕ → ℕ) → 2 ^ n ≤ x → Part n p len x f g h → Over Rows n p len f g h
part_all n p len x f g h e w = record { inside = λ z i l u. w.inside z i l u (omega (arith, column_lt n z)); ahead = w.ahead; behind = w.behind }

module _ (n k x r c : ℕ) (f g h : ℕ → ℕ) (b : Block n k x r c) (w : Part n (first n r) (many n k) x f g h) where
  abbrev onto : ℕ → ℕ
  onto z = g (place_of Rows n z)

  abbrev hi : ℕ
  hi = c + 4 ^ k

  abbrev p : ℕ
  p = first n r

  abbrev len : ℕ
  len = many n k

  -- the block's places lie in the band
  pub from : (z : ℕ) → c ≤ z → z < hi → p ≤ place_of Rows n z
  from z l u = places_from n r (2 ^ k) z (b.north z l u)

  upto : (z : ℕ) → c ≤ z → z < hi → place_of Rows n z < p + len
  upto z l u = places_upto n r (2 ^ k) z (b.south z l u)

  module _ (y : ℕ) (hy : y ≤ hi) where
    pub ahead_mixed : (z : ℕ) → z < 4 ^ n → place_of Rows n z < p → mixed h onto c y z ≡ f z
    ahead_mixed z i l = mixed_out h onto c y z (λ d. omega (arith, from z d.0 (omega (arith, d.1)))) ∙ w.ahead z i l

    pub behind_mixed : (z : ℕ) → z < 4 ^ n → p + len ≤ place_of Rows n z → mixed h onto c y z ≡ f z
    behind_mixed z i l = mixed_out h onto c y z (λ d. omega (arith, upto z d.0 (omega (arith, d.1)))) ∙ w.behind z i l

  pub part_site : (m : ℕ) → Blank Rows n p f → ((y : ℕ) → y ≤ hi → length (quadtree n (mixed h onto c y)) ≤ m) → Site m n h onto c hi
  part_site m blank room = record {
    inside = b.inside;
    last = λ z j d l u al a e i. last z j d l u al a e i;
    room = λ y l u. room y u;
  }
    where
      last : (z j d : ℕ) → c ≤ z → z < hi → Aligned j d → d ≤ z → z < d + 4 ^ j → d + 4 ^ j ≤ 4 ^ n → h (d + 4 ^ j - 1) ≡ 0
      last z j d l u al a e i =
          let y = d + 4 ^ j - 1 in
          let le : place_of Rows n z ≤ place_of Rows n y = elim (dec_lt (z + 1) (d + 4 ^ j)) [
            | yes v ↦ omega (arith, place_of_last Rows n z al a v i)
            | no v ↦ let q : z ≡ d + 4 ^ j - 1 = omega arith in omega (arith, ap (place_of Rows n) q)
          ] in
          w.east y (omega (arith, area_pos j)) (omega (arith, b.west z l u, column_last_le n j d z al a e i)) ∙ blank y (omega (arith, area_pos j)) (omega (arith, from z l u))

  pub part_more : Part n p len (x + 2 ^ k) f g (mixed h onto c hi)
  part_more = record {
    inside = λ z i l u v. elim (dec_lt (column n z) x) [
      | yes d ↦ mixed_out h onto c hi z (λ q. omega (arith, b.west z q.0 q.1)) ∙ w.inside z i l u d
      | no d ↦ let s = rows_of n r (2 ^ k) z l u in let q = b.has z i (omega arith) v s.0 s.1 in mixed_in h onto c hi z q.0 q.1
    ];
    east = λ z i l. mixed_out h onto c hi z (λ q. omega (arith, b.east z q.0 q.1)) ∙ w.east z i (omega arith);
    ahead = ahead_mixed hi (omega arith);
    behind = behind_mixed hi (omega arith);
  }
