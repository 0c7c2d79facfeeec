-- The four changes of a claim, each with the list that it makes.
--     kept_changes       a tile of the account covers the block: nothing changes
--     split_changes      a tile of another account covers it: that tile is split
--     cleared_changes    no larger tile covers it, and it is released: the tiles in it go
--     claimed_stands     no larger tile covers it, and it is claimed: a tile of its size stands in their place
--     merges_changes     that tile, merged with its siblings
use mathlib.Core.Path.{◌≡◌, ◌∙◌, ap, sym}
use mathlib.Core.List.{List, [], ◌∷◌, ◌++◌}
use Prim.Native.Nat.{ℕ, suc, ◌+◌, ◌-◌, ◌^◌, ◌≤◌, ◌<◌}
use native.Mathlib.Omega.{arith}
use native.Mathlib.Decide.{dec_lt, dec_le}
use native.Mathlib.Numerals.{add-one}
use lib.ListN.{length, take, drop, take-append-drop}
use lib.Seq.{drop-drop}
use Rattle.tile.specs.declared.Tile.{Tile}
use Rattle.tile.specs.Tile.{stop, highest_account}
use Rattle.quadtree.specs.Raster.{Uniform, account_at}
use Rattle.quadtree.specs.Quadtree.{blocks, quadtree}
use Rattle.quadtree.proofs.Alignment.{aligned_down, aligned_next, aligned_gap, aligned_room, area_pos, size_le}
use Rattle.quadtree.proofs.Tiling.{Tiling, tiling_le, tiling_cong}
use Rattle.quadtree.proofs.Shown.{paint_in, paint_out}
use Rattle.quadtree.proofs.Blocks.{blocks_uniform}
use Rattle.quadtree.proofs.Siblings.{NoFour, no_four_left, no_four_right}
use Rattle.quadtree.proofs.ValidLaws.{valid_quadtree, valid_no_four, quadtree_cong}
use Rattle.quadtree.proofs.Merge.{between_quadtree}
use Rattle.claim_split.proofs.Index.{At}
use Rattle.claim_split.proofs.Splice.{Alone, quadtree_splice}
use Rattle.claim_split.specs.Split.{Split}
use Rattle.claim_split.proofs.Split.{split_alone, split_self, single_some}
use Rattle.bed.specs.Bed.{claimed}
use Rattle.claim_merge.specs.Standing.{Stands, Merges}
use Rattle.claim_plan.specs.Plan.{Claimable, Changes}

module _ {n : ℕ} {ts : List Tile} {c k a : ℕ} (q : Claimable n ts c k a) where
  abbrev g : ℕ → ℕ
  g = claimed (account_at ts) c k a

  pub claimable_room : c + 4 ^ k ≤ 4 ^ n
  claimable_room = aligned_room q.size q.aligned q.inside

  inside : Uniform g a c (c + 4 ^ k)
  inside z l h = paint_in (account_at ts) c (c + 4 ^ k) a z l h

  elsewhere : (z : ℕ) → ((c ≤ z) × (z < c + 4 ^ k) → ⊥) → g z ≡ account_at ts z
  elsewhere z i = paint_out (account_at ts) c (c + 4 ^ k) a z i

  -- a tile t, at lo, covers the block
  module _ {lo : ℕ} {t : Tile} (w : At (account_at ts) (4 ^ n) ts lo t) (larger : k < t.size) (from : t.corner ≤ c) (upto : c < stop t) where
    room : stop t ≤ 4 ^ n
    room = tiling_le w.rest

    within : c + 4 ^ k ≤ stop t
    within = aligned_gap q.aligned (aligned_down (omega arith) (aligned_next w.on.aligned)) upto

    same : t.account ≡ a → (z : ℕ) → g z ≡ account_at ts z
    same e z = elim (dec_le c z) [
      | yes l ↦ elim (dec_lt z (c + 4 ^ k)) [ yes h ↦ inside z l h ∙ sym (w.on.uniform z (omega arith) (omega (arith, within)) ∙ e) | no h ↦ elsewhere z (λ i. h i.1) ]
      | no l ↦ elsewhere z (λ i. l i.0)
    ]

    kept : t.account ≡ a → take lo ts ++ (blocks g t.size t.corner ++ drop (suc lo) ts) ≡ quadtree n g
    kept e = rw (blocks_uniform g t.account t.size t.corner (λ z l h. same e z ∙ w.on.uniform z l h), single_some t.corner t.size t.account w.on.owned, w.whole) (valid_quadtree q.valid ∙ quadtree_cong n (account_at ts) g (λ z h. sym (same e z)))

    parted : (t.account ≡ a → ⊥) → Split g k c a t.account t.size t.corner
    parted ne = record {
      aligned = q.aligned;
      outer = w.on.aligned;
      sizes = omega arith;
      from = from;
      upto = within;
      inside = inside;
      outside = λ z l h i. elsewhere z i ∙ w.on.uniform z l h;
      differ = λ l e. ne (sym e);
      owned = λ l. w.on.owned;
    }

    pub kept_changes : lo < length ts → t.account ≤ highest_account → t.account ≡ a → Changes n ts c k a (record { lo = lo; hi = lo + 1; whole = record { corner = t.corner; size = t.size }; block = record { corner = t.corner; size = t.size }; owner = t.account })
    kept_changes l small e = record {
      order = omega arith;
      within = omega arith;
      split = split_self g t.size t.corner a t.account w.on.aligned (λ z zl zh. same e z ∙ w.on.uniform z zl zh ∙ e);
      fits = size_le t.size n (omega (arith, room));
      room = room;
      owner = small;
      result = rw (add-one lo) (kept e);
    }

    pub split_changes : lo < length ts → t.account ≤ highest_account → (t.account ≡ a → ⊥) → Changes n ts c k a (record { lo = lo; hi = lo + 1; whole = record { corner = t.corner; size = t.size }; block = record { corner = c; size = k }; owner = t.account })
    split_changes l small ne = record {
      order = omega arith;
      within = omega arith;
      split = parted ne;
      fits = size_le t.size n (omega (arith, room));
      room = room;
      owner = small;
      result = rw (add-one lo) (quadtree_splice n (account_at ts) g t.size t.corner w.on.aligned (λ z i. elsewhere z (λ x. i (omega (arith, x.0), omega (arith, x.1, within)))) (split_alone n (parted ne) larger)
          (take lo ts) (t ∷ []) (drop (suc lo) ts) (size_le t.size n (omega (arith, room))) (w.whole ∙ valid_quadtree q.valid) w.ahead w.rest);
    }

  -- no larger tile covers it: those from lo up to hi lie in it
  module _ (lo hi : ℕ) (order : lo ≤ hi) (upto : hi ≤ length ts) (ahead : Tiling (account_at ts) c 0 (take lo ts)) (rest : Tiling (account_at ts) (4 ^ n) (c + 4 ^ k) (drop hi ts)) where
    whole : take lo ts ++ (take (hi - lo) (drop lo ts) ++ drop hi ts) ≡ ts
    whole = let e : lo + (hi - lo) ≡ hi = omega arith in rw (ap (λ (x : ℕ). drop x ts) (sym e), ← drop-drop (hi - lo) lo ts, take-append-drop, take-append-drop)

    pub cleared_changes : a ≡ 0 → Changes n ts c k a (record { lo = lo; hi = hi; whole = record { corner = c; size = k }; block = record { corner = c; size = k }; owner = 0 })
    cleared_changes e = record {
      order = order;
      within = upto;
      split = split_self g k c a 0 q.aligned inside;
      fits = q.size;
      room = claimable_room;
      owner = omega arith;
      result = quadtree_splice n (account_at ts) g k c q.aligned elsewhere alone (take lo ts) (take (hi - lo) (drop lo ts)) (drop hi ts) q.size (whole ∙ valid_quadtree q.valid) ahead rest;
    }
      where
        alone : Alone g n k c
        alone j x v lt le m l r o u = omega (arith, u c l (omega (arith, area_pos k)), inside c (omega arith) (omega (arith, area_pos k)))

    pub claimed_stands : 0 < a → Stands g n ts a lo hi c k
    claimed_stands o = record {
      order = order;
      within = upto;
      between = record {
        ahead = tiling_cong ahead (λ z l h. elsewhere z (λ i. omega (arith, i.0)));
        rest = tiling_cong rest (λ z l h. elsewhere z (λ i. omega (arith, i.1)));
        on = record { aligned = q.aligned; owned = o; uniform = inside };
      };
    }

  no_four : (j : ℕ) → NoFour (take j ts ++ drop j ts)
  no_four j = rw take-append-drop (valid_no_four q.valid)

  pub merges_changes : {lo hi d s : ℕ} → Merges g n ts a lo hi d s → Changes n ts c k a (record { lo = lo; hi = hi; whole = record { corner = d; size = s }; block = record { corner = d; size = s }; owner = 0 })
  merges_changes {lo} {hi} {d} {s} m =
      let h = m.stands.between in
      let r : d + 4 ^ s ≤ 4 ^ n = tiling_le h.rest in
      record {
        order = m.stands.order;
        within = m.stands.within;
        split = split_self g s d a 0 h.on.aligned h.on.uniform;
        fits = size_le s n (omega arith);
        room = r;
        owner = omega arith;
        result = rw (blocks_uniform g a s d h.on.uniform, single_some d s a h.on.owned) (between_quadtree h (no_four_left (take lo ts) (drop lo ts) (no_four lo)) (no_four_right (take hi ts) (drop hi ts) (no_four hi)) m.apart);
      }
