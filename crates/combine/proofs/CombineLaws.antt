-- What the call gives by any rule, by how its checks end.
--     maps_passed                               two maps that pass their checks
--     maps_start                                the cursors at the start of such maps
--     third_whole                               the third map by the words of the checked lists
--     maps_orders, maps_accepted                these checks, where both lists pass
--     combine_by_refused, -slots, -done          the call refused by them, refused by 25, and accepted
use mathlib.Core.Path.{◌≡◌, refl, sym, ◌∙◌}
use mathlib.Core.List.{List, ◌++◌, map}
use Prim.Native.Nat.{ℕ, ◌-◌, ◌^◌, ◌≤◌, ◌<◌}
use native.Mathlib.Omega.{arith}
use lib.ListN.{length, take, replicate}
use lib.Seq.{sets}
use Rattle.basics.proofs.Tests.{test_eqb, test_leb}
use Rattle.refusal.specs.Refusal.{accepted, orders_differ, slots_exceeded}
use Rattle.refusal.specs.Checks.{Gives}
use Rattle.refusal.proofs.CheckLaws.{must_on, must_off, must_inv, else_on, else_off, else_inv, unless_on, unless_off}
use Rattle.tile.specs.Tile.{word_of}
use Rattle.tile.specs.Slots.{tiles}
use Rattle.quadtree.specs.Valid.{Valid}
use Rattle.quadtree.proofs.Alignment.{area_pos}
use Rattle.list_check.specs.ListCheck.{list_check}
use Rattle.list_check.proofs.Accepts.{list_check_valid}
use Rattle.list_check.proofs.TreeLaws.{tiles_whole, tree_tiles}
use Rattle.list_cut.proofs.Passes.{filled_words}
use Rattle.combine_walk.specs.Walk.{Both}
use Rattle.combine_walk.proofs.Cursor.{stands_start}
use Rattle.combine.specs.Combine.{third_tiles, third_of, maps_check, combine_refusal, combine_by}
use Rattle.combine.specs.Maps.{Maps}

module _ (n t : ℕ) (s : List ℕ) (m u : ℕ) (w : List ℕ) where
  pub maps_passed : maps_check n t s m u w ≡ accepted → Maps n t s u w × (n ≡ m)
  unfolding maps_check
  maps_passed e =
      let p = else_inv (list_check n t s) _ e in
      let q = else_inv (list_check m u w) _ p.1 in
      let d : n ≡ m = (must_inv (test_eqb n m) (omega arith) q.1).0 in
      let v = (list_check_valid n t s).0 p.0 in
      let x = (list_check_valid m u w).0 q.0 in
      (record { few = v.0; within1 = v.1; valid1 = v.2; within2 = x.1; valid2 = rw d x.2 }, d)

  module _ (g : list_check n t s ≡ accepted) where
    module _ (k : list_check m u w ≡ accepted) where
      pub maps_orders : (n ≡ m → ⊥) → orders_differ ≡ maps_check n t s m u w
      unfolding maps_check
      maps_orders h = rw (else_on (list_check n t s) _ g, else_on (list_check m u w) _ k) (sym (must_off orders_differ accepted (test_eqb n m) h))

      pub maps_accepted : n ≡ m → accepted ≡ maps_check n t s m u w
      unfolding maps_check
      maps_accepted h = rw (else_on (list_check n t s) _ g, else_on (list_check m u w) _ k) (sym (must_on orders_differ accepted (test_eqb n m) h))

pub maps_start : {n : ℕ} {s w : List ℕ} (end : ℕ) → end ≡ 4 ^ n → Valid n (tiles s) → Valid n (tiles w) → (0 < end) × Both end (length s) s (length w) w 0 0 0
maps_start {n} {s} {w} end e p q = (
  omega (arith, area_pos n),
  record { first = stands_start end e (omega arith) (rw (tiles_whole s) p); second = stands_start end e (omega arith) (rw (tiles_whole w) q) },
)

-- by the words of the checked lists
pub third_whole : (rule : ℕ → ℕ → ℕ) (n t : ℕ) (s : List ℕ) (u : ℕ) (w : List ℕ) {o : ℕ} {x y : List ℕ} → o ≡ n → x ≡ take t s → y ≡ take u w → third_of rule o x y ≡ third_tiles rule n t s u w
third_whole rule n t s u w {x = x} {y} e p q = rw (e, tiles_whole x, tiles_whole y, tree_tiles t s p, tree_tiles u w q) refl

module _ (rule : ℕ → ℕ → ℕ) (n t : ℕ) (s : List ℕ) (m u : ℕ) (w out : List ℕ) where
  refused : (r : ℕ) → combine_refusal rule n t s m u w out ≡ r → (r ≡ accepted → ⊥) → Gives (record { number = r; tiles = 0 }) out (combine_by rule n t s m u w out)
  unfolding combine_by
  refused r e h = sym (rw e (unless_off r _ _ h))

  first_refusal : (r : ℕ) → r ≡ maps_check n t s m u w → (r ≡ accepted → ⊥) → combine_refusal rule n t s m u w out ≡ r
  unfolding combine_refusal
  first_refusal r e h = rw (← e) (else_off r _ h)

  pub combine_by_refused : (r : ℕ) → r ≡ maps_check n t s m u w → (r ≡ accepted → ⊥) → Gives (record { number = r; tiles = 0 }) out (combine_by rule n t s m u w out)
  combine_by_refused r e h = refused r (first_refusal r e h) h

  module _ (g : maps_check n t s m u w ≡ accepted) where
    slots_refusal : length out < length (third_tiles rule n t s u w) → combine_refusal rule n t s m u w out ≡ slots_exceeded
    unfolding combine_refusal
    slots_refusal h = else_on (maps_check n t s m u w) _ g ∙ must_off slots_exceeded accepted (test_leb (length (third_tiles rule n t s u w)) (length out)) (λ l. omega arith)

    pub combine_by_slots : length out < length (third_tiles rule n t s u w) → Gives (record { number = slots_exceeded; tiles = 0 }) out (combine_by rule n t s m u w out)
    combine_by_slots h = refused slots_exceeded (slots_refusal h) (λ e. omega arith)

    no_refusal : length (third_tiles rule n t s u w) ≤ length out → combine_refusal rule n t s m u w out ≡ accepted
    unfolding combine_refusal
    no_refusal h = else_on (maps_check n t s m u w) _ g ∙ must_on slots_exceeded accepted (test_leb (length (third_tiles rule n t s u w)) (length out)) h

    -- the words written, and the slots behind them cleared
    pub combine_by_done : (c : ℕ) {mid end : List ℕ} → c ≡ length (third_tiles rule n t s u w) → c ≤ length out →
        mid ≡ sets out 0 (map word_of (third_tiles rule n t s u w)) → end ≡ take c mid ++ replicate (length mid - c) 0 →
        Gives (record { number = accepted; tiles = c }) end (combine_by rule n t s m u w out)
    unfolding combine_by
    combine_by_done c e h x y = rw (filled_words (third_tiles rule n t s u w) out c e h x y, e, no_refusal (omega arith)) (sym (unless_on accepted _ _ refl))
