-- A tile after its merging, as a word of the front part.
--     pushed_full    there is no slot for it
--     pushed_store   it is stored
use mathlib.Core.Path.{◌≡◌, ◌∙◌, refl, ap, sym}
use mathlib.Core.Bool.{true, false}
use mathlib.Core.List.{List, [], ◌∷◌, map-append}
use Prim.Native.Nat.{ℕ, ◌+◌, ◌-◌, ◌≤◌, ◌<◌}
use native.Mathlib.Numerals.{add-one}
use native.Mathlib.Omega.{arith}
use lib.ListN.{length, take, set}
use lib.Seq.{take-suc-set, drop-set-lt, get_or-set_same}
use borrow.Author.Tests.{lt-ltb, le-ltb}
use Rattle.tile.specs.declared.Tile.{Tile}
use Rattle.tile.specs.Tile.{tile_of, word_of, highest_account}
use Rattle.tile.proofs.TileLaws.{tile_word}
use Rattle.quadtree.proofs.Alignment.{area_pos}
use Rattle.list_push.specs.Merging.{up_to, MergedInto}
use Rattle.list_push.specs.declared.Top.{Top}
use Rattle.list_push.proofs.SiblingWords.{true_false}
use Rattle.scan_gap.specs.Gap.{Pushed}

module _ {s : List ℕ} {i : ℕ} {x : Tile} {m : Top} (merged : MergedInto s i x m) (b : ℕ) (h : i ≤ b) (g : b ≤ length s) where
  pub pushed_full : m.at ≡ b → Pushed s s i b x (record { full = true; front = i; back = b })
  pushed_full e = record {
    top = m;
    merged = merged;
    fits = h;
    there = refl;
    back = refl;
    full = sym (lt-ltb b (m.at + 1) (omega arith));
    done = λ r. absurd (true_false r);
    kept = λ r. refl;
    low = λ l h. omega (arith, l h);
  }

  pub pushed_store : (m.at ≡ b → ⊥) → x.account ≤ highest_account → (w : ℕ) → w ≡ word_of (up_to x m.size) → Pushed s (set s m.at w) i b x (record { full = false; front = m.at + 1; back = b })
  pushed_store e l w q =
      let back = merged.at in
      let inside : m.at < length s = omega arith in
      let t : tile_of w ≡ up_to x m.size = ap tile_of q ∙ tile_word (up_to x m.size) (omega (arith, merged.few)) l in
      record {
        top = m;
        merged = merged;
        fits = omega arith;
        there = refl;
        back = drop-set-lt b s m.at w (omega arith);
        full = sym (le-ltb b (m.at + 1) (omega arith));
        done = λ r. rw (add-one m.at, take-suc-set s m.at w (omega arith), map-append tile_of (take m.at s) (w ∷ []), t);
        kept = λ r. absurd (true_false (sym r));
        low = λ _ h. let e : m.at + 1 - 1 ≡ m.at = omega arith in rw (e, get_or-set_same s m.at w 0 inside, t) (omega (arith, area_pos m.size));
      }
