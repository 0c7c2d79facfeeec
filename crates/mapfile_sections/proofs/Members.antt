-- The set of the accounts that have tiles, word by word, and what its members tell.
--     tiled_on, -end   what is in the set and what is left make the whole, by the words from i on
--     none_covered             an account that is not in the set covers nothing
--     accounts_count           somebody's accounts in the set are as many as the roster has entries
use mathlib.Core.Path.{◌≡◌, refl, ap, sym, ◌∙◌}
use mathlib.Core.Bool.{Bool, false, ◌||◌}
use mathlib.Core.List.{List, [], map}
use Prim.Native.Nat.{ℕ, zero, suc, ◌+◌, ◌≤◌, ◌<◌}
use native.Mathlib.Omega.{arith}
use native.Mathlib.Numerals.{add-one}
use lib.Dec.{ltb, eqb}
use lib.ListN.{length, drop, get_or, length-append}
use lib.Seq.{drop-cons, drop-length}
use borrow.Author.Tests.{ltb-false}
use Rattle.basics.specs.Choice.{if}
use Rattle.tile.specs.declared.Tile.{Tile}
use Rattle.tile.specs.Tile.{tile_of, highest_account}
use Rattle.mapfile_roster.specs.Roster.{covered, roster_from, roster_of}
use Rattle.mapfile_roster.specs.Accounts.{has, SetOf, count_from, count}
use Rattle.mapfile_roster.specs.declared.Accounts.{Accounts}
use Rattle.mapfile_roster.proofs.AccountsLaws.{Growing, growing_on, growing_end, covered_head}
use Rattle.mapfile_sections.specs.OneEntry.{entry_of}
use Rattle.mapfile_sections.proofs.Passes.{entry_of_count, roster_from_entry}

module _ (ws : List ℕ) (i : ℕ) {all : ℕ → Bool} {set : Accounts} (g : Growing all set (λ a. ltb 0 (covered a (map tile_of (drop i ws))))) where
  pub tiled_on : {more : Accounts} (x w : ℕ) → i < length ws → get_or ws i 0 ≡ w → x ≡ (tile_of w).account → SetOf (λ a. eqb x a || has set a) more → Growing all more (λ a. ltb 0 (covered a (map tile_of (drop (i + 1) ws))))
  tiled_on x w h ew ex s = growing_on g x (λ a. rw (drop-cons ws i 0 h, ew, ex, add-one i) (covered_head (tile_of w) (map tile_of (drop (suc i) ws)) a)) s

  pub tiled_end : i ≡ length ws → SetOf all set
  unfolding covered
  tiled_end h = let d : drop i ws ≡ [] = rw h (drop-length ws) in growing_end g (λ a. rw d)

module _ (ts : List Tile) {set : Accounts} (s : SetOf (λ a. ltb 0 (covered a ts)) set) where
  members : (a k : ℕ) → a + k ≤ suc highest_account → count_from set a k ≡ length (roster_from ts a k)
  unfolding roster_from count_from
  members a zero h = refl
  members a (suc k) h =
      let m : ◌≡◌ {A = ℕ} (if (has set a) 1 0) (if (ltb 0 (covered a ts)) 1 0) = rw (s.test a (omega arith)) in
      omega (arith, m, members (suc a) k (omega arith), ap length (roster_from_entry ts a k), length-append (entry_of a (covered a ts)) (roster_from ts (suc a) k), entry_of_count a (covered a ts))

  pub none_covered : (a : ℕ) {b : Bool} → a ≤ highest_account → b ≡ has set a → b ≡ false → 0 ≡ covered a ts
  none_covered a h e f = omega (arith, ltb-false 0 (covered a ts) (sym (s.test a h) ∙ sym e ∙ f))

  pub accounts_count : count set ≡ length (roster_of ts)
  accounts_count = members 1 highest_account (omega arith)
