-- The offered call by how its checks end, and what is known past them.
--     Point                               what is known past the opening checks, 31 and 52
--     lookup_check_passed                  past the checks it holds
--     lookup_check_last                    past the opening checks and 31 only 52 is left
--     point_number                        the Morton number by all bits of a column and a row is that of the order
--     lookup_of_number, lookup_of_block     its number is that of the checks; past them it names the block
--     lookup_of_found                       the same, by the number of all bits of a column and a row
--     lookup_of_words                       by the words of the checked list
use mathlib.Core.Path.{◌≡◌, refl, sym, ◌∙◌}
use mathlib.Core.List.{List}
use Prim.Native.Nat.{ℕ, ◌^◌, ◌<◌}
use Rattle.refusal.specs.Refusal.{accepted}
use Rattle.refusal.proofs.CheckLaws.{else_on, else_inv, unless_on, unless_number}
use Rattle.morton.specs.Morton.{morton, side_bits}
use Rattle.morton.proofs.MortonLaws.{morton_lt, morton_wide}
use Rattle.tile.specs.declared.Tile.{Tile}
use lib.ListN.{take}
use Rattle.tile.specs.Slots.{tiles, tiles_in}
use Rattle.quadtree.specs.Raster.{account_at}
use Rattle.list_check.proofs.TreeLaws.{tree_tiles}
use Rattle.bed.specs.Bed.{bed_of}
use Rattle.checks.specs.Asked.{point_check}
use Rattle.bed.specs.declared.Scan.{Scan}
use Rattle.bed.specs.Places.{place_of}
use Rattle.bed.specs.Shown.{shown_bed}
use Rattle.checks.proofs.AskedLaws.{point_inside, point_passed}
use Rattle.scan_check.specs.Opening.{opening}
use Rattle.scan_check.specs.Opened.{Opened}
use Rattle.scan_check.specs.Scanned.{scanned_check}
use Rattle.scan_check.proofs.Opening.{opening_opened}
use Rattle.scan_check.proofs.ScannedLaws.{pixel_passed}
use Rattle.lookup.specs.declared.LookupAnswer.{LookupAnswer}
use Rattle.lookup.specs.Block.{block_at, Names}
use Rattle.lookup.specs.Lookup.{lookup_check, found_of, lookup_of}
use Rattle.lookup.proofs.BlockLaws.{block_at_names}

pub record Point (scan : Scan) (slots : List ℕ) (c r : ℕ) : Type 0 where
  pub opened : Opened scan slots
  pub column : c < 2 ^ scan.order
  pub row : r < 2 ^ scan.order
  pub scanned : place_of scan.kind scan.order (morton scan.order c r) < scan.pixels

module _ (scan : Scan) (slots : List ℕ) (c r : ℕ) where
  abbrev n : ℕ
  n = scan.order

  abbrev block : Tile
  block = block_at (shown_bed scan slots) (tiles_in scan.tiles slots) (morton n c r)

  pub lookup_check_passed : lookup_check scan slots c r ≡ accepted → Point scan slots c r
  unfolding lookup_check
  lookup_check_passed e =
      let a = else_inv _ _ e in
      let b = else_inv _ _ a.1 in
      let d = point_passed n c r b.0 in
      record { opened = opening_opened scan slots a.0; column = d.0; row = d.1; scanned = pixel_passed scan (morton n c r) b.1 }

  pub lookup_check_last : opening scan slots ≡ accepted → c < 2 ^ n → r < 2 ^ n → lookup_check scan slots c r ≡ scanned_check scan (morton n c r)
  unfolding lookup_check
  lookup_check_last e h l = else_on _ _ e ∙ else_on _ _ (sym (point_inside n c r (h, l)))

  pub point_number : Point scan slots c r → morton side_bits c r ≡ morton n c r
  point_number p = morton_wide n side_bits c r p.opened.order p.column p.row

  pub point_names : Point scan slots c r → Names (shown_bed scan slots) (morton n c r) block
  point_names p = block_at_names scan.kind n scan.pixels (tiles_in scan.tiles slots) p.opened.valid p.opened.blank (morton n c r) (morton_lt n c r) p.scanned

  pub lookup_of_number : (lookup_of scan slots c r).number ≡ lookup_check scan slots c r
  unfolding lookup_of
  lookup_of_number = unless_number (λ (a : LookupAnswer). a.number) (lookup_check scan slots c r) (λ x. refl) refl

  pub lookup_of_block : lookup_check scan slots c r ≡ accepted → lookup_of scan slots c r ≡ found_of block
  unfolding lookup_of
  lookup_of_block e = unless_on _ _ _ e

  -- the same, by the number of all bits of a column and a row
  pub lookup_of_found : (x z : ℕ) → x ≡ lookup_check scan slots c r → x ≡ accepted → z ≡ morton side_bits c r → found_of (block_at (shown_bed scan slots) (tiles_in scan.tiles slots) z) ≡ lookup_of scan slots c r
  lookup_of_found x z e h ez =
      let p = sym e ∙ h in
      rw (ez, point_number (lookup_check_passed p)) (sym (lookup_of_block p))

  -- by the words of the checked list
  pub lookup_of_words : {ws : List ℕ} {z : ℕ} {b : Tile} → opening scan slots ≡ accepted → point_check n c r ≡ accepted → z ≡ morton n c r → scanned_check scan z ≡ accepted → ws ≡ take scan.tiles slots →
      b ≡ block_at (bed_of scan.kind n scan.pixels (account_at (tiles ws))) (tiles ws) z → found_of b ≡ lookup_of scan slots c r
  unfolding lookup_check
  lookup_of_words o p e q w f =
      rw (f, e, ← tree_tiles scan.tiles slots w) (sym (lookup_of_block (else_on _ _ o ∙ else_on _ _ p ∙ (rw e at q))))
