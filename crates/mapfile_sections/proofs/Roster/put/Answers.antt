-- The count stored first; then the entries of the accounts left are still to be stored.
use mathlib.Core.Path.{◌∙◌, refl, ap}
use mathlib.Core.List.{List, map}
use Prim.Native.Nat.{ℕ}
use native.Mathlib.Omega.{arith}
use borrow.Author.Rules.{rules}
use lib.ListN.{set, length-set}
use lib.Seq.{sets}
use Rattle.tile.specs.declared.Tile.{Tile}
use Rattle.tile.specs.Tile.{tile_of}
use Rattle.mapfile_roster.specs.Roster.{roster_of}
use Rattle.mapfile_roster.proofs.RosterLaws.{roster_of_few}
use Rattle.mapfile_sections.specs.Sections.{entries_bytes}
use Rattle.mapfile_sections.proofs.Passes.{entries_room, entries_on, entries_end}
use Rattle.mapfile_sections.proofs.Roster.put.Goals as goal

pub loop-account-init : goal.loop-account-init
loop-account-init c = (search rules, simp length-set (omega arith), refl)

pub loop-account-preserved : goal.loop-account-preserved
loop-account-preserved c =
    let l = c.loop-account in
    let ts : List Tile = map tile_of c.args.self.now.words.now in
    let entry = c.put_entry-place in (
      search rules,
      omega (arith, l.invariant.1, entry.ensures.next, entries_room ts l.account c.pixels-pixels.result (omega arith) c.pixels-pixels.ensures),
      entries_on ts l.account l.place l.section l.invariant.2 _ c.pixels-pixels.result entry.result (omega arith) c.pixels-pixels.ensures entry.ensures.next entry.ensures.stored,
    )

pub returns : goal.returns
returns c =
    let l = c.loop-account in
    let ts : List Tile = map tile_of c.args.self.now.words.now in
    entries_end ts l.account l.place l.section l.invariant.2 (omega arith) ∙ ap (λ (k : ℕ). sets (set c.args.section.now 0 k) 1 (entries_bytes (roster_of ts))) c.len.ensures

pub overflow_cast-section : goal.overflow_cast-section
overflow_cast-section c = omega (arith, c.len.ensures, roster_of_few (map tile_of c.args.self.now.words.now))

pub put_entry-place-requires : goal.put_entry-place-requires
put_entry-place-requires c =
    let l = c.loop-account in
    omega (arith, l.invariant.1, entries_room (map tile_of c.args.self.now.words.now) l.account c.pixels-pixels.result (omega arith) c.pixels-pixels.ensures)
