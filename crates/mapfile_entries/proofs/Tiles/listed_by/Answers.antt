-- The sum, then the entries: of rising ones, that is the definition.
use mathlib.Core.Path.{◌≡◌, sym, ◌∙◌}
use mathlib.Core.Bool.{true, false}
use mathlib.Core.List.{map}
use lib.Dec.{eqb}
use borrow.Author.Tests.{eq-eqb, ne_eqb}
use Rattle.mapfile_roster.specs.Roster.{entry_in}
use Rattle.mapfile_entries.specs.Pixels.{file_tiles, area_of, pixels_in}
use Rattle.mapfile_entries.proofs.Summed.{good_summed}
use Rattle.mapfile_entries.proofs.EntriesInTurn.{rises_by, sum_pixels, all_right}
use Rattle.mapfile_entries.proofs.Tiles.listed_by.Goals as goal

pub returns-then-pixels_in-self : goal.returns-then-pixels_in-self
returns-then-pixels_in-self c =
    let tiles = c.args.self.now in
    let bs = c.args.entries.now in
    let ts = file_tiles tiles.words.now in
    let good = good_summed ts (map entry_in bs) (rises_by 0 (map entry_in bs) c.requires.rise) in
    let same : eqb (pixels_in (map entry_in bs)) (area_of ts) ≡ true = eq-eqb _ _ (sym (sum_pixels bs) ∙ sym c.pixels_in.ensures ∙ c.if-pixels_in-self.true ∙ tiles.sums) in
    all_right ts bs _ c.all_right.ensures ∙ sym (good ∙ rw same)

pub returns-else-pixels_in-self : goal.returns-else-pixels_in-self
returns-else-pixels_in-self c =
    let tiles = c.args.self.now in
    let bs = c.args.entries.now in
    let ts = file_tiles tiles.words.now in
    let good = good_summed ts (map entry_in bs) (rises_by 0 (map entry_in bs) c.requires.rise) in
    let apart : eqb (pixels_in (map entry_in bs)) (area_of ts) ≡ false = ne_eqb _ _ (λ e. c.if-pixels_in-self.false (c.pixels_in.ensures ∙ sum_pixels bs ∙ e ∙ sym tiles.sums)) in
    ne_eqb _ _ c.if-pixels_in-self.false ∙ sym (good ∙ rw apart)
