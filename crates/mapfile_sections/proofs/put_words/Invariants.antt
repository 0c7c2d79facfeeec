-- The words left are still to be stored.
use mathlib.Core.Path.{◌≡◌}
use Prim.Native.Nat.{◌+◌, ◌*◌}
use lib.ListN.{length, drop}
use lib.Seq.{sets}
use Rattle.mapfile_sections.specs.Sections.{words_bytes}
use Rattle.mapfile_sections.proofs.put_words.Given as goal

abbrev pub invariant-loop-i : goal.invariant-loop-i
invariant-loop-i l = (length l.file ≡ length l.initial.file)
    × (sets l.initial.file 5 (words_bytes l.words) ≡ sets l.file (5 + 4 * l.i) (words_bytes (drop l.i l.words)))
