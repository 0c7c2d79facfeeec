-- The files that lists of calls write, by demand 3 and by what is promised of one map and one file.
--     file_left            what one list of calls leaves
--     demand_three_files   what two leave
use mathlib.Core.Path.{◌≡◌}
use mathlib.Core.List.{List, ◌∷◌}
use Prim.Native.Nat.{ℕ, ◌^◌, ◌<◌}
use native.Mathlib.Omega.{arith}
use lib.ListN.{length}
use Rattle.refusal.specs.Refusal.{accepted}
use Rattle.tile.specs.declared.Tile.{Tile}
use Rattle.quadtree.specs.Raster.{account_at}
use Rattle.quadtree.specs.Quadtree.{LinearQuadtree}
use Rattle.quadtree.proofs.ValidLaws.{quadtree_shown}
use Rattle.quadtree.proofs.Linear.{linear_unique}
use Rattle.bed.specs.Bed.{Bed}
use Rattle.bed.specs.Shown.{shown_bed}
use Rattle.scan_check.specs.Opening.{opening}
use Rattle.mapfile_same.specs.Same.{SameBed, Finished, BedFile}
use Rattle.mapfile_same.proofs.Promised.{one_file, same_then, files_same}
use Rattle.demands.specs.Calls.{Call, State, left, plain_left, Begins}
use Rattle.demands.specs.Demands.{Left, DemandThree, NoneUnscanned}
use Rattle.demands.proofs.Theorems.{demand_three, none_unscanned}
use Rattle.demands_files.specs.Files.{FileLeft, DemandThreeFiles}

-- the bed that a linear quadtree shows has the raster's accounts
linear_shown : {n : ℕ} {f : ℕ → ℕ} {ts : List Tile} → LinearQuadtree n f ts → (z : ℕ) → z < 4 ^ n → account_at ts z ≡ f z
linear_shown {n} {f} l z h = rw (linear_unique l) (quadtree_shown n f z h)

module _ {m : ℕ} {s : State} {b : Bed} (l : Left m s b) (o : opening s.scan s.slots ≡ accepted) where
  shown : SameBed (shown_bed s.scan s.slots) b
  shown = record { order = l.order; account = λ z h. linear_shown l.linear z (rw l.order at h) }

  finished_shown : Finished b → Finished (shown_bed s.scan s.slots)
  finished_shown w z h = rw (l.kind, l.order, l.scanned) (w z (rw l.order at h))

  shown_finished : Finished (shown_bed s.scan s.slots) → Finished b
  shown_finished w z h = rw (← l.kind, ← l.order, ← l.scanned) (w z (rw (← l.order) at h))

  -- a file of the bed that record and slots show is one of the plain bed
  shown_file : {file : List ℕ} → BedFile (shown_bed s.scan s.slots) file → BedFile b file
  shown_file f = record { scanned = shown_finished f.scanned; bytes = f.bytes; accepts = f.accepts; bed = same_then f.bed shown }

  file_left : FileLeft s b
  file_left = record {
    writes = λ w. let f = one_file.every s.scan s.slots o (finished_shown w) in (f.0, shown_file f.1, λ lent h. f.2 lent (omega arith));
    file = λ lent e. shown_file (one_file.file s.scan s.slots lent e);
  }

-- one list of calls, taken whole: demand 3 of it and of itself, and the opening checks that it leaves passed
list_left : (s : State) (b : Bed) (c : Call) (cs : List Call) → Begins (length s.slots) c → FileLeft (left s (c ∷ cs)) (plain_left (length s.slots) b (c ∷ cs))
unfolding DemandThree NoneUnscanned
list_left s b c cs h = file_left (demand_three s s b b c c cs cs h h).left₁ (none_unscanned s c cs h).1

pub demand_three_files : DemandThreeFiles
unfolding DemandThreeFiles
demand_three_files s₁ s₂ b₁ b₂ c₁ c₂ cs₁ cs₂ h₁ h₂ =
    let l₁ = list_left s₁ b₁ c₁ cs₁ h₁ in
    let l₂ = list_left s₂ b₂ c₂ cs₂ h₂ in
    record { left₁ = l₁; left₂ = l₂; same = λ lent₁ lent₂ e₁ e₂. let w = files_same _ _ (l₁.file lent₁ e₁) (l₂.file lent₂ e₂) in (λ q. w.0 q, λ p. w.1 p) }
