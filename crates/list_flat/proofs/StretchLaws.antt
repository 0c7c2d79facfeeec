-- The words of a stretch, and the stretches, turn by turn.
--     Stretch from slots bad all i   unless a fault was found, the words from `from` up to i are clear, and none starts
--                                    past where `all` does
--     stretch_start                  no word is looked at yet
--     stretch_on                     one word more
--     stretch_clear                  no fault, and `all` starts on the bed: then all of them do
--     Looked n from i                the words from `from` up to i are clear and start on the bed; looked-start, looked-on
use mathlib.Core.Path.{◌≡◌}
use mathlib.Core.Bool.{Bool, false, ◌||◌}
use mathlib.Core.List.{List}
use Prim.Native.Nat.{ℕ, ◌+◌, ◌^◌, ◌≤◌, ◌<◌}
use native.Mathlib.Decide.{dec_lt}
use native.Mathlib.Omega.{arith}
use lib.Bits.{bit_or}
use lib.ListN.{get_or}
use Rattle.basics.proofs.Tests.{neither}
use Rattle.tile.specs.Tile.{tile_of}
use Rattle.tile.proofs.WordBits.{corner_or_left, corner_or_right}
use Rattle.list_flat.specs.Clear.{Clear, ClearAt}

module _ (slots : List ℕ) where
  abbrev ClearFrom : ℕ → Type 0
  ClearFrom j = Clear (tile_of (get_or slots j 0)) (tile_of (get_or slots (j + 1) 0)) (tile_of (get_or slots (j + 2) 0)) (tile_of (get_or slots (j + 3) 0))

  pub record Stretch (from : ℕ) (bad : Bool) (all i : ℕ) : Type 0 where
    pub clear : bad ≡ false → (j : ℕ) → from ≤ j → j < i → ClearFrom j
    pub joined : (j : ℕ) → from ≤ j → j < i → (tile_of (get_or slots j 0)).corner ≤ (tile_of all).corner

  pub stretch_start : (from : ℕ) (bad : Bool) (all : ℕ) → Stretch from bad all from
  stretch_start from bad all = record { clear = λ e j h l. absurd (omega arith); joined = λ j h l. absurd (omega arith) }

  module _ {from : ℕ} {bad : Bool} {all i : ℕ} (s : Stretch from bad all i) where
    pub stretch_on : (f : Bool) → (f ≡ false → ClearFrom i) → Stretch from (bad || f) (bit_or all (get_or slots i 0)) (i + 1)
    stretch_on f g = record {
      clear = λ e j h l.
          let n = neither bad f e in
          elim (dec_lt j i) [ yes p ↦ s.clear n.0 j h p | no p ↦ let q : j ≡ i = omega arith in rw q (g n.1) ];
      joined = λ j h l. elim (dec_lt j i) [
        | yes p ↦ omega (arith, s.joined j h p, corner_or_left all (get_or slots i 0))
        | no p ↦ let q : j ≡ i = omega arith in rw q (corner_or_right all (get_or slots i 0))
      ];
    }

    pub stretch_clear : (n : ℕ) → bad ≡ false → (tile_of all).corner < 4 ^ n → (j : ℕ) → from ≤ j → j < i → ClearAt n slots j
    stretch_clear n e l j h g = record { inside = omega (arith, s.joined j h g); clear = s.clear e j h g }

  pub record Looked (n from i : ℕ) : Type 0 where
    pub clear : (j : ℕ) → from ≤ j → j < i → ClearAt n slots j

  pub looked_start : (n from : ℕ) → Looked n from from
  looked_start n from = record { clear = λ j h l. absurd (omega arith) }

  pub looked_on : {n from i next : ℕ} → Looked n from i → ((j : ℕ) → i ≤ j → j < next → ClearAt n slots j) → Looked n from next
  looked_on {i = i} f g = record { clear = λ j h l. elim (dec_lt j i) [ yes p ↦ f.clear j h p | no p ↦ g j (omega arith) l ] }
