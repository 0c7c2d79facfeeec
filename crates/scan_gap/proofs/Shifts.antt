-- The gap moved to a pixel: words that change sides in one piece, as equations between lists.
--     stayed      the gap lies there
--     retreated   the end of the front part goes to the back part
--     advanced    the start of the back part goes to the front part
use mathlib.Core.Path.{◌≡◌, ◌∙◌, refl, ap, sym}
use mathlib.Core.List.{List, ◌++◌, append_assoc}
use Prim.Native.Nat.{ℕ, ◌+◌, ◌-◌, ◌≤◌, ◌<◌}
use native.Mathlib.Decide.{dec_lt}
use native.Mathlib.Nat.{add-zero}
use native.Mathlib.Omega.{arith}
use lib.ListN.{length, take, drop, get_or, length-append}
use lib.Seq.{slice, slice-cons, length-slice, length-take-le, take-take, take-append-le, take_at, drop_at, drop-drop, get_or-take, get_or-drop, get_or-append-add}
use Rattle.tile.specs.Tile.{tile_of}
use Rattle.list_words.proofs.Moves.{front_pieces, back_pieces}
use Rattle.list_search.specs.Cut.{Cut}
use Rattle.scan_gap.specs.Gap.{Fits, Low, High, Moved}

pub stayed : (s : List ℕ) (i b z : ℕ) → Fits s i b → Low s i z → High s b z → Moved s s i b z (record { front = i; back = b })
stayed s i b z fit low high = record { fits = fit; held = refl; low = low; high = high }

head_drop : (s : List ℕ) (j : ℕ) → get_or (drop j s) 0 0 ≡ get_or s j 0
head_drop s j = get_or-drop j s 0 0 ∙ rw (add-zero j)

module _ (s t : List ℕ) (i b z : ℕ) (fit : Fits s i b) where
  pub retreated : (at k : ℕ) → k ≡ b - i → 0 < i → z ≤ (tile_of (get_or s (i - 1) 0)).corner → Cut s 0 (i - 1) z at → length t ≡ length s →
      t ≡ take (at + k) s ++ slice at i s ++ drop (i + k) s → Moved s t i b z (record { front = at; back = at + k })
  retreated at k ek pos last w l e = record {
    fits = (omega arith, omega (arith, w.to, fit));
    held = rw (front, rest) (sym (append_assoc (take at s) (slice at i s) (drop b s)) ∙ ap (λ (x : List ℕ). x ++ drop b s) (front_pieces s at i (omega (arith, w.to))));
    low = λ h. rw (← get_or-take at t (at - 1) 0 (omega arith), front, get_or-take at s (at - 1) 0 (omega arith)) (w.ahead h);
    high = λ h. rw first starts;
  }
    where
      eb : i + k ≡ b
      eb = omega (arith, fit)

      ahead : length (take (at + k) s) ≡ at + k
      ahead = length-take-le (at + k) s (omega (arith, w.to, fit))

      parts : t ≡ take (at + k) s ++ (slice at i s ++ drop b s)
      parts = e ∙ rw eb (append_assoc (take (at + k) s) (slice at i s) (drop b s))

      front : take at t ≡ take at s
      front = rw parts (take-append-le at (take (at + k) s) (slice at i s ++ drop b s) (omega (arith, ahead)) ∙ take-take at (at + k) s (omega arith))

      rest : drop (at + k) t ≡ slice at i s ++ drop b s
      rest = rw (parts, drop_at (take (at + k) s) (slice at i s ++ drop b s) (at + k) ahead)

      first : get_or t (at + k) 0 ≡ get_or s at 0
      first = sym (head_drop t (at + k)) ∙ rw (rest, slice-cons at i s 0 (omega (arith, w.to)) (omega (arith, fit)))

      starts : z ≤ (tile_of (get_or s at 0)).corner
      starts = elim (dec_lt at (i - 1)) [ yes g ↦ w.behind g | no g ↦ let q : at ≡ i - 1 = omega (arith, w.to) in rw q last ]

  pub advanced : (to k : ℕ) → k ≡ b - i → b < length s → (tile_of (get_or s b 0)).corner < z → Cut s (b + 1) (length s) z to → length t ≡ length s →
      t ≡ take i s ++ slice (i + k) to s ++ drop (to - k) s → Moved s t i b z (record { front = to - k; back = to })
  advanced to k ek pos next w l e = record {
    fits = (omega arith, omega (arith, w.to));
    held = rw (front, rest) (append_assoc (take i s) (slice b to s) (drop to s) ∙ ap (λ (x : List ℕ). take i s ++ x) (back_pieces s b to (omega (arith, w.from)) w.to));
    low = λ h. rw final ends;
    high = λ h. rw (same) (w.behind (omega arith));
  }
    where
      eb : i + k ≡ b
      eb = omega (arith, fit)

      moved : List ℕ
      moved = take i s ++ slice b to s

      long : length moved ≡ to - k
      long = simp (length-append, length-take-le i s (omega (arith, fit)), length-slice b to s w.to) (omega (arith, w.from, fit))

      parts : t ≡ moved ++ drop (to - k) s
      parts = e ∙ rw eb

      front : take (to - k) t ≡ moved
      front = rw parts (take_at moved (drop (to - k) s) (to - k) long)

      rest : drop to t ≡ drop to s
      rest =
          let a : to - k + k ≡ to = omega (arith, w.from, fit) in
          rw (← a) (sym (drop-drop k (to - k) t) ∙ rw (parts, drop_at moved (drop (to - k) s) (to - k) long) (drop-drop k (to - k) s))

      same : get_or t to 0 ≡ get_or s to 0
      same = sym (head_drop t to) ∙ rw rest (head_drop s to)

      final : get_or t (to - k - 1) 0 ≡ get_or s (to - 1) 0
      final =
          let a : length (take i s) ≡ i = length-take-le i s (omega (arith, fit)) in
          let d : length (take i s) + (to - 1 - b) ≡ to - k - 1 = omega (arith, w.from, fit, a) in
          let f : b + (to - 1 - b) ≡ to - 1 = omega (arith, w.from) in
          sym (get_or-take (to - k) t (to - k - 1) 0 (omega (arith, w.from, fit))) ∙ rw (front, ← d, get_or-append-add (take i s) (slice b to s) (to - 1 - b) 0, get_or-drop b (take to s) (to - 1 - b) 0, f) (get_or-take to s (to - 1) 0 (omega (arith, w.from)))

      ends : (tile_of (get_or s (to - 1) 0)).corner < z
      ends = elim (dec_lt (b + 1) to) [ yes g ↦ w.ahead g | no g ↦ let q : to - 1 ≡ b = omega (arith, w.from) in rw q next ]
