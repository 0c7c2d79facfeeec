-- A band's bytes looked at before it is put.
--     Suiting              rows that suit so far, and the largest band among them
--     suiting_start        no row yet
--     suiting_end, -le     the bytes of the rows that are tried next
--     suiting_small        their weight fits
--     suiting_next         they suit
use mathlib.Core.Path.{◌≡◌, refl, ap, ◌∙◌}
use mathlib.Core.List.{List}
use Prim.Native.Nat.{ℕ, zero, suc, ◌+◌, ◌-◌, ◌*◌, ◌/◌, ◌%◌, ◌^◌, ◌≤◌, ◌<◌}
use native.Mathlib.Nat.{add-mul, mul_left_comm, mul_comm, div-add-mod'}
use native.Mathlib.Decide.{dec_lt}
use native.Mathlib.Numerals.{add-one}
use native.Mathlib.Omega.{arith}
use lib.ListN.{length}
use Rattle.tile.specs.Tile.{highest_order, highest_account}
use Rattle.scan_stretch.proofs.Totals.{total_start}
use Rattle.scan_weigh.specs.Weighed.{pair_from, rows_from, NoneAbove}
use Rattle.scan_weigh.proofs.Weighing.{pairs_most, rows_join, none_above}
use Rattle.scan_ways.specs.Bands.{first, many}
use Rattle.scan_suit.specs.Suits.{BandTaken}

pub power_half : (n : ℕ) → 1 ≤ n → 2 ^ n ≡ 2 * (2 ^ n / 2)
power_half zero h = absurd (omega arith)
power_half (suc n) h = omega arith

-- rows are an even number, and weighed
pub record Suiting (bytes : List ℕ) (d n p m r at k rows end weight : ℕ) : Type 0 where
  pub sized : k ≤ n
  pub half : ℕ
  pub even : rows ≡ 2 * half
  pub few : rows ≤ 2 ^ k
  pub ends : end ≡ at + half * (2 * 2 ^ n)
  pub within : end ≤ length bytes
  pub weighs : weight ≡ rows_from bytes (2 ^ n) (2 ^ n / 2) at half + 1
  pub below : NoneAbove bytes at end highest_account
  pub taken : 0 < k → BandTaken n d bytes p m r k

pub suiting_start : (bytes : List ℕ) (d n p m r at : ℕ) → at ≤ length bytes → Suiting bytes d n p m r at 0 0 at 1
suiting_start bytes d n p m r at h = record {
  sized = omega arith;
  half = 0;
  even = refl;
  few = omega arith;
  ends = omega arith;
  within = h;
  weighs = omega (arith, total_start (λ j. pair_from bytes (2 ^ n) (2 ^ n / 2) (at + j * (2 * 2 ^ n))));
  below = none_above bytes at highest_account;
  taken = λ l. absurd (omega arith);
}

module _ {bytes : List ℕ} {d n p m r at k rows end weight : ℕ} (w : Suiting bytes d n p m r at k rows end weight) (h : n ≤ highest_order) (lt : k < n) where
  twice : 2 ^ (k + 1) ≡ 2 * 2 ^ k
  twice = rw (add-one k) (omega arith)

  -- the rows behind those weighed
  pub suiting_pairs : (step : ℕ) → step ≡ 2 ^ (k + 1) → w.half + (step - rows) / 2 ≡ 2 ^ k
  suiting_pairs step e = omega (arith, twice, w.even, w.few)

  many_half : many n (k + 1) ≡ 2 ^ k * (2 * 2 ^ n)
  many_half = ap (λ (x : ℕ). x * 2 ^ n) twice ∙ omega (arith, mul_comm 2 (2 ^ k), mul_left_comm (2 ^ k) 2 (2 ^ n))

  module _ (step upto : ℕ) (es : step ≡ 2 ^ (k + 1)) (eu : upto ≡ at + many n (k + 1)) where
    pub suiting_end : end + (step - rows) / 2 * (2 * 2 ^ n) ≡ upto
    suiting_end = omega (arith, w.ends, many_half, add-mul w.half ((step - rows) / 2) (2 * 2 ^ n), ap (λ (x : ℕ). x * (2 * 2 ^ n)) (suiting_pairs step es))

    pub suiting_le : end ≤ upto
    suiting_le = omega (arith, suiting_end)

    -- the sum fits
    pub suiting_small : upto ≤ length bytes → weight + rows_from bytes (2 ^ n) (2 ^ n / 2) end ((step - rows) / 2) ≤ length bytes + 1
    suiting_small l = omega (
      arith,
      w.weighs,
      w.ends,
      suiting_end,
      pairs_most bytes (2 ^ n) (2 ^ n / 2) at w.half (power_half n (omega arith)),
      pairs_most bytes (2 ^ n) (2 ^ n / 2) end ((step - rows) / 2) (power_half n (omega arith)),
    )

    pub suiting_next : (x top : ℕ) → p ≡ first n r → d ≤ first n r → at ≡ first n r - d → r % 2 ^ (k + 1) ≡ 0 → r + 2 ^ (k + 1) ≤ 2 ^ n → upto ≤ length bytes →
        x ≡ rows_from bytes (2 ^ n) (2 ^ n / 2) end ((step - rows) / 2) → weight + x ≤ m → NoneAbove bytes end upto top → top ≤ highest_account → Suiting bytes d n p m r at (k + 1) step upto (weight + x)
    suiting_next x top ep ld ea er room len ex fits below low =
        let all : NoneAbove bytes at upto highest_account = λ i u v. elim (dec_lt i end) [ yes q ↦ w.below i u q | no q ↦ omega (arith, below i (omega arith) v) ] in
        let sum : weight + x ≡ rows_from bytes (2 ^ n) (2 ^ n / 2) at (2 ^ k) + 1 = omega (arith, w.weighs, ex, rw (← w.ends, suiting_pairs step es) at (rows_join bytes (2 ^ n) (2 ^ n / 2) at w.half ((step - rows) / 2))) in
        let half : 2 ^ (k + 1) / 2 ≡ 2 ^ k = omega (arith, twice) in
        record {
          sized = omega arith;
          half = 2 ^ k;
          even = es ∙ twice;
          few = omega arith;
          ends = omega (arith, many_half);
          within = len;
          weighs = sum;
          below = all;
          taken = λ _. record {
            fits = record {
              order = h;
              some = omega arith;
              size = omega arith;
              times = r / 2 ^ (k + 1);
              row = omega (arith, div-add-mod' r (2 ^ (k + 1)));
              rows = room;
              start = ld;
              end = omega arith;
              low = λ i u v. all (i - d) (omega arith) (omega arith);
            };
            place = ep;
            slots = rw (half, ← ea) (omega arith);
          };
        }
