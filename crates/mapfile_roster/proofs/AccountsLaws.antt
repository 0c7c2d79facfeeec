-- Laws of sets of accounts.
--     none_in                     a set without bits has no account
--     with_one                    the bit of an account, joined to a set, adds the account
--     Growing all set rest        the accounts that pass the test `all` are those in the set and those that pass the test `rest`
--     growing_start, -on, -end    a set that grows account by account, from none until nothing is left
--     count_bits                  somebody's accounts in a set are as many as its bits without nobody's
--     count_fits                  and no more than the highest account
--     covered_head                an account has tiles by the first one or by those behind it
use mathlib.Core.Path.{◌≡◌, refl, ap, sym, ◌∙◌}
use mathlib.Core.Bool.{Bool, true, false, ◌||◌}
use mathlib.Core.List.{List, ◌∷◌}
use Prim.Native.Nat.{ℕ, zero, suc, ◌+◌, ◌*◌, ◌/◌, ◌%◌, ◌^◌, ◌≤◌, ◌<◌, max}
use native.Mathlib.Nat.{pow-suc, div-eq_of_lt, mul-div-mul_right, zero-div, max-zero, max-eq_right}
use native.Mathlib.Omega.{arith}
use native.Mathlib.Numerals.{add-one}
use lib.Arith.{digits_mod}
use lib.Bits.{bit_or, or_step, or_shr}
use lib.Count.{ones, ones_in, ones_step}
use lib.Dec.{ltb, eqb, eqb-zero-suc, eqb-suc-zero, eqb-suc-suc}
use lib.Pow.{pow_pos, shl_exact, shr-shr}
use borrow.Author.Tests.{lt-ltb}
use Rattle.basics.specs.Choice.{if}
use Rattle.tile.specs.declared.Tile.{Tile}
use Rattle.tile.specs.Tile.{highest_account}
use Rattle.quadtree.proofs.Alignment.{area_pos}
use Rattle.mapfile_roster.specs.Roster.{covered}
use Rattle.mapfile_roster.specs.Accounts.{has, SetOf, count_from, count}
use Rattle.mapfile_roster.specs.declared.Accounts.{Accounts}

-- the bits of a power of two
one_bit : (a b : ℕ) → 2 ^ a / 2 ^ b % 2 ≡ if (eqb a b) 1 0
unfolding if
one_bit zero zero = refl
one_bit zero (suc b) = let l : 1 < 2 ^ suc b = omega (arith, pow-suc 2 b, pow_pos b) in rw (div-eq_of_lt l, eqb-zero-suc b)
one_bit (suc a) zero = rw (eqb-suc-zero a, pow-suc 2 a) (omega arith)
one_bit (suc a) (suc b) = rw (pow-suc 2 a, pow-suc 2 b, mul-div-mul_right {m = 2} (2 ^ a) (2 ^ b) (omega arith), eqb-suc-suc a b) (one_bit a b)

-- a bit of two numbers joined
or_bit : (x y b : ℕ) → bit_or x y / 2 ^ b % 2 ≡ max (x / 2 ^ b % 2) (y / 2 ^ b % 2)
or_bit x y b = ap (λ (z : ℕ). z % 2) (or_shr x y b ∙ or_step (x / 2 ^ b) (y / 2 ^ b)) ∙ digits_mod (bit_or (x / 2 ^ b / 2) (y / 2 ^ b / 2)) (omega arith)

either_bit : (b : Bool) (x : ℕ) → x < 2 → eqb (max x (if b 1 0)) 1 ≡ (b || eqb x 1)
unfolding if
either_bit true x h = rw (max-eq_right {n = x} {m = 1} (omega arith))
either_bit false x h = rw (max-zero x)

pub none_in : SetOf (λ a. false) (record { bits = 0 })
unfolding has
none_in = record { test = λ a l. rw (zero-div (2 ^ a)) }

with_test : (set : Accounts) (account : ℕ) → account ≤ highest_account → (a : ℕ) → has (record { bits = bit_or set.bits (1 * 2 ^ account % 2 ^ 64) }) a ≡ (eqb account a || has set a)
unfolding has
with_test set account h a =
    let e : 1 * 2 ^ account % 2 ^ 64 ≡ 2 ^ account = shl_exact 1 account 64 (omega arith) (omega arith) ∙ omega arith in
    rw (e, or_bit set.bits (2 ^ account) a, one_bit account a) (either_bit (eqb account a) (set.bits / 2 ^ a % 2) (omega arith))

pub with_one : (set : Accounts) (account : ℕ) → account ≤ highest_account → SetOf (λ a. eqb account a || has set a) (record { bits = bit_or set.bits (1 * 2 ^ account % 2 ^ 64) })
with_one set account h = record { test = λ a l. with_test set account h a }

pub record Growing (all : ℕ → Bool) (set : Accounts) (rest : ℕ → Bool) : Type 0 where
  pub either : (a : ℕ) → a ≤ highest_account → all a ≡ (has set a || rest a)

or_turn : (h e r : Bool) → (h || (e || r)) ≡ ((e || h) || r)
or_turn true true r = refl
or_turn true false r = refl
or_turn false true r = refl
or_turn false false r = refl

or_none : (h : Bool) → (h || false) ≡ h
or_none true = refl
or_none false = refl

pub growing_start : (all : ℕ → Bool) {set : Accounts} → SetOf (λ a. false) set → Growing all set all
growing_start all s = record { either = λ a l. rw (s.test a l) }

module _ {all rest : ℕ → Bool} {set : Accounts} (g : Growing all set rest) where
  pub growing_on : {behind : ℕ → Bool} {more : Accounts} (x : ℕ) → ((a : ℕ) → rest a ≡ (eqb x a || behind a)) → SetOf (λ a. eqb x a || has set a) more → Growing all more behind
  growing_on {behind} x h s = record { either = λ a l. g.either a l ∙ rw (h a, s.test a l) (or_turn (has set a) (eqb x a) (behind a)) }

  pub growing_end : ((a : ℕ) → rest a ≡ false) → SetOf all set
  growing_end h = record { test = λ a l. sym (g.either a l ∙ rw (h a) (or_none (has set a))) }

bit_count : (x : ℕ) → x < 2 → if (eqb x 1) 1 0 ≡ x
unfolding if
bit_count zero h = refl
bit_count (suc zero) h = refl
bit_count (suc (suc x)) h = absurd (omega arith)

has_bit : (set : Accounts) (a : ℕ) → if (has set a) 1 0 ≡ set.bits / 2 ^ a % 2
unfolding has
has_bit set a = bit_count (set.bits / 2 ^ a % 2) (omega arith)

-- the accounts from a on, of which there are bits for k
count_from_lem : (set : Accounts) (a k : ℕ) → set.bits / 2 ^ a < 2 ^ k → ones (set.bits / 2 ^ a) ≡ count_from set a k
unfolding count_from ones ones_in
count_from_lem set a zero l = let z : set.bits / 2 ^ a ≡ 0 = omega arith in rw z
count_from_lem set a (suc k) l =
    let e : set.bits / 2 ^ a / 2 ≡ set.bits / 2 ^ suc a = rw (add-one a) at (shr-shr set.bits a 1) in
    let m : set.bits / 2 ^ suc a < 2 ^ k = omega (arith, pow-suc 2 k) in
    omega (arith, ones_step (set.bits / 2 ^ a), ap ones e, count_from_lem set (suc a) k m, has_bit set a)

pub count_bits : (set : Accounts) → set.bits < 2 ^ suc highest_account → ones (set.bits / 2) ≡ count set
count_bits set l = count_from_lem set 1 highest_account (omega arith)

-- an account counts once at most
once : (b : Bool) → if b 1 0 ≤ 1
unfolding if
once true = omega arith
once false = omega arith

count_few : (set : Accounts) (a k : ℕ) → count_from set a k ≤ k
unfolding count_from
count_few set a zero = omega arith
count_few set a (suc k) = omega (arith, once (has set a), count_few set (suc a) k)

pub count_fits : (set : Accounts) → count set ≤ highest_account
count_fits set = count_few set 1 highest_account

-- a test of a sum, by what its first part adds
sum_test : (b : Bool) (x n : ℕ) → 0 < x → ltb 0 (if b x 0 + n) ≡ (b || ltb 0 n)
unfolding if
sum_test true x n h = lt-ltb 0 (x + n) (omega arith)
sum_test false x n h = let e : 0 + n ≡ n = omega arith in rw e

pub covered_head : (t : Tile) (ts : List Tile) (a : ℕ) → ltb 0 (covered a (t ∷ ts)) ≡ (eqb t.account a || ltb 0 (covered a ts))
unfolding covered
covered_head t ts a = sum_test (eqb t.account a) _ (covered a ts) (omega (arith, area_pos t.size))
