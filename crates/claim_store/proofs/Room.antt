-- Room made in a list by one move of its tail.
--     opened   of a tail that was moved
use mathlib.Core.Path.{◌≡◌, ◌∙◌}
use mathlib.Core.List.{List, ◌++◌, append_assoc}
use Prim.Native.Nat.{ℕ, ◌+◌, ◌-◌, ◌≤◌}
use native.Mathlib.Omega.{arith}
use lib.ListN.{length, take}
use lib.Seq.{slice, length-slice, take_at, drop_at, take-take, take-append-le, length-take-le}
use Rattle.claim_store.specs.Stores.{RoomMade}

pub opened : (s t : List ℕ) (lo hi count m : ℕ) (z : List ℕ) → t ≡ take (lo + m) s ++ slice hi count s ++ z → hi ≤ count → count ≤ length s → lo + m ≤ length s → RoomMade s t lo hi count m
opened s t lo hi count m z e h l r = record {
  ahead = rw (e', take-append-le lo (take (lo + m) s) (slice hi count s ++ z) (omega (arith, p)), take-take lo (lo + m) s (omega arith));
  tail = rw (e', drop_at (take (lo + m) s) (slice hi count s ++ z) (lo + m) p, take_at (slice hi count s) z (count - hi) (length-slice hi count s l));
}
  where
    p : length (take (lo + m) s) ≡ lo + m
    p = length-take-le (lo + m) s r

    e' : t ≡ take (lo + m) s ++ (slice hi count s ++ z)
    e' = e ∙ append_assoc (take (lo + m) s) (slice hi count s) z
