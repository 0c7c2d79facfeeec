-- Part of a mapped list.
--     take_map, drop_map    a front or a tail of a mapped list is the mapped front or tail
use mathlib.Core.Path.{◌≡◌, refl, ap}
use mathlib.Core.List.{List, [], ◌∷◌, map}
use Prim.Native.Nat.{ℕ, zero, suc}
use lib.ListN.{take, drop}

module _ {A B : Type 0} (f : A → B) where
  pub take_map : (n : ℕ) (s : List A) → take n (map f s) ≡ map f (take n s)
  take_map zero s = refl
  take_map (suc n) [] = refl
  take_map (suc n) (x ∷ s) = ap (λ (t : List B). f x ∷ t) (take_map n s)

  pub drop_map : (n : ℕ) (s : List A) → drop n (map f s) ≡ map f (drop n s)
  drop_map zero s = refl
  drop_map (suc n) [] = refl
  drop_map (suc n) (x ∷ s) = drop_map n s
