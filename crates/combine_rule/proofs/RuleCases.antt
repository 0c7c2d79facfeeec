-- The rule of a choice, case by case. Elsewhere only worked lines, which compute it, look into the rule.
--     inside_held, inside_free     inside, at a pixel that is somebody's or nobody's on the second map
--     outside_free, outside_held   outside
--     rule_nobody                  of nobody's on the first map it makes nobody's
use mathlib.Core.Path.{◌≡◌, refl}
use Prim.Native.Nat.{ℕ, zero, suc, ◌-◌, ◌<◌}
use native.Mathlib.Omega.{arith}
use Rattle.combine_rule.specs.declared.Choice.{Choice}
use Rattle.combine_rule.specs.declared.Choice.TheVariants.{Inside, Outside}
use Rattle.combine_rule.specs.Rule.{rule_of}

module _ {choice : Choice} (a b : ℕ) where
  pub inside_held : choice ≡ Inside → 0 < b → a ≡ rule_of choice a b
  unfolding rule_of
  inside_held e h = let s : b ≡ suc (b - 1) = omega arith in rw (e, s)

  pub inside_free : choice ≡ Inside → b ≡ 0 → 0 ≡ rule_of choice a b
  unfolding rule_of
  inside_free e h = rw (e, h)

  pub outside_free : choice ≡ Outside → b ≡ 0 → a ≡ rule_of choice a b
  unfolding rule_of
  outside_free e h = rw (e, h)

  pub outside_held : choice ≡ Outside → 0 < b → 0 ≡ rule_of choice a b
  unfolding rule_of
  outside_held e h = let s : b ≡ suc (b - 1) = omega arith in rw (e, s)

pub rule_nobody : (choice : Choice) (b : ℕ) → rule_of choice 0 b ≡ 0
unfolding rule_of
rule_nobody Inside zero = refl
rule_nobody Inside (suc b) = refl
rule_nobody Outside zero = refl
rule_nobody Outside (suc b) = refl
