-- The rule of a choice by its cases.
use native.Mathlib.Omega.{arith}
use Rattle.combine_rule.proofs.RuleCases.{inside_held, inside_free, outside_free, outside_held}
use Rattle.combine_rule.proofs.ChoiceRule.keep.Goals as goal

pub returns-then-b-eq0 : goal.returns-then-b-eq0
returns-then-b-eq0 c = inside_free _ _ c.in-Inside.is (omega arith)

pub returns-else-b-eq0 : goal.returns-else-b-eq0
returns-else-b-eq0 c = inside_held _ _ c.in-Inside.is (omega arith)

pub returns-then-b-eq0-2 : goal.returns-then-b-eq0-2
returns-then-b-eq0-2 c = outside_free _ _ c.in-Outside.is (omega arith)

pub returns-else-b-eq0-2 : goal.returns-else-b-eq0-2
returns-else-b-eq0-2 c = outside_held _ _ c.in-Outside.is (omega arith)
