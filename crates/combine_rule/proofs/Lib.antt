-- Laws of the pixel rule.
--     RuleCases   the rule of a choice, case by case
pub mod RuleCases
