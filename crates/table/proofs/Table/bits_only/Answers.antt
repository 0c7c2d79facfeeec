-- `all` asks of each byte what the definition asks.
use Rattle.std.proofs.Common.{rules, tests, ◌∙◌, nat_le}
use Rattle.std.proofs.lemmas.Iterator.{YieldsList-from_slice}
use Rattle.std.proofs.lemmas.Iterator.Search.{all_from_yields_List}
use Rattle.table.proofs.LoadLaws.{bits_all}
use Rattle.table.proofs.Table.bits_only.Goals as goal

pub returns : goal.returns
returns c = all_from_yields_List (λ b. nat_le b 1) _ _ c.all.result c.all.ensures.ran (YieldsList-from_slice c.args.self.bytes.now cc) (λ x b q k. search (rules, tests)) ∙ bits_all c.args.self.bytes.now
