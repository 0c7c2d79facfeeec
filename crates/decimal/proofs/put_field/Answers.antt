-- The number is put behind the byte string.
use Rattle.text.proofs.PutAtLaws.{puts_then}
use Rattle.decimal.proofs.put_field.Goals as goal

pub returns : goal.returns
returns c = puts_then c.put_all.ensures c.put_number.ensures
