-- The four bytes joined are the definition's number.
use Rattle.mapfile_bytes.specs.Items.{word_at}
use Rattle.mapfile_bytes.proofs.ArrayU84Word.number.Goals as goal

pub returns : goal.returns
unfolding word_at
returns c = c.join.ensures
