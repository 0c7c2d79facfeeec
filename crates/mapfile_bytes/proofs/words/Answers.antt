-- Bytes in fours are words.
use Rattle.mapfile_bytes.proofs.ItemsLaws.{words_in}
use Rattle.mapfile_bytes.proofs.words.Goals as goal

pub returns : goal.returns
returns c = rw c.as_chunks.ensures.front (words_in _ c.args.bytes.now)
