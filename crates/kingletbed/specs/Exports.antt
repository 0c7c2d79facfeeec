-- What the exports make of the calls' answers, where these hold a scan record: numbers alone. Definitions only.
--     fresh_export k r, feed_export f   an answer with the record's four numbers in place of the record
--     fresh_numbers, fed_numbers        the same of what the calls' definitions give
use Rattle.std.specs.Prelude.{Result}
use Rattle.refusal.specs.Checks.{After}
use Rattle.refusal.specs.declared.Refusal.{Refusal}
use Rattle.bed.specs.Kinds.{kind_number}
use Rattle.bed.specs.declared.Kind.{Kind}
use Rattle.bed.specs.declared.Scan.{Scan}
use Rattle.scan.specs.FreshScan.{Fresh, fresh_answer}
use Rattle.scan.specs.Feed.{Fed, fed_answer}
use Rattle.scan.specs.declared.Fed as code
use Rattle.kingletbed.specs.declared.FreshAnswer.{FreshAnswer}
use Rattle.kingletbed.specs.declared.FeedAnswer.{FeedAnswer}

abbrev pub fresh_in_numbers : Fresh → FreshAnswer
fresh_in_numbers r = record {
  number = r.number;
  kind = kind_number r.scan.kind;
  order = r.scan.order;
  pixels = r.scan.pixels;
  tiles = r.scan.tiles;
}

abbrev pub fed_in_numbers : Fed → FeedAnswer
fed_in_numbers r = record {
  number = r.number;
  taken = r.taken;
  kind = kind_number r.scan.kind;
  order = r.scan.order;
  pixels = r.scan.pixels;
  tiles = r.scan.tiles;
}

abbrev pub fresh_export : Kind → Result Scan Refusal → FreshAnswer
fresh_export k r = fresh_in_numbers (fresh_answer k r)

abbrev pub feed_export : code.Fed → FeedAnswer
feed_export f = fed_in_numbers (fed_answer f)

unfoldable pub fresh_numbers : After Fresh → After FreshAnswer
fresh_numbers r = record { answer = fresh_in_numbers r.answer; storage = r.storage }

unfoldable pub fed_numbers : After Fed → After FeedAnswer
fed_numbers r = record { answer = fed_in_numbers r.answer; storage = r.storage }
