-- Document 02's own lines on positions in mils and the edges of the form, computed.
use mathlib.Core.Path.{refl}
use Rattle.basics.specs.Choice.{if}
use Rattle.refusal.specs.Checks.{must, or_else, unless}
use Rattle.decimal.specs.Decimal.{digits_by}
use Rattle.decimal.specs.Value.{is_digit, digits_only, value_from}
use Rattle.checks.specs.Asked.{order_check, coordinate_check}
use Rattle.mils.specs.Position.{needless_zero, well_formed, named_by, position_text}
use Rattle.mils.specs.Calls.{position_asked, pixel_of, pixel_asked, hundredths_of, text_asked, text_of}
use Rattle.mils.specs.Worked.{MilsLines}

pub mils_lines : MilsLines
unfolding if must or_else unless digits_by is_digit digits_only value_from order_check coordinate_check needless_zero well_formed named_by position_text position_asked pixel_of pixel_asked hundredths_of text_asked text_of
mils_lines = record {
  last = refl;
  off = refl;
  eight = refl;
  four = refl;
  below = refl;
  above = refl;
  alone = refl;
  zero = refl;
  bare = refl;
  zeros = refl;
  led = refl;
  blank = refl;
  sign = refl;
  feed = refl;
  closed = refl;
  decimal = refl;
  comma = refl;
  whole = refl;
  none = refl;
  five = refl;
  most = refl;
  six = refl;
  wraps = refl;
  order = refl;
  order_back = refl;
  largest = refl;
  outside = refl;
  first = refl;
  second = refl;
  back = refl;
  few = refl;
  nought = refl;
  outside_few = refl;
}
