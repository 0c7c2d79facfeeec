-- The loop keeps that the digits from the next one on, written behind v, make the number.
use Rattle.std.proofs.Common.{◌≡◌, true, ◌-◌, ◌^◌, ◌<◌, length, drop}
use Rattle.decimal.specs.Value.{digits_only, value_from}
use Rattle.decimal.specs.Nines.{nines}
use Rattle.decimal.proofs.value_from.Given as goal

abbrev pub invariant-loop-byte : goal.invariant-loop-byte
invariant-loop-byte l = record {
  same : value_from l.ahead l.bytes ≡ value_from l.v (drop l.byte-index l.bytes);
  digits : digits_only (drop l.byte-index l.bytes) ≡ true;
  room : nines l.v (length l.bytes - l.byte-index) < 2 ^ 32;
}
