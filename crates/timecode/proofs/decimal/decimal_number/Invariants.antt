-- The loops of `decimal_number` (the number that 1 to `most` digits write, leading zeros included).
use Rattle.std.proofs.Common.{◌≡◌, ◌<◌, ◌^◌, drop}
use Rattle.std.specs.Str.Parse.{digits_value, digits_value_after}
use Rattle.timecode.proofs.decimal.decimal_number.Given as goal

-- the digits so far write n
abbrev pub invariant-loop-b : goal.invariant-loop-b
invariant-loop-b l = record {
  value : digits_value_after 10 l.n (drop l.b-index l.text) ≡ digits_value 10 l.text;
  bound : l.n < 10 ^ l.b-index;
}
