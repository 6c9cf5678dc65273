-- The loops of `push_zeros` (so many zeros behind the text).
use Rattle.std.proofs.Common.{◌≡◌, ◌+◌, ◌++◌, length, replicate}
use Rattle.station_tables_records.proofs.item_texts.push_zeros.Given as goal

-- the copies so far
abbrev pub invariant-loop-pushed : goal.invariant-loop-pushed
invariant-loop-pushed l = record {
  items : l.text.items ≡ l.initial.text.items ++ replicate l._pushed 48;
  len : length l.text.items ≡ length l.initial.text.items + l._pushed;
}
