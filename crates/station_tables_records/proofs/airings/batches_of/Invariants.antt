-- The loops of `batches_of` (the batches of a day, in the order of their numbers).
use Rattle.std.specs.Prelude.{◌≡◌, take, map}
use Rattle.station_tables_records.specs.MadeAirings.{rows_in_batch}
use Rattle.station_tables_records.proofs.airings.batches_of.Given as goal

-- the batches so far
abbrev pub invariant-loop-batch : goal.invariant-loop-batch
invariant-loop-batch l =
    l.made.items ≡ map (λ b. rows_in_batch l.channel l.day b.1.number l.lines) (take l.batch-index l.batch-items)
