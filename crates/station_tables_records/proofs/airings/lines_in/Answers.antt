-- `lines_in`: the lines' rows of a batch.
use Rattle.std.proofs.Common.{◌∙◌, sym, subst, is_lt, rules}
use Rattle.std.specs.Ordering.{is_le}
use Rattle.std.proofs.lemmas.List.Sorted.{IsPartitionPoint-from_clause}
use Rattle.sqlite_keyed.proofs.ListLemmas.{filter_same}
use Rattle.station_tables_records.specs.MadeDays.{Rise}
use Rattle.station_tables_records.specs.MadeAirings.{line_cmp, side_of_batch}
use Rattle.station_tables_records.proofs.BisectLemmas.{found_behind, drop_rises}
use Rattle.station_tables_records.proofs.AiredBisectLemmas.{parted_lt_batch, parted_le_batch, beside_batch}
use Rattle.station_tables_records.proofs.airings.lines_in.Goals as goal

pub returns : goal.returns
returns c =
    let side = side_of_batch c.args.channel c.args.day c.args.batch in
    let rows = c.args.lines.now in
    let from = c.split_at.result.1.now in
    let rise = subst (Rise line_cmp) (sym c.split_at.ensures.back)
    (drop_rises line_cmp rows c.partition_point.result c.requires.rise) in
    found_behind side rows from c.split_at-2.result.0.now c.partition_point.result c.partition_point-2.result
    c.split_at.ensures.back c.split_at-2.ensures.front c.partition_point.ensures.bound c.partition_point-2.ensures.bound
    (IsPartitionPoint-from_clause (λ r. is_lt (side r)) rows c.partition_point.result
    c.partition_point.ensures.partitioned (parted_lt_batch c.args.channel c.args.day c.args.batch rows c.requires.rise)
    (λ a r q k. search rules))
    (IsPartitionPoint-from_clause (λ r. is_le (side r)) from c.partition_point-2.result
    c.partition_point-2.ensures.partitioned (parted_le_batch c.args.channel c.args.day c.args.batch from rise)
    (λ a r q k. search rules))
    ∙ filter_same _ _ (beside_batch c.args.channel c.args.day c.args.batch) rows
