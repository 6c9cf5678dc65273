-- `count_day`: what is told of the day of a row.
use Rattle.std.proofs.Common.{◌≡◌, filter, ap, ap₂, ◌∙◌, arith}
use Rattle.sqlite.specs.State.{HasCleanDisk}
use Rattle.sqlite.specs.Effect.{Database}
use Rattle.station_tables_records.specs.MadeDays.{is_of_day}
use Rattle.station_tables_records.specs.MadeAirings.{is_batch_of}
use Rattle.station_tables_records.specs.TablePairs.{aired_rows_in, day_rows_in}
use Rattle.station_tables_records.specs.Inside.{inside}
use Rattle.station_tables_records.proofs.InsideLemmas.{reads_on}
use Rattle.station_tables_statements.proofs.DayLookLemmas.{has_days, has_airings}
use Rattle.station_tables_statements.proofs.LookLemmas.{reads_then}
use Rattle.station_tables_statements.proofs.SameLemmas.{centre_after}
use Rattle.station_tables_reading.specs.DayLines.{counts_of_rows}
use Rattle.station_tables_reading.proofs.DayLineLemmas.{of_one_day}
use Rattle.station_tables_reading.proofs.day_counting.count_day.Goals as goal

pub returns-clause-reads : goal.returns-clause-reads
returns-clause-reads g c =
    reads_on g.S.Store _ _ _ _
    (reads_then g.S.Store _ _ _ _ _ c.in_ok-items.ensures.reads c.in_ok-batches.ensures.reads)

pub returns-clause-counts : goal.returns-clause-counts
returns-clause-counts g c centre clean =
    let old = inside g.S.Store c.args.tx.now in
    let mid = inside g.S.Store c.load_item_rows.new.tx in
    let row = c.args.row.now in
    let trees = old.now.trees in
    let clean_mid : HasCleanDisk mid = omega (arith, c.load_batch_rows.ensures.reads.survives.clean, clean) in
    let early : HasCleanDisk old = omega (arith, c.load_item_rows.ensures.reads.survives.clean, clean_mid) in
    let same = c.in_ok-items.ensures.reads.same clean_mid in
    let items_are : c.deref.result.now ≡ filter (is_of_day row.0 row.1.number) (day_rows_in trees).items =
    c.deref.ensures.value ∙ c.in_ok-items.ensures.items (has_days old centre) clean_mid
    ∙ of_one_day row.0 row.1.number (day_rows_in trees).items in
    let batches_are : c.deref-2.result.now ≡ filter (is_batch_of row.0 row.1.number) (aired_rows_in trees).batches =
    c.deref-2.ensures.value
    ∙ c.in_ok-batches.ensures.batches (has_airings mid (centre_after old mid same early centre)) clean
    ∙ ap (λ (d : Database). filter (is_batch_of row.0 row.1.number) (aired_rows_in d.trees).batches) same.0.now_is
    in
    c.in_ok-counts.ensures ∙ ap₂ (counts_of_rows row.1) items_are batches_are
