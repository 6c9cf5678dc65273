-- `count_within`: what is told of the channel's days with numbers from one to another.
use Rattle.std.proofs.Common.{◌≡◌, map, filter, subst, ◌∙◌}
use Rattle.std.specs.Prelude.{IfOk}
use Rattle.station_tables_records.specs.MadeDays.{is_day_in}
use Rattle.station_tables_records.specs.TablePairs.{day_rows_in}
use Rattle.station_tables_records.specs.Inside.{inside}
use Rattle.station_tables_statements.proofs.DayLookLemmas.{has_days}
use Rattle.station_tables_statements.proofs.LookLemmas.{look_after, read_is_look}
use Rattle.station_tables_reading.specs.DayLines.{counts_in}
use Rattle.station_tables_reading.proofs.ThenLemmas.{rows_then}
use Rattle.station_tables_reading.proofs.day_counting.count_within.Goals as goal

pub returns-clause-reads : goal.returns-clause-reads
returns-clause-reads g c =
    look_after g.S.Store _ _ _ _ _ c.in_ok-days.ensures.reads c.count_rows.ensures.looks

pub returns-clause-counts : goal.returns-clause-counts
returns-clause-counts g c =
    let passes = is_day_in c.args.channel c.args.first c.args.last in
    rows_then g.S.Store _ _ _ _ _ (read_is_look g.S.Store _ _ _ c.in_ok-days.ensures.reads) c.count_rows.ensures.looks
    (λ db. c.deref.result.now ≡ filter passes (day_rows_in db.trees).days)
    (λ db. IfOk c.count_rows.result (λ v. v.items ≡ map (counts_in db.trees) c.deref.result.now))
    (λ db. IfOk c.count_rows.result
    (λ v. v.items ≡ map (counts_in db.trees) (filter passes (day_rows_in db.trees).days)))
    (λ db are told. subst (λ l. IfOk c.count_rows.result (λ v. v.items ≡ map (counts_in db.trees) l)) are told)
    (λ held fine. c.deref.ensures.value
    ∙ c.in_ok-days.ensures.days (has_days (inside g.S.Store c.args.tx.now) held) fine)
    c.count_rows.ensures.counts
