-- `count_rows`: what is told of the days of these rows.
use Rattle.std.proofs.Common.{map, ap, ◌∙◌, arith}
use Rattle.std.proofs.lemmas.List.{take_all}
use Rattle.station_tables_records.specs.Inside.{inside}
use Rattle.station_tables_statements.proofs.LookLemmas.{looks_err, looks_on, looks_then, read_is_look}
use Rattle.station_tables_reading.specs.DayLines.{counts_in}
use Rattle.station_tables_reading.proofs.DayStepLemmas.{count_more}
use Rattle.station_tables_reading.proofs.day_counting.count_rows.Goals as goal

pub returns-in_err-day-clause-looks : goal.returns-in_err-day-clause-looks
returns-in_err-day-clause-looks g c =
    looks_err g.S.Store _ _ _ _ c.from_residual.ensures.0
    (looks_then g.S.Store _ _ _ _ _ c.loop-row.invariant.looks
    (read_is_look g.S.Store _ _ _ c.count_day.ensures.reads))

pub returns-in_err-push-clause-looks : goal.returns-in_err-push-clause-looks
returns-in_err-push-clause-looks g c =
    looks_err g.S.Store _ _ _ _ c.from_residual-in_err-push.ensures.0
    (looks_then g.S.Store _ _ _ _ _ c.loop-row.invariant.looks
    (read_is_look g.S.Store _ _ _ c.in_ok-day.ensures.reads))

pub returns-clause-looks : goal.returns-clause-looks
returns-clause-looks g c = looks_on g.S.Store _ _ tt _ c.loop-row.invariant.looks

pub returns-clause-counts : goal.returns-clause-counts
returns-clause-counts g c centre clean =
    c.loop-row.invariant.counts centre clean
    ∙ ap (map (counts_in (inside g.S.Store c.args.tx.now).now.trees))
    (take_all c.loop-row.row-index c.args.days.now (omega arith))

pub loop-row-preserved : goal.loop-row-preserved
loop-row-preserved g c =
    let look = read_is_look g.S.Store _ _ _ c.in_ok-day.ensures.reads in
    record {
      looks = looks_on g.S.Store _ _ _ tt (looks_then g.S.Store _ _ _ _ _ c.loop-row.invariant.looks look);
      counts =
          count_more c.args.days.now c.loop-row.row-index (omega arith) _ g.S.Store _ _ _ _ c.in_ok-day.day
          c.loop-row.invariant.looks look c.loop-row.counts.items c.push.new.self.items
          c.loop-row.invariant.counts c.in_ok-day.ensures.counts c.in_ok-push.ensures.items;
    }
