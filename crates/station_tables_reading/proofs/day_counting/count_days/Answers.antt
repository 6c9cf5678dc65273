-- `count_days`: what is told of the channel's days.
use Rattle.std.proofs.Common.{rules as common, ◌≡◌, ◌+◌, ◌*◌, ◌++◌, ◌∙◌, map, filter, sym, ap, arith}
use Rattle.station_tables_records.specs.MadeDays.{is_day_in}
use Rattle.station_tables_records.specs.TablePairs.{day_rows_in}
use Rattle.station_tables_records.specs.Inside.{inside}
use Rattle.station_tables_statements.proofs.LookLemmas.{looks_on, looks_then, read_is_look}
use Rattle.station_tables_reading.specs.DayLines.{counts_in, days_below}
use Rattle.station_tables_reading.proofs.DayLineLemmas.{none_at_first}
use Rattle.station_tables_reading.proofs.DayPageLemmas.{days_told, kept_then, next_counts}
use Rattle.station_tables_reading.proofs.day_counting.count_days.Goals as goal

pub loop-page-init : goal.loop-page-init
loop-page-init g c = record {
  looks = search common;
  counts = λ centre clean holds there.
      c.new-counts.ensures.items
      ∙ ap (map (counts_in (inside g.S.Store c.args.tx.now).now.trees))
      (sym (none_at_first c.args.channel (day_rows_in (inside g.S.Store c.args.tx.now).now.trees).days));
}

pub loop-page-preserved : goal.loop-page-preserved
loop-page-preserved g c =
    let ch = c.args.channel in
    let plan = c.args.plan.now in
    let p = c.loop-page.page in
    let look = read_is_look g.S.Store _ _ _ c.in_ok-more.ensures.reads in
    record {
      looks = looks_on g.S.Store _ _ _ tt (looks_then g.S.Store _ _ _ _ _ c.loop-page.invariant.looks look);
      counts =
          kept_then g.S.Store _ _ _ _ _ c.loop-page.invariant.looks look ch plan
          (λ db. c.loop-page.counts.items ≡ map (counts_in db.trees) (days_below ch (p * 1000) db.trees))
          (λ db. c.in_ok-more.more.items
          ≡ map (counts_in db.trees)
          (filter (is_day_in ch (p * 1000) (p * 1000 + 999)) (day_rows_in db.trees).days))
          (λ db. c.extend_from_slice.new.self.items
          ≡ map (counts_in db.trees) (days_below ch ((p + 1) * 1000) db.trees))
          (λ db kept known so_far more. next_counts db ch plan kept known p _ _ _ so_far more
          (c.in_ok-extend_from_slice.ensures.items ∙ ap (λ l. c.loop-page.counts.items ++ l) c.deref.ensures.value))
          c.loop-page.invariant.counts c.in_ok-more.ensures.counts;
    }

pub returns-clause-counts : goal.returns-clause-counts
returns-clause-counts g c centre clean holds there =
    let db = (inside g.S.Store c.args.tx.now).now in
    let all : c.loop-page.page * 1000 ≡ 100000 = omega arith in
    c.loop-page.invariant.counts centre clean holds there
    ∙ ap (λ n. map (counts_in db.trees) (days_below c.args.channel n db.trees)) all
    ∙ days_told db c.args.channel c.args.plan.now holds there
