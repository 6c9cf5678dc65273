-- `read_day_counts`: what the days table tells of each of the channel's days.
use Rattle.std.proofs.Common.{◌≡◌, Some, sym, ap, ◌∙◌}
use Rattle.std.specs.Option.{option_map}
use Rattle.station_tables_records.specs.Inside.{inside}
use Rattle.station_tables_statements.specs.Calls.{set_in}
use Rattle.station_tables_statements.proofs.LookLemmas.{read_is_look}
use Rattle.channel_view_model.specs.Counts.{counts_seen}
use Rattle.station_tables_reading.proofs.PageTextLemmas.{seen_then}
use Rattle.station_tables_reading.proofs.SeenLemmas.{seen_of, seen_of_none}
use Rattle.station_tables_reading.proofs.day_counting.read_day_counts.Goals as goal

pub returns-in_default-clause-counts : goal.returns-in_default-clause-counts
returns-in_default-clause-counts g c centre clean holds known =
    ap (option_map counts_seen)
    (seen_of_none c.args.channel (set_in (inside g.S.Store c.args.tx.now)) (sym (known ∙ c.in_default.is)))

pub returns-clause-counts : goal.returns-clause-counts
returns-clause-counts g c centre clean holds known =
    let ch = c.args.channel in
    let plan = c.in-Some.plan in
    let there = sym (known ∙ c.in-Some.is) in
    let told =
    seen_then g.S.Store _ _ _ _ _ (read_is_look g.S.Store _ _ _ c.in_ok-test_open.ensures.reads)
    c.in_ok-counts.ensures.looks ch plan
    (λ _. Unit {0}) (λ v. c.in_ok-counts.counts.items ≡ counts_seen v) (λ v. c.in_ok-counts.counts.items ≡ counts_seen v)
    (λ v _ counts. counts) (λ _ _ _ _. tt) c.in_ok-counts.ensures.counts centre clean holds there in
    ap Some told ∙ ap (option_map counts_seen) (seen_of ch (set_in (inside g.S.Store c.args.tx.now)) plan there)
