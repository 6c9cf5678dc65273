-- `count_paged`: how many rows the table has page by page.
use Rattle.std.proofs.Common.{sym, ap}
use Rattle.channel_view_model.specs.Centre.{view_at}
use Rattle.station_tables_records.specs.Inside.{inside}
use Rattle.station_tables_statements.specs.Calls.{set_in}
use Rattle.station_tables_reading.specs.Lines.{count_of}
use Rattle.station_tables_reading.proofs.PageTextLemmas.{own_count}
use Rattle.station_tables_reading.proofs.entries.count_paged.Goals as goal

pub returns-in-Vault-clause-count : goal.returns-in-Vault-clause-count
returns-in-Vault-clause-count g c plan centre clean holds there =
    let all = set_in (inside g.S.Store c.args.tx.now) in
    own_count c.args.channel all.tapes c.count_rows.result (count_of c.args.table (view_at c.args.channel all plan))
    (ap (λ t. count_of t (view_at c.args.channel all plan)) c.in-Vault.is)
    (c.count_rows.ensures.count centre clean (holds.rules.own c.args.channel plan (sym there)).numbers)

pub returns-in-Clips-clause-count : goal.returns-in-Clips-clause-count
returns-in-Clips-clause-count g c plan centre clean holds there =
    let all = set_in (inside g.S.Store c.args.tx.now) in
    own_count c.args.channel all.clips c.count_rows-in-Clips.result
    (count_of c.args.table (view_at c.args.channel all plan))
    (ap (λ t. count_of t (view_at c.args.channel all plan)) c.in-Clips.is)
    (c.count_rows-in-Clips.ensures.count centre clean
    (holds.rules.own c.args.channel plan (sym there)).clips.numbers)

pub returns-in-Offers-clause-count : goal.returns-in-Offers-clause-count
returns-in-Offers-clause-count g c plan centre clean holds there =
    let all = set_in (inside g.S.Store c.args.tx.now) in
    own_count c.args.channel all.offers c.count_rows-in-Offers.result
    (count_of c.args.table (view_at c.args.channel all plan))
    (ap (λ t. count_of t (view_at c.args.channel all plan)) c.in-Offers.is)
    (c.count_rows-in-Offers.ensures.count centre clean
    (holds.rules.own c.args.channel plan (sym there)).offers.numbers)
