-- `sources_named`: what sources name, or all.
use Rattle.std.proofs.lemmas.Result.{IfOk-weaker}
use Rattle.channel_view_model.specs.Tables.{rows_of}
use Rattle.channel_view_model.specs.Seen.{grants_to}
use Rattle.channel_view_model.proofs.NamedLemmas.{all_alike}
use Rattle.station_tables_records.specs.Inside.{inside}
use Rattle.station_tables_statements.specs.Calls.{set_in}
use Rattle.station_tables_reading.proofs.day_fetching.sources_named.Goals as goal

pub returns-then-sources-gt-FEW_SOURCES-clause-found : goal.returns-then-sources-gt-FEW_SOURCES-clause-found
returns-then-sources-gt-FEW_SOURCES-clause-found g c = λ centre clean.
    let set = set_in (inside g.S.Store c.args.tx.now) in
    IfOk-weaker c.all_sources.result _ _
    (λ found are.
    all_alike c.args.sources.now (rows_of c.args.channel set.clips) found.clips.items
    (grants_to c.args.channel set.offers) found.grants.items are.0 are.1) (c.all_sources.ensures.found centre clean)
