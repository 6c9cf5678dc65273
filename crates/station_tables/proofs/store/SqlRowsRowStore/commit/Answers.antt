-- `SqlRows::commit`: a change, which leaves the plan that is kept.
use Rattle.std.proofs.Common.{◌∙◌}
use Rattle.station_tables_statements.proofs.StandLemmas.{on_ok_so}
use Rattle.station_tables.proofs.KeptLemmas.{channels-changed, on_err_so}
use Rattle.station_tables.proofs.store.SqlRowsRowStore.commit.Goals as goal

pub returns-clause-ok : goal.returns-clause-ok
returns-clause-ok g c clean rows stands change =
    on_ok_so c.commit_change.result (c.commit_change.ensures.ok clean rows stands.0 change)
    (λ now. (now, channels-changed c.args.channel c.args.change.now rows ∙ stands.1))

pub returns-clause-err : goal.returns-clause-err
returns-clause-err g c clean rows stands =
    on_err_so c.commit_change.result (c.commit_change.ensures.err clean rows stands.0) (λ now. (now, stands.1))

pub returns-clause-stop : goal.returns-clause-stop
returns-clause-stop g c clean rows stands = c.commit_change.ensures.stop clean rows stands.0

pub returns-clause-sets : goal.returns-clause-sets
returns-clause-sets g c clean rows stands = c.commit_change.ensures.sets rows stands.0
