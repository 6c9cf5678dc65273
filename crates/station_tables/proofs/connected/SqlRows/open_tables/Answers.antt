-- `SqlRows::open_tables`: opens the tables of a centre, and tests all their rows.
use Rattle.std.proofs.Common.{sym, subst}
use Rattle.channel_plan.specs.declared.refusal.Refusal.{Refusal}
use Rattle.sqlite.specs.Held.{state}
use Rattle.station_tables_opening.specs.Opens.{RefusesToOpen}
use Rattle.station_tables.proofs.connected.SqlRows.open_tables.Goals as goal

pub returns-in-Err-clause-refused : goal.returns-in-Err-clause-refused
returns-in-Err-clause-refused g c =
    subst (λ (e : Refusal). RefusesToOpen (state g.S.Store c.args.conn) (state g.S.Store c.open_centre.new.conn) e)
    (sym c.of.ensures) c.in-Err.ensures.refused
