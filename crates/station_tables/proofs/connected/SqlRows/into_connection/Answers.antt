-- `SqlRows::into_connection`: the database, with no transaction open.
use Rattle.std.proofs.Common.{refl}
use Rattle.station_tables.proofs.connected.SqlRows.into_connection.Goals as goal

pub returns-clause-same : goal.returns-clause-same
returns-clause-same g c = refl

pub returns-clause-idle : goal.returns-clause-idle
returns-clause-idle g c = c.args.self.idle
