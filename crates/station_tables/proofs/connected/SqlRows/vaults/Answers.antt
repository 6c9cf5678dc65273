-- `SqlRows::vaults`: the vaults of all channels, by the plan that is kept.
use Rattle.std.proofs.Common.{◌∙◌, sym}
use Rattle.station_tables.proofs.connected.SqlRows.vaults.Goals as goal

pub returns-clause-vaults : goal.returns-clause-vaults
returns-clause-vaults g c clean rows stands =
    c.load_vaults.ensures.vaults clean rows stands.0 (stands.1 ∙ sym c.deref.ensures.value)

-- and keeps it
pub returns-clause-same : goal.returns-clause-same
returns-clause-same g c clean rows stands = (c.load_vaults.ensures.same clean rows stands.0, stands.1)
