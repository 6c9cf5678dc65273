-- `read_lent`: the clips that are lent to the channel.
use Rattle.std.proofs.Common.{◌∙◌}
use Rattle.station_tables_reading.proofs.view_loading.read_lent.Goals as goal

pub returns-in-Ok-clause-lent : goal.returns-in-Ok-clause-lent
returns-in-Ok-clause-lent g c centre clean = c.in-Ok.ensures.rows ∙ c.in_ok-grants.ensures.grants centre clean
