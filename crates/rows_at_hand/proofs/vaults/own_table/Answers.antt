-- `own_table`: the rows of one channel again.
use Rattle.channel_view_rules.proofs.BisectLemmas.{rises}
use Rattle.rows_at_hand.proofs.vaults.own_table.Goals as goal

pub channel_rows-requires : goal.channel_rows-requires
channel_rows-requires g c = rises c.args.table.now c.requires
