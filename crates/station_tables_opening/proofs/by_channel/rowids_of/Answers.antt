-- `rowids_of`: the rowids of these rows.
use Rattle.std.proofs.Common.{rules}
use Rattle.station_tables_records.proofs.KeyLemmas.{zip_weaker, of_some}
use Rattle.station_tables_opening.proofs.by_channel.rowids_of.Goals as goal

pub returns-in-Ok-Some-clause-ids : goal.returns-in-Ok-Some-clause-ids
returns-in-Ok-Some-clause-ids c =
    zip_weaker c.args.shown.now c.in-Ok-Some.ids.items (of_some _ c.in-Ok-Some.ensures.each c.in-Ok-Some.field-0-is)
    (λ row id reads. search rules)
