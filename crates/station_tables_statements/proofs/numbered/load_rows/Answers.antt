-- `load_rows`: the channel's rows, by number.
use Rattle.std.proofs.Common.{map, ap, ◌∙◌}
use Rattle.std.proofs.lemmas.Result.{IfOk-weaker}
use Rattle.station_tables_statements.proofs.numbered.load_rows.Goals as goal

pub returns-clause-rows : goal.returns-clause-rows
returns-clause-rows g c centre clean =
    IfOk-weaker c.without_channels.result _ _
    (λ own is. is ∙ ap (map (λ r. r.1)) (c.deref.ensures.value ∙ c.in_ok-rows.ensures.rows centre clean))
    c.without_channels.ensures
