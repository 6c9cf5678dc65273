-- `find_numbers`: how many rows there are, where that is asked, and the one with a number, where one is asked for.
use Rattle.std.specs.Option.{option_and_then}
use Rattle.std.specs.Prelude.{◌≡◌, ◌==◌}
use Rattle.channel_view_model.specs.Tables.{of_channel}
use Rattle.station_tables_statements.proofs.LookLemmas.{looks_then, looks_on, looks_err, was_clean, set_before}
use Rattle.station_tables_reading.proofs.own_fetching.find_numbers.Goals as goal

pub returns-in_err-with_number-clause-looks : goal.returns-in_err-with_number-clause-looks
returns-in_err-with_number-clause-looks g c =
    looks_err g.S.Store _ _ _ c.from_residual-in_err-with_number.result c.from_residual-in_err-with_number.ensures.0
    (looks_then g.S.Store _ _ _ _ _ c.in_ok-counted.ensures.looks c.in_err-with_number.ensures.looks)

pub returns-clause-looks : goal.returns-clause-looks
returns-clause-looks g c =
    looks_on g.S.Store _ _ _ _
    (looks_then g.S.Store _ _ _ _ _ c.in_ok-counted.ensures.looks c.in_ok-with_number.ensures.looks)

pub returns-clause-count : goal.returns-clause-count
returns-clause-count g c centre clean numbered =
    c.in_ok-counted.ensures.count centre (was_clean g.S.Store _ _ _ c.in_ok-with_number.ensures.looks clean) numbered

pub returns-clause-row : goal.returns-clause-row
returns-clause-row g c =
    set_before g.S.Store _ _ _ _ _ c.in_ok-counted.ensures.looks c.in_ok-with_number.ensures.looks
    (λ set. c.in_ok-with_number.with_number
    ≡ option_and_then
    (λ n. (of_channel c.args.channel (g.T.NumberedRow.rows_in set)).first (λ t. g.T.NumberedRow.number_of t == n))
    c.args.number)
    c.in_ok-with_number.ensures.row
