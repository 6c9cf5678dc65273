-- `find_offers`: the rows and counts of the channel's offers that answer what is asked.
use Rattle.std.specs.Option.{option_and_then}
use Rattle.std.specs.Prelude.{◌≡◌}
use Rattle.vault_core.specs.Offer.{is_open_to}
use Rattle.channel_view_model.specs.Tables.{of_channel}
use Rattle.station_tables_statements.proofs.LookLemmas.{looks_then, looks_on, looks_err, was_clean, set_before}
use Rattle.station_tables_reading.proofs.own_fetching.find_offers.Goals as goal

pub returns-in_err-open_to-clause-looks : goal.returns-in_err-open_to-clause-looks
returns-in_err-open_to-clause-looks g c =
    looks_err g.S.Store _ _ _ c.from_residual-in_err-open_to.result c.from_residual-in_err-open_to.ensures.0
    (looks_then g.S.Store _ _ _ _ _ c.in_ok-count.ensures.looks c.in_err-open_to.ensures.looks)

pub returns-clause-looks : goal.returns-clause-looks
returns-clause-looks g c =
    looks_on g.S.Store _ _ _ _
    (looks_then g.S.Store _ _ _ _ _ c.in_ok-count.ensures.looks c.in_ok-open_to.ensures.looks)

pub returns-clause-found : goal.returns-clause-found
returns-clause-found g c centre clean numbered =
    let clean1 = was_clean g.S.Store _ _ _ c.in_ok-open_to.ensures.looks clean in
    record {
      count = c.in_ok-count.ensures.count centre clean1 numbered;
      with_number = c.in_ok-count.ensures.row centre clean1;
      open_to =
          set_before g.S.Store _ _ _ _ _ c.in_ok-count.ensures.looks c.in_ok-open_to.ensures.looks
          (λ set. c.in_ok-open_to.open_to
          ≡ option_and_then (λ it. (of_channel c.args.channel set.offers).first (is_open_to it.clip it.grantee))
          c.args.asked.now.open_to) c.in_ok-open_to.ensures.offer centre clean;
    }
