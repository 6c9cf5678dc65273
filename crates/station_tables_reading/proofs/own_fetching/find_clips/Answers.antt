-- `find_clips`: the rows and counts of the channel's clips that answer what is asked.
use Rattle.std.specs.Option.{option_and_then}
use Rattle.std.specs.Prelude.{◌≡◌}
use Rattle.vault_core.specs.Clip.{has_umid}
use Rattle.channel_view_model.specs.Tables.{of_channel}
use Rattle.station_tables_statements.proofs.LookLemmas.{looks_then, looks_on, looks_err, was_clean, set_before}
use Rattle.station_tables_reading.proofs.own_fetching.find_clips.Goals as goal

pub returns-in_err-with_umid-clause-looks : goal.returns-in_err-with_umid-clause-looks
returns-in_err-with_umid-clause-looks g c =
    looks_err g.S.Store _ _ _ c.from_residual-in_err-with_umid.result c.from_residual-in_err-with_umid.ensures.0
    (looks_then g.S.Store _ _ _ _ _ c.in_ok-count.ensures.looks c.in_err-with_umid.ensures.looks)

pub returns-clause-looks : goal.returns-clause-looks
returns-clause-looks g c =
    looks_on g.S.Store _ _ _ _
    (looks_then g.S.Store _ _ _ _ _ c.in_ok-count.ensures.looks c.in_ok-with_umid.ensures.looks)

pub returns-clause-found : goal.returns-clause-found
returns-clause-found g c centre clean numbered =
    let clean1 = was_clean g.S.Store _ _ _ c.in_ok-with_umid.ensures.looks clean in
    record {
      count = c.in_ok-count.ensures.count centre clean1 numbered;
      with_number = c.in_ok-count.ensures.row centre clean1;
      with_umid =
          set_before g.S.Store _ _ _ _ _ c.in_ok-count.ensures.looks c.in_ok-with_umid.ensures.looks
          (λ set. c.in_ok-with_umid.with_umid
          ≡ option_and_then (λ umid. (of_channel c.args.channel set.clips).first (has_umid umid)) c.args.asked.now.umid)
          c.in_ok-with_umid.ensures.clip centre clean;
    }
