-- `clip_with`: the channel's clip with a UMID, where one is asked for.
use Rattle.std.proofs.Common.{[], ◌∷◌, sym, ap, ◌∙◌}
use Rattle.std.specs.Option.{option_and_then}
use Rattle.vault_core.specs.Clip.{has_umid}
use Rattle.channel_view_model.specs.Tables.{of_channel}
use Rattle.sqlite_value.specs.declared.value.Value.TheVariants.{Blob as Bytes}
use Rattle.station_tables_records.specs.Values.{of_nat}
use Rattle.station_tables_statements.proofs.AskedLemmas.{found_part}
use Rattle.station_tables_statements.proofs.ClipLemmas.{shows_clip_with}
use Rattle.station_tables_records.proofs.TextLemmas.{clip_texts}
use Rattle.station_tables_records.specs.ClipRows.{is_clip_with}
use Rattle.station_tables_records.specs.Inside.{inside}
use Rattle.station_tables_statements.proofs.FoundLemmas.{first_alone_is}
use Rattle.station_tables_statements.specs.Calls.{set_in}
use Rattle.station_tables_statements.proofs.clips.clip_with.Goals as goal

pub find_rows-requires : goal.find_rows-requires
find_rows-requires g c = record { reading = clip_texts.with_umid.reads }

pub returns-clause-clip : goal.returns-clause-clip
returns-clause-clip g c centre clean =
    let found = c.in_ok-clips.ensures in
    let asked = c.of_bytes.ensures ∙ ap (λ bytes. of_nat c.args.channel ∷ Bytes bytes ∷ []) c.to_bytes-bytes.ensures in
    let list =
    found_part g.S.Store _ _ found.reads clean (found.rows clean) asked (is_clip_with c.args.channel c.in-Some.umid)
    (λ early held. let is = centre early held in
    shows_clip_with _ _ is.schema is.clips c.args.channel c.in-Some.umid) in
    first_alone_is (is_clip_with c.args.channel c.in-Some.umid) (set_in (inside g.S.Store c.args.tx.now)).clips
    c.deref.result.now c.first_alone.result c.first_alone.ensures (c.deref.ensures.value ∙ list)
    ∙ sym
    (ap
    (option_and_then
    (λ umid. (of_channel c.args.channel (set_in (inside g.S.Store c.args.tx.now)).clips).first (has_umid umid)))
    c.in-Some.is)
