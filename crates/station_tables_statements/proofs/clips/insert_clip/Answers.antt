-- `insert_clip`: adds a clip of this channel, 1 to 999, whose number is new in it.
use Rattle.std.proofs.Common.{subst}
use Rattle.station_tables_records.proofs.InsideLemmas.{Executed, writes_inside, made_inside}
use Rattle.station_tables_records.proofs.Texts.{insert_clip_text}
use Rattle.station_tables_records.specs.ClipRows.{clip_row}
use Rattle.station_tables_statements.proofs.StatementLemmas.{inserts_clip}
use Rattle.station_tables_statements.proofs.clips.insert_clip.Goals as goal

pub returns : goal.returns
returns g c =
    let call : Executed g.S.Store c.args.tx.now c.execute.new.self insert_clip_text
    (clip_row (c.args.channel, c.args.clip.now)) c.execute.result =
    subst (λ params. Executed g.S.Store c.args.tx.now c.execute.new.self insert_clip_text params c.execute.result)
    (c.clip_values.ensures c.to_bytes-umid.ensures)
    (record {
      same_reference = c.execute.ensures.same_reference;
      ended = c.execute.ensures.ended;
      runs =
          c.execute.ensures.runs;
      survives = c.execute.ensures.survives;
    }) in record {
      writes = writes_inside _ _ _ _ _ call;
      makes =
          λ fresh centre clean. made_inside _ _ _ _ _ call clean
          (λ early held count ran. inserts_clip _ _ (centre early held) (c.args.channel, c.args.clip.now) count
          (fresh early held) ran);
    }
