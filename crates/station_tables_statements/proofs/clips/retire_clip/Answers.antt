-- `retire_clip`: retires a channel's clip with this number.
use Rattle.std.proofs.Common.{[], ◌∷◌, subst}
use Rattle.station_tables_records.proofs.InsideLemmas.{Executed, writes_inside, made_inside}
use Rattle.station_tables_records.specs.Values.{of_nat}
use Rattle.station_tables_records.proofs.Texts.{retire_clip_text}
use Rattle.station_tables_statements.proofs.StatementLemmas.{sets_retired}
use Rattle.station_tables_statements.proofs.clips.retire_clip.Goals as goal

pub returns : goal.returns
returns g c =
    let call : Executed g.S.Store c.args.tx.now c.execute.new.self retire_clip_text
    (of_nat c.args.channel ∷ of_nat c.args.clip ∷ []) c.execute.result =
    subst (λ params. Executed g.S.Store c.args.tx.now c.execute.new.self retire_clip_text params c.execute.result)
    c.of_number.ensures
    (record {
      same_reference = c.execute.ensures.same_reference;
      ended = c.execute.ensures.ended;
      runs =
          c.execute.ensures.runs;
      survives = c.execute.ensures.survives;
    }) in record {
      writes = writes_inside _ _ _ _ _ call;
      makes =
          λ centre clean. made_inside _ _ _ _ _ call clean
          (λ early held count ran. sets_retired _ _ (centre early held) c.args.channel c.args.clip count ran);
    }
