-- `each_named`: what each source names, one after another.
use Rattle.std.proofs.Common.{◌∙◌, ap, arith}
use Rattle.std.proofs.lemmas.List.{take_all}
use Rattle.channel_view_model.specs.Tables.{rows_of}
use Rattle.channel_view_model.specs.Seen.{grants_to}
use Rattle.channel_view_model.specs.Need.{IsSourceAnswer}
use Rattle.channel_view_model.proofs.NamedLemmas.{clips_more, grants_more, clips_named, grants_named, named_alike}
use Rattle.station_tables_records.specs.Inside.{inside}
use Rattle.station_tables_statements.specs.Calls.{set_in}
use Rattle.station_tables_statements.proofs.LookLemmas.{looks_on, looks_then, set_before, was_clean}
use Rattle.station_tables_reading.proofs.day_fetching.each_named.Goals as goal

pub loop-source-preserved : goal.loop-source-preserved
loop-source-preserved g c =
    let s = g.S.Store in
    let set = set_in (inside s c.args.tx.now) in
    let clips = rows_of c.args.channel set.clips in
    let grants = grants_to c.args.channel set.offers in
    let look = c.in_ok-named.ensures.looks in
    let before = c.loop-source.invariant in
    let named =
    set_before s _ _ _ _ _ before.looks look
    (λ rows. IsSourceAnswer c.source-item.result (rows_of c.args.channel rows.clips)
    (grants_to c.args.channel rows.offers) c.in_ok-named.named.clips.items c.in_ok-named.named.grants.items)
    c.in_ok-named.ensures.found in
    record {
      looks = looks_on s _ _ _ _ (looks_then s _ _ _ _ _ before.looks look);
      clips = λ centre clean. c.in_ok-extend_from_slice.ensures.items
          ∙ clips_more clips grants c.args.sources.now c.loop-source.source-index c.source-item.result _ _ (omega arith)
          c.source-item.is (before.clips centre (was_clean s _ _ _ look clean))
          (c.deref.ensures.value ∙ (named centre clean).0);
      grants = λ centre clean. c.in_ok-extend_from_slice-2.ensures.items
          ∙ grants_more clips grants c.args.sources.now c.loop-source.source-index c.source-item.result _ _
          (omega arith)
          c.source-item.is (before.grants centre (was_clean s _ _ _ look clean))
          (c.deref-in-loop-source.ensures.value ∙ (named centre clean).1);
    }

pub returns-clause-found : goal.returns-clause-found
returns-clause-found g c = λ centre clean.
    let set = set_in (inside g.S.Store c.args.tx.now) in
    let clips = rows_of c.args.channel set.clips in
    let grants = grants_to c.args.channel set.offers in
    let before = c.loop-source.invariant in
    let whole = take_all c.loop-source.source-index c.args.sources.now (omega arith) in
    named_alike clips grants c.args.sources.now c.loop-source.found.clips.items c.loop-source.found.grants.items
    (before.clips centre clean ∙ ap (clips_named clips grants) whole)
    (before.grants centre clean ∙ ap (grants_named clips grants) whole)
