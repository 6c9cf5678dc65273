-- `source_found`: what a source names.
use Rattle.std.proofs.Common.{◌∙◌, [], ◌&&◌, refl, sym, ap, ap₂, subst}
use Rattle.std.specs.List.{cons_option}
use Rattle.std.proofs.lemmas.Result.{IfOk-weaker}
use Rattle.std.specs.Prelude.{◌==◌, find}
use Rattle.channel_view_model.specs.Tables.{rows_of}
use Rattle.channel_view_model.specs.Seen.{grants_to}
use Rattle.channel_view_model.specs.Need.{IsSourceAnswer}
use Rattle.channel_view_model.proofs.TableLemmas.{picked_is}
use Rattle.channel_view_model.proofs.SourceLemmas.{status_answer, lent_answer}
use Rattle.station_tables_records.specs.Inside.{inside}
use Rattle.station_tables_statements.specs.Calls.{set_in}
use Rattle.station_tables_reading.proofs.day_fetching.source_found.Goals as goal

pub returns-in-Own-clause-found : goal.returns-in-Own-clause-found
returns-in-Own-clause-found g c = λ centre clean.
    let rows = set_in (inside g.S.Store c.args.tx.now) in
    let clips = rows_of c.args.channel rows.clips in
    let grants = grants_to c.args.channel rows.offers in
    let first =
    ap (λ r. r.first (λ k. k.n == c.get.result)) (picked_is (λ r. r.0 == c.args.channel) (λ r. r.1) rows.clips)
    ∙ ap (λ n. find (λ k. k.n == n) clips) c.get.ensures in
    IfOk-weaker c.clip_source.result _ _
    (λ found is.
    subst (λ source. IsSourceAnswer source clips grants found.clips.items found.grants.items) (sym c.in-Own.is)
    (status_answer clips grants c.in-Own.number (find (λ k. k.n == c.in-Own.number) clips) found.clips.items
    found.grants.items refl (is.0 ∙ ap (λ o. cons_option o []) first) is.1))
    (c.clip_source.ensures.found centre clean)

pub returns-in-Lent-clause-found : goal.returns-in-Lent-clause-found
returns-in-Lent-clause-found g c = λ centre clean.
    let rows = set_in (inside g.S.Store c.args.tx.now) in
    let ch = c.args.channel in
    let clips = rows_of ch rows.clips in
    let grants = grants_to ch rows.offers in
    IfOk-weaker c.lent_source.result _ _
    (λ found is.
    subst (λ source. IsSourceAnswer source clips grants found.clips.items found.grants.items) (sym c.in-Lent.is)
    (lent_answer clips grants c.in-Lent.owner c.in-Lent.number
    (find (λ g. g.owner == c.in-Lent.owner && g.offer.n == c.in-Lent.number) grants) found.clips.items
    found.grants.items refl is.0
    (is.1
    ∙ ap₂ (λ owner n. cons_option (find (λ g. g.owner == owner && g.offer.n == n) grants) []) c.get-in-Lent.ensures
    c.get-in-Lent-2.ensures)))
    (c.lent_source.ensures.found centre clean)
