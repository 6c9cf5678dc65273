-- `has_days`: whether a channel's days keep the rules.
use Rattle.std.proofs.Common.{◌∙◌, sym, ap, subst, filter}
use Rattle.std.specs.Prelude.{List, ◌==◌}
use Rattle.std.specs.List.Sorted.{IsNonDecreasingBy}
use Rattle.vault_core.specs.declared.clip.Clip.{Clip}
use Rattle.grant_core.specs.declared.grant.Grant.{Grant}
use Rattle.playlist_core.specs.Source.{RowsSeen, SourcesSeen, seen_of}
use Rattle.playlist_core.specs.Day.{Day}
use Rattle.channel_view_model.specs.Tables.{rows_alone, rows_of}
use Rattle.channel_view_model.specs.Rules.{are_days_of}
use Rattle.channel_view_model.proofs.DayWalkLemmas.{shown_by}
use Rattle.channel_view_rules.proofs.BisectLemmas.{rises}
use Rattle.channel_view_rules.proofs.day_rules.has_days.Goals as goal

pub channel_rows-days-requires : goal.channel_rows-days-requires
channel_rows-days-requires c =
    subst (IsNonDecreasingBy (λ r. r.0)) (sym (c.deref.ensures.value ∙ ap (λ r. r.days) c.rows.view_is))
    (rises c.args.rows.now.days c.requires.days)

pub channel_rows-requires : goal.channel_rows-requires
channel_rows-requires c =
    subst (IsNonDecreasingBy (λ r. r.0)) (sym (c.deref-2.ensures.value ∙ ap (λ r. r.clips) c.rows.view_is))
    (rises c.args.rows.now.clips c.requires.clips)

pub returns : goal.returns
returns c =
    let rows = c.args.rows.now in
    let plan = c.args.plan.now in
    let days =
    ap rows_alone
    (c.channel_rows-days.ensures
    ∙ ap (filter (λ r. r.0 == plan.ch)) (c.deref.ensures.value ∙ ap (λ r. r.days) c.rows.view_is)) in
    let clips =
    c.deref-3.ensures.value ∙ c.in_ok-clips.ensures
    ∙ ap rows_alone
    (c.channel_rows.ensures
    ∙ ap (filter (λ r. r.0 == plan.ch)) (c.deref-2.ensures.value ∙ ap (λ r. r.clips) c.rows.view_is)) in
    let lent = c.channel_rows-2.ensures ∙ c.requires.lent plan.ch in
    c.are_days_of.ensures
    ∙ ap (λ (ds : List Day). are_days_of plan (seen_of c.of-sources.result.clips c.of-sources.result.grants) 0 ds) days
    ∙ ap (λ (r : RowsSeen). are_days_of plan (seen_of r.clips r.grants) 0 (rows_of plan.ch rows.days))
    c.of-sources.ensures
    ∙ ap
    (λ (ks : List Clip). are_days_of plan (seen_of ks c.channel_rows-2.result.now) 0 (rows_of plan.ch rows.days)) clips
    ∙ ap
    (λ (gs : List Grant). are_days_of plan (seen_of (rows_of plan.ch rows.clips) gs) 0 (rows_of plan.ch rows.days)) lent
    ∙ ap (λ (s : SourcesSeen). are_days_of plan s 0 (rows_of plan.ch rows.days)) (shown_by plan.ch plan rows)
