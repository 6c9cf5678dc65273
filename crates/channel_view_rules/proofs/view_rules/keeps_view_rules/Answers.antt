-- `keeps_view_rules`: whether the channel's days have rising numbers and show what is there.
use Rattle.std.proofs.Common.{◌≡◌, Bool, List, map, true, false, true≢false, sym, ap, ap₂, ◌∙◌}
use Rattle.std.proofs.lemmas.List.{map-id}
use Rattle.channel_plan.specs.declared.plan.PlanRow.{PlanRow}
use Rattle.playlist_core.specs.Day.{Day}
use Rattle.vault_core.specs.declared.clip.Clip.{Clip}
use Rattle.grant_core.specs.declared.grant.Grant.{Grant}
use Rattle.playlist_core.specs.Source.{RowsSeen, SourcesSeen, seen_of}
use Rattle.channel_view_model.specs.Seen.{seen_in, sources_seen}
use Rattle.channel_view_model.specs.Rules.{are_days_of, are_airings_of}
use Rattle.channel_view_model.proofs.AiringRuleLemmas.{numbers_of}
use Rattle.channel_view_rules.proofs.view_rules.keeps_view_rules.Goals as goal

-- days without a channel are themselves
days_are : {b : Bool} (plan : PlanRow) (seen : SourcesSeen) (ds : List Day)
    → b ≡ are_days_of plan seen 0 (map (λ d. d) ds) → b ≡ are_days_of plan seen 0 ds
days_are plan seen ds is = is ∙ ap (are_days_of plan seen 0) (map-id ds)

pub are_airings_of-requires : goal.are_airings_of-requires
are_airings_of-requires c =
    numbers_of c.plan-plan.result (seen_of c.of-sources.result.clips c.of-sources.result.grants) 0
    c.as_slice-days.result.now (sym (days_are c.plan-plan.result _ c.as_slice-days.result.now c.are_days_of.ensures)
    ∙ c.if-are_days_of.true)

-- the rows that sources name are the view's
seen_rows : (rows : RowsSeen) (cs ks : List Clip) (hs gs : List Grant) → rows ≡ record { clips = cs; grants = hs }
    → cs ≡ ks → hs ≡ gs → seen_of rows.clips rows.grants ≡ seen_of ks gs
seen_rows rows cs ks hs gs made own lent =
    ap (λ (r : RowsSeen). seen_of r.clips r.grants) made ∙ ap (λ (xs : List Clip). seen_of xs hs) own
    ∙ ap (λ (xs : List Grant). seen_of ks xs) lent

pub returns-then-are_days_of : goal.returns-then-are_days_of
returns-then-are_days_of c =
    let view = c.args.view.now in
    let seen = sources_seen (seen_in view) in
    let days : are_days_of view.own.plan seen 0 view.days ≡ true =
    sym (ap₂ (λ p ds. are_days_of p seen 0 ds) c.plan-plan.ensures c.as_slice-days.ensures)
    ∙ ap (λ s. are_days_of c.plan-plan.result s 0 c.as_slice-days.result.now)
    (sym
    (seen_rows c.of-sources.result c.clips.result.now view.own.clips c.grants.result.now view.lent c.of-sources.ensures
    c.clips.ensures c.grants.ensures))
    ∙ sym (days_are c.plan-plan.result _ c.as_slice-days.result.now c.are_days_of.ensures) ∙ c.if-are_days_of.true in
    let aired : c.are_airings_of.result ≡ are_airings_of view.own.plan view.days 0 view.aired =
    c.are_airings_of.ensures
    ∙ ap₂ (λ p ds. are_airings_of p ds 0 c.as_slice.result.now) c.plan-plan.ensures c.as_slice-days.ensures
    ∙ ap (are_airings_of view.own.plan view.days 0) c.as_slice.ensures in
    (λ kept. record { days = days; aired = sym aired ∙ kept }, λ keeps. aired ∙ keeps.aired)

pub returns-else-are_days_of : goal.returns-else-are_days_of
returns-else-are_days_of c =
    let view = c.args.view.now in
    let seen = sources_seen (seen_in view) in
    let days : are_days_of view.own.plan seen 0 view.days ≡ false =
    sym (ap₂ (λ p ds. are_days_of p seen 0 ds) c.plan-plan.ensures c.as_slice-days.ensures)
    ∙ ap (λ s. are_days_of c.plan-plan.result s 0 c.as_slice-days.result.now)
    (sym
    (seen_rows c.of-sources.result c.clips.result.now view.own.clips c.grants.result.now view.lent c.of-sources.ensures
    c.clips.ensures c.grants.ensures))
    ∙ sym (days_are c.plan-plan.result _ c.as_slice-days.result.now c.are_days_of.ensures) ∙ c.if-are_days_of.false in (
      λ kept. absurd (true≢false (sym kept ∙ c.if-are_days_of.false)),
      λ keeps. absurd
          (true≢false (sym keeps.days ∙ days)),
    )
