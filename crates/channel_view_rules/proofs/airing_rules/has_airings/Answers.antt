-- `has_airings`: whether what was aired of a channel's days keeps the rules.
use Rattle.std.proofs.Common.{◌≡◌, ◌∙◌, true, sym, ap, subst, arith}
use Rattle.std.specs.Prelude.{◌==◌, filter}
use Rattle.std.specs.List.Sorted.{IsNonDecreasingBy}
use Rattle.channel_view_model.specs.Tables.{is_in_order, rows_alone, rows_of}
use Rattle.channel_view_model.specs.Seen.{sources_seen}
use Rattle.channel_view_model.specs.Centre.{seen_by}
use Rattle.channel_view_model.specs.Rules.{are_airings_of, numbers_rise}
use Rattle.channel_view_rules.proofs.BisectLemmas.{rises}
use Rattle.channel_view_model.proofs.AiringRuleLemmas.{numbers_of}
use Rattle.channel_view_rules.proofs.airing_rules.has_airings.Goals as goal

pub channel_rows-days-requires : goal.channel_rows-days-requires
channel_rows-days-requires c =
    let table = c.requires.days.table in
    let order : is_in_order c.args.rows.now.days ≡ true = grind (arith, table) in
    subst (IsNonDecreasingBy (λ r. r.0)) (sym (c.deref.ensures.value ∙ ap (λ r. r.days) c.rows.view_is))
    (rises c.args.rows.now.days order)

pub channel_rows-airings-requires : goal.channel_rows-airings-requires
channel_rows-airings-requires c =
    subst (IsNonDecreasingBy (λ r. r.0)) (sym (c.deref-2.ensures.value ∙ ap (λ r. r.aired) c.rows.view_is))
    (rises c.args.rows.now.aired c.requires.table)

pub are_airings_of-requires : goal.are_airings_of-requires
are_airings_of-requires c =
    let rows = c.args.rows.now in
    let plan = c.args.plan.now in
    let days =
    ap rows_alone
    (c.channel_rows-days.ensures
    ∙ ap (filter (λ r. r.0 == plan.ch)) (c.deref.ensures.value ∙ ap (λ r. r.days) c.rows.view_is)) in
    ap (numbers_rise 0) days
    ∙ numbers_of plan (sources_seen (seen_by plan.ch plan rows)) 0 (rows_of plan.ch rows.days)
    (c.requires.days.seen plan.ch plan c.requires.planned)

pub returns : goal.returns
returns c =
    let rows = c.args.rows.now in
    let plan = c.args.plan.now in
    let days =
    ap rows_alone
    (c.channel_rows-days.ensures
    ∙ ap (filter (λ r. r.0 == plan.ch)) (c.deref.ensures.value ∙ ap (λ r. r.days) c.rows.view_is)) in
    let aired =
    ap rows_alone
    (c.channel_rows-airings.ensures
    ∙ ap (filter (λ r. r.0 == plan.ch)) (c.deref-2.ensures.value ∙ ap (λ r. r.aired) c.rows.view_is)) in
    c.are_airings_of.ensures
    ∙ ap (λ ds. are_airings_of plan ds 0 (rows_alone c.channel_rows-airings.result.now)) days
    ∙ ap (are_airings_of plan (rows_of plan.ch rows.days) 0) aired
