-- `read_view`: what the channel sees, or `None` where it isn't in the plan.
use Rattle.std.proofs.Common.{◌≡◌, Some, sym, ap, ◌∙◌, subst}
use Rattle.std.specs.Option.{option_map}
use Rattle.channel_view_model.specs.Tables.{rows_of}
use Rattle.channel_view_model.specs.Seen.{grants_to}
use Rattle.channel_view_model.specs.Centre.{own_of, plan_of, view_at, view_of}
use Rattle.channel_view_model.specs.Rules.{KeepsRules}
use Rattle.channel_view_model.proofs.ViewLemmas.{found_channel}
use Rattle.station_tables_records.specs.Inside.{inside}
use Rattle.station_tables_statements.specs.Calls.{set_in}
use Rattle.station_tables_statements.proofs.LookLemmas.{looks_then, reads_then, read_is_look, was_clean, set_before}
use Rattle.station_tables_records.proofs.InsideLemmas.{reads_on, reads_failed}
use Rattle.station_tables_reading.proofs.view_loading.read_view.Goals as goal

pub returns-in_default-clause-view : goal.returns-in_default-clause-view
unfolding view_of
returns-in_default-clause-view g c centre clean rules known =
    let rows = set_in (inside g.S.Store c.args.tx.now) in
    ap (option_map (view_at c.args.channel rows)) (sym (known ∙ c.in_default.is))

pub returns-clause-reads : goal.returns-clause-reads
returns-clause-reads g c =
    reads_on g.S.Store _ _ _ _
    (reads_then g.S.Store _ _ _ _ _ c.in_ok-test_open.ensures.reads
    (reads_then g.S.Store _ _ _ _ _ c.in_ok-own.ensures.reads
    (reads_then g.S.Store _ _ _ _ _ c.in_ok-lent.ensures.reads
    (reads_then g.S.Store _ _ _ _ _ c.in_ok-days.ensures.reads c.in_ok-aired.ensures.reads))))

pub returns-clause-view : goal.returns-clause-view
unfolding view_of
returns-clause-view g c centre clean rules known =
    let s = g.S.Store in
    let rows = set_in (inside s c.args.tx.now) in
    let ch = c.args.channel in
    let plan = c.in-Some.plan in
    let opened = read_is_look s _ _ _ c.in_ok-test_open.ensures.reads in
    let own_look = read_is_look s _ _ _ c.in_ok-own.ensures.reads in
    let lent_look = read_is_look s _ _ _ c.in_ok-lent.ensures.reads in
    let days_look = read_is_look s _ _ _ c.in_ok-days.ensures.reads in
    let aired_look = read_is_look s _ _ _ c.in_ok-aired.ensures.reads in
    let clean_days = was_clean s _ _ _ aired_look clean in
    let clean_lent = was_clean s _ _ _ days_look clean_days in
    let clean_own = was_clean s _ _ _ lent_look clean_lent in
    let owned = looks_then s _ _ _ _ _ opened own_look in
    let lent_read = looks_then s _ _ _ _ _ owned lent_look in
    let days_read = looks_then s _ _ _ _ _ lent_read days_look in
    let planned_is : plan_of ch rows ≡ Some plan = known ∙ c.in-Some.is in
    let mine : plan.ch ≡ ch = found_channel ch rows.channels plan planned_is in
    let there : plan_of plan.ch rows ≡ Some plan = subst (λ k. plan_of k rows ≡ Some plan) (sym mine) planned_is in
    let own =
    set_before s _ _ _ _ _ opened own_look (λ set. c.in_ok-own.own ≡ own_of plan.ch plan set)
    c.in_ok-own.ensures.own centre clean_own ∙ ap (λ k. own_of k plan rows) mine in
    let lent =
    set_before s _ _ _ _ _ owned lent_look (λ set. c.in_ok-lent.lent ≡ grants_to ch set.offers)
    c.in_ok-lent.ensures.lent centre clean_lent in
    let days =
    set_before s _ _ _ _ _ lent_read days_look
    (λ set. KeepsRules set → plan_of plan.ch set ≡ Some plan → c.in_ok-days.days ≡ rows_of plan.ch set.days)
    c.in_ok-days.ensures.days centre clean_days rules there ∙ ap (λ k. rows_of k rows.days) mine in
    let aired =
    set_before s _ _ _ _ _ days_read aired_look
    (λ set. plan_of plan.ch set ≡ Some plan → c.in_ok-aired.aired ≡ rows_of plan.ch set.aired)
    c.in_ok-aired.ensures.airings centre clean there ∙ ap (λ k. rows_of k rows.aired) mine in
    ap (λ v. Some v) (λ i. record { own = own i; days = days i; aired = aired i; lent = lent i })
    ∙ ap (option_map (view_at ch rows)) (sym planned_is)

pub returns-in_err-days-clause-reads : goal.returns-in_err-days-clause-reads
returns-in_err-days-clause-reads g c =
    reads_failed g.S.Store _ _ _ _ c.from_residual-in_err-days.ensures.0
    (reads_then g.S.Store _ _ _ _ _ c.in_ok-test_open.ensures.reads
    (reads_then g.S.Store _ _ _ _ _ c.in_ok-own.ensures.reads
    (reads_then g.S.Store _ _ _ _ _ c.in_ok-lent.ensures.reads c.load_all_days.ensures.reads)))

pub returns-in_err-aired-clause-reads : goal.returns-in_err-aired-clause-reads
returns-in_err-aired-clause-reads g c =
    reads_failed g.S.Store _ _ _ _ c.from_residual-in_err-aired.ensures.0
    (reads_then g.S.Store _ _ _ _ _ c.in_ok-test_open.ensures.reads
    (reads_then g.S.Store _ _ _ _ _ c.in_ok-own.ensures.reads
    (reads_then g.S.Store _ _ _ _ _ c.in_ok-lent.ensures.reads
    (reads_then g.S.Store _ _ _ _ _ c.in_ok-days.ensures.reads c.load_all_airings.ensures.reads))))
