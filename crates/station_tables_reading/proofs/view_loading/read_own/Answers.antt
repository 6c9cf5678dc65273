-- `read_own`: the own rows of a channel of the plan.
use Rattle.std.proofs.Common.{◌≡◌, ◌∙◌}
use Rattle.channel_view_model.specs.Tables.{rows_of}
use Rattle.station_tables_statements.proofs.LookLemmas.{looks_then, reads_then, reads_err, read_is_look, was_clean}
use Rattle.station_tables_statements.proofs.LookLemmas.{set_before}
use Rattle.station_tables_records.proofs.InsideLemmas.{reads_on, reads_failed}
use Rattle.station_tables_reading.proofs.view_loading.read_own.Goals as goal

pub returns-in-Ok-clause-reads : goal.returns-in-Ok-clause-reads
returns-in-Ok-clause-reads g c =
    reads_on g.S.Store _ _ _ _
    (reads_then g.S.Store _ _ _ _ _ c.in_ok-tapes.ensures.reads
    (reads_then g.S.Store _ _ _ _ _ c.in_ok-clips.ensures.reads c.in_ok-offers.ensures.reads))

pub returns-in-Err-clause-reads : goal.returns-in-Err-clause-reads
returns-in-Err-clause-reads g c =
    reads_err g.S.Store _ _ _ _
    (reads_then g.S.Store _ _ _ _ _ c.in_ok-tapes.ensures.reads
    (reads_then g.S.Store _ _ _ _ _ c.in_ok-clips.ensures.reads c.in_ok-offers.ensures.reads))

pub returns-in_err-offers-clause-reads : goal.returns-in_err-offers-clause-reads
returns-in_err-offers-clause-reads g c =
    reads_failed g.S.Store _ _ _ _ c.from_residual-in_err-offers.ensures.0
    (reads_then g.S.Store _ _ _ _ _ c.in_ok-tapes.ensures.reads
    (reads_then g.S.Store _ _ _ _ _ c.in_ok-clips.ensures.reads c.load_rows-3.ensures.reads))

pub returns-in-Ok-clause-own : goal.returns-in-Ok-clause-own
returns-in-Ok-clause-own g c centre clean =
    let s = g.S.Store in
    let plan = c.args.plan in
    let tapes_look = read_is_look s _ _ _ c.in_ok-tapes.ensures.reads in
    let clips_look = read_is_look s _ _ _ c.in_ok-clips.ensures.reads in
    let offers_look = read_is_look s _ _ _ c.in_ok-offers.ensures.reads in
    let clean_clipped = was_clean s _ _ _ offers_look clean in
    let clean_taped = was_clean s _ _ _ clips_look clean_clipped in
    let clipped = looks_then s _ _ _ _ _ tapes_look clips_look in
    let tapes = c.in_ok-tapes.ensures.rows centre clean_taped in
    let clips =
    set_before s _ _ _ _ _ tapes_look clips_look (λ set. c.in_ok-clips.clips.items ≡ rows_of plan.ch set.clips)
    c.in_ok-clips.ensures.rows centre clean_clipped in
    let offers =
    set_before s _ _ _ _ _ clipped offers_look (λ set. c.in_ok-offers.offers.items ≡ rows_of plan.ch set.offers)
    c.in_ok-offers.ensures.rows centre clean in
    c.in-Ok.ensures.rows ∙ (λ i. record { plan = plan; tapes = tapes i; clips = clips i; offers = offers i })
