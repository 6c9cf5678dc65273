-- `write_page`: writes the lines of one page, and counts those of its tapes that stand in a slot.
use Rattle.std.proofs.Common.{◌≡◌, List, Ok, length, sym, ap, ◌∙◌, subst}
use Rattle.vault_core.specs.declared.tape.Tape.{Tape}
use Rattle.vault_core.specs.Rules.{slots_of}
use Rattle.report_texts.specs.Vault.{tape_line}
use Rattle.report_texts.specs.Clips.{clip_line}
use Rattle.report_texts.specs.Offers.{offer_line}
use Rattle.channel_view_model.specs.Centre.{view_at}
use Rattle.channel_view_model.specs.Tables.{rows_of}
use Rattle.station_tables_records.specs.Inside.{inside}
use Rattle.station_tables_statements.specs.Calls.{set_in}
use Rattle.station_tables_statements.specs.Numbered.{page_of}
use Rattle.station_tables_reading.specs.Lines.{lines_of, shelved_of}
use Rattle.station_tables_reading.proofs.PageTextLemmas.{begun, page_said}
use Rattle.station_tables_reading.proofs.entries.write_page.Goals as goal

pub returns-in_err-write_tapes-in-Vault-clause-written : goal.returns-in_err-write_tapes-in-Vault-clause-written
returns-in_err-write_tapes-in-Vault-clause-written g c centre clean holds there =
    let view = view_at c.args.channel (set_in (inside g.S.Store c.args.tx.now)) c.args.plan.now in
    page_said c.args.table view tape_line view.own.tapes (ap (λ t. lines_of t view) c.in-Vault.is) c.args.page
    c.deref.result.now
    (c.deref.ensures.value
    ∙ c.in_ok-tapes-in-Vault.ensures.rows centre clean
    (holds.rules.own c.args.channel c.args.plan.now (sym there)).numbers) _ _
    c.from_residual-in_err-write_tapes-in-Vault.result
    (begun c.from_residual-in_err-write_tapes-in-Vault.result _ _ _
    c.from_residual-in_err-write_tapes-in-Vault.ensures.0 c.in_err-write_tapes-in-Vault.ensures.err)

pub returns-in_ok-write_tapes-in-Vault-clause-written : goal.returns-in_ok-write_tapes-in-Vault-clause-written
returns-in_ok-write_tapes-in-Vault-clause-written g c centre clean holds there =
    let view = view_at c.args.channel (set_in (inside g.S.Store c.args.tx.now)) c.args.plan.now in
    page_said {X = Unit {0}} {E = Unit {0}} c.args.table view tape_line view.own.tapes
    (ap (λ t. lines_of t view) c.in-Vault.is) c.args.page c.deref.result.now
    (c.deref.ensures.value
    ∙ c.in_ok-tapes-in-Vault.ensures.rows centre clean
    (holds.rules.own c.args.channel c.args.plan.now (sym there)).numbers) _ _ (Ok tt)
    c.in_ok-write_tapes-in-Vault.ensures.ok

pub returns-in_err-write_clip_lines-in-Clips-clause-written : goal.returns-in_err-write_clip_lines-in-Clips-clause-written
returns-in_err-write_clip_lines-in-Clips-clause-written g c centre clean holds there =
    let view = view_at c.args.channel (set_in (inside g.S.Store c.args.tx.now)) c.args.plan.now in
    page_said c.args.table view (clip_line c.args.plan.now.rate) view.own.clips
    (ap (λ t. lines_of t view) c.in-Clips.is) c.args.page c.deref-in-Clips.result.now
    (c.deref-in-Clips.ensures.value
    ∙ c.in_ok-clips-in-Clips.ensures.rows centre clean
    (holds.rules.own c.args.channel c.args.plan.now (sym there)).clips.numbers) _ _
    c.from_residual-in_err-write_clip_lines-in-Clips.result
    (begun c.from_residual-in_err-write_clip_lines-in-Clips.result _ _ _
    c.from_residual-in_err-write_clip_lines-in-Clips.ensures.0 c.in_err-write_clip_lines-in-Clips.ensures.err)

pub returns-in_ok-write_clip_lines-in-Clips-clause-written : goal.returns-in_ok-write_clip_lines-in-Clips-clause-written
returns-in_ok-write_clip_lines-in-Clips-clause-written g c centre clean holds there =
    let view = view_at c.args.channel (set_in (inside g.S.Store c.args.tx.now)) c.args.plan.now in
    page_said {X = Unit {0}} {E = Unit {0}} c.args.table view (clip_line c.args.plan.now.rate) view.own.clips
    (ap (λ t. lines_of t view) c.in-Clips.is) c.args.page c.deref-in-Clips.result.now
    (c.deref-in-Clips.ensures.value
    ∙ c.in_ok-clips-in-Clips.ensures.rows centre clean
    (holds.rules.own c.args.channel c.args.plan.now (sym there)).clips.numbers) _ _ (Ok tt)
    c.in_ok-write_clip_lines-in-Clips.ensures.ok

pub returns-in_err-write_offer_lines-in-Offers-clause-written : goal.returns-in_err-write_offer_lines-in-Offers-clause-written
returns-in_err-write_offer_lines-in-Offers-clause-written g c centre clean holds there =
    let view = view_at c.args.channel (set_in (inside g.S.Store c.args.tx.now)) c.args.plan.now in
    page_said c.args.table view offer_line view.own.offers (ap (λ t. lines_of t view) c.in-Offers.is) c.args.page
    c.deref-in-Offers.result.now
    (c.deref-in-Offers.ensures.value
    ∙ c.in_ok-offers-in-Offers.ensures.rows centre clean
    (holds.rules.own c.args.channel c.args.plan.now (sym there)).offers.numbers) _ _
    c.from_residual-in_err-write_offer_lines-in-Offers.result
    (begun c.from_residual-in_err-write_offer_lines-in-Offers.result _ _ _
    c.from_residual-in_err-write_offer_lines-in-Offers.ensures.0 c.in_err-write_offer_lines-in-Offers.ensures.err)

pub returns-in_ok-write_offer_lines-in-Offers-clause-written : goal.returns-in_ok-write_offer_lines-in-Offers-clause-written
returns-in_ok-write_offer_lines-in-Offers-clause-written g c centre clean holds there =
    let view = view_at c.args.channel (set_in (inside g.S.Store c.args.tx.now)) c.args.plan.now in
    page_said {X = Unit {0}} {E = Unit {0}} c.args.table view offer_line view.own.offers
    (ap (λ t. lines_of t view) c.in-Offers.is) c.args.page c.deref-in-Offers.result.now
    (c.deref-in-Offers.ensures.value
    ∙ c.in_ok-offers-in-Offers.ensures.rows centre clean
    (holds.rules.own c.args.channel c.args.plan.now (sym there)).offers.numbers) _ _ (Ok tt)
    c.in_ok-write_offer_lines-in-Offers.ensures.ok

pub returns-in_ok-write_tapes-in-Vault-clause-shelved : goal.returns-in_ok-write_tapes-in-Vault-clause-shelved
returns-in_ok-write_tapes-in-Vault-clause-shelved g c centre clean holds there =
    let tapes = rows_of c.args.channel (set_in (inside g.S.Store c.args.tx.now)).tapes in
    let own =
    c.in_ok-tapes-in-Vault.ensures.rows centre clean
    (holds.rules.own c.args.channel c.args.plan.now (sym there)).numbers in
    subst (λ t. c.count_shelved.result ≡ shelved_of t (page_of c.args.page tapes)) (sym c.in-Vault.is)
    (c.count_shelved.ensures ∙ ap (λ (l : List Tape). length (slots_of l)) (c.deref-in-Vault.ensures.value ∙ own))
