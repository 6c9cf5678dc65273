-- `apply_own`: applies a change of the channel's own rows.
use Rattle.std.proofs.Common.{◌≡◌, ℕ, true, ap₂, subst}
use Rattle.std.specs.Prelude.{◌==◌}
use Rattle.sqlite_keyed.specs.Lists.{insert_sorted}
use Rattle.vault_core.specs.declared.command.Put.TheVariants.{Added, Changed}
use Rattle.channel_view_model.specs.declared.command.Change.TheVariants.{Vault}
use Rattle.channel_view_model.specs.declared.command.VaultChange.TheVariants.{Tape as TapeRow, Clip as ClipRow}
use Rattle.channel_view_model.specs.declared.command.VaultChange.TheVariants.{Offer as OfferRow}
use Rattle.channel_view_model.specs.Centre.{IsChangeOf}
use Rattle.channel_view_model.specs.Tables.{alter_row}
use Rattle.station_tables_records.specs.Inside.{inside}
use Rattle.station_tables_records.specs.TapeRows.{tape_cmp}
use Rattle.station_tables_records.specs.ClipRows.{clip_cmp}
use Rattle.station_tables_records.specs.OfferRows.{offer_cmp}
use Rattle.station_tables_statements.specs.Rows.{Changes, on_tapes, on_clips, on_offers}
use Rattle.station_tables_statements.proofs.AddLemmas.{adds_in_order, tape_in_place, clip_adds_in_order, clip_in_place}
use Rattle.station_tables_statements.proofs.AddLemmas.{offer_adds_in_order, offer_in_place}
use Rattle.station_tables_statements.proofs.LookLemmas.{weaker}
use Rattle.station_tables_writing.proofs.ChangeLemmas.{sets_changed, tape_is_new, lacks_clip, lacks_offer}
use Rattle.station_tables_writing.proofs.applying.apply_own.Goals as goal

pub returns-in_ok-insert_tape-in-Tape-Added-clause-set : goal.returns-in_ok-insert_tape-in-Tape-Added-clause-set
returns-in_ok-insert_tape-in-Tape-Added-clause-set g c rows has is clean =
    let ch = c.args.channel in
    let old = inside g.S.Store c.args.tx.now in
    let t = c.in-Tape-Added.tape in
    sets_changed ch _ (Vault Added (TapeRow t)) (ap₂ Vault c.in-Tape-Added.is-1 c.in-Tape-Added.is-0) rows is
    c.rules_are_kept.ensures old _ has c.insert_tape.ensures.writes.survives clean
    (on_tapes (insert_sorted tape_cmp (ch, t))) (adds_in_order ch t rows)
    (λ asked. c.in_ok-insert_tape-in-Tape-Added.ensures.makes (tape_is_new ch t rows asked old has)
    (λ early held. (has early held).centre) clean)

pub returns-in_ok-change_tape-in-Tape-Changed-clause-set : goal.returns-in_ok-change_tape-in-Tape-Changed-clause-set
returns-in_ok-change_tape-in-Tape-Changed-clause-set g c rows has is clean =
    let ch = c.args.channel in
    let old = inside g.S.Store c.args.tx.now in
    let t = c.in-Tape-Changed.tape in
    sets_changed ch _ (Vault Changed (TapeRow t)) (ap₂ Vault c.in-Tape-Changed.is-1 c.in-Tape-Changed.is-0) rows is
    c.rules_are_kept.ensures old _ has c.change_tape.ensures.writes.survives clean
    (on_tapes (alter_row ch (λ u. u.n == t.n) (λ u. record t { n = u.n }))) (tape_in_place ch t rows)
    (λ asked. c.in_ok-change_tape-in-Tape-Changed.ensures.makes (λ early held. (has early held).centre) clean)

pub returns-in_ok-insert_clip-in-Clip-Added-clause-set : goal.returns-in_ok-insert_clip-in-Clip-Added-clause-set
returns-in_ok-insert_clip-in-Clip-Added-clause-set g c rows has is clean =
    let ch = c.args.channel in
    let old = inside g.S.Store c.args.tx.now in
    let k = c.in-Clip-Added.clip in
    sets_changed ch _ (Vault Added (ClipRow k)) (ap₂ Vault c.in-Clip-Added.is-1 c.in-Clip-Added.is-0) rows is
    c.rules_are_kept.ensures old _ has c.insert_clip.ensures.writes.survives clean
    (on_clips (insert_sorted clip_cmp (ch, k))) (clip_adds_in_order ch k rows)
    (λ asked. c.in_ok-insert_clip-in-Clip-Added.ensures.makes (lacks_clip ch k rows asked old has)
    (λ early held. (has early held).centre) clean)

pub returns-in_ok-retire_clip-in-Clip-Changed-clause-set : goal.returns-in_ok-retire_clip-in-Clip-Changed-clause-set
returns-in_ok-retire_clip-in-Clip-Changed-clause-set g c rows has is clean =
    let ch = c.args.channel in
    let old = inside g.S.Store c.args.tx.now in
    let k = c.in-Clip-Changed.clip in
    sets_changed ch _ (Vault Changed (ClipRow k)) (ap₂ Vault c.in-Clip-Changed.is-1 c.in-Clip-Changed.is-0) rows is
    c.rules_are_kept.ensures old _ has c.retire_clip.ensures.writes.survives clean
    (on_clips (alter_row ch (λ u. u.n == k.n) (λ u. record u { retired = true }))) (clip_in_place ch k rows)
    (λ asked. c.in_ok-retire_clip-in-Clip-Changed.ensures.makes (λ early held. (has early held).centre) clean)

pub returns-in-Offer-Added-clause-set : goal.returns-in-Offer-Added-clause-set
returns-in-Offer-Added-clause-set g c rows has is clean =
    let ch = c.args.channel in
    let old = inside g.S.Store c.args.tx.now in
    let o = c.in-Offer-Added.offer in
    let same : Vault c.args.put c.args.change.now ≡ Vault Added (OfferRow o) =
    ap₂ Vault c.in-Offer-Added.is-1 c.in-Offer-Added.is-0 in
    weaker c.insert_offer.result
    (λ changes. sets_changed ch _ (Vault Added (OfferRow o)) same rows is c.rules_are_kept.ensures old _ has
    c.insert_offer.ensures.writes.survives clean (on_offers (insert_sorted offer_cmp (ch, o)))
    (offer_adds_in_order ch o rows) (λ asked. changes))
    (c.insert_offer.ensures.makes (lacks_offer ch o rows (subst (λ x. IsChangeOf ch x rows) same is) old has)
    (λ early held. (has early held).owned) (λ early held. (has early held).centre) clean)

pub returns-in_ok-withdraw_offer-in-Offer-Changed-clause-set
    : goal.returns-in_ok-withdraw_offer-in-Offer-Changed-clause-set
returns-in_ok-withdraw_offer-in-Offer-Changed-clause-set g c rows has is clean =
    let ch = c.args.channel in
    let old = inside g.S.Store c.args.tx.now in
    let o = c.in-Offer-Changed.offer in
    let withdraws = λ (n : ℕ). on_offers (alter_row ch (λ u. u.n == n) (λ u. record u { withdrawn = true })) in
    sets_changed ch _ (Vault Changed (OfferRow o)) (ap₂ Vault c.in-Offer-Changed.is-1 c.in-Offer-Changed.is-0) rows is
    c.rules_are_kept.ensures old _ has c.withdraw_offer.ensures.writes.survives clean
    (withdraws o.n) (offer_in_place ch o rows)
    (λ asked. subst (λ n. Changes (withdraws n) old (inside g.S.Store c.withdraw_offer.new.tx)) c.from.ensures
    (c.in_ok-withdraw_offer-in-Offer-Changed.ensures.makes (λ early held. (has early held).centre) clean))
