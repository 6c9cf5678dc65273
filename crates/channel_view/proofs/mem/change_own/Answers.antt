-- `change_own`: a change of the channel's own rows.
use Rattle.std.proofs.Common.{◌≡◌, true, ◌∙◌, refl, sym, ap, subst}
use Rattle.std.specs.Prelude.{Result, Ok, Err, OnOk}
use Rattle.vault_core.specs.declared.command.Put.{Put}
use Rattle.vault_core.specs.declared.command.Put.TheVariants.{Added, Changed}
use Rattle.vault_core.specs.declared.clip.Clip.{Clip}
use Rattle.vault_core.specs.declared.offer.Offer.{Offer}
use Rattle.vault_core.specs.Own.{Own}
use Rattle.vault_core.specs.Command.{ClipMayBePut}
use Rattle.grant_core.specs.Command.{OfferMayBePut}
use Rattle.channel_view_model.specs.contracts.centre.CentreRows.{the_view}
use Rattle.channel_view_model.specs.Puts.{RowMayBePut, IsPutAmong}
use Rattle.vault_core.specs.Rules.{is_numbered_from}
use Rattle.channel_view_model.specs.Tables.{rows_of}
use Rattle.channel_view_model.specs.declared.command.VaultChange.TheVariants.{Tape as TapeRow, Clip as ClipRow}
use Rattle.channel_view_model.specs.declared.command.VaultChange.TheVariants.{Offer as OfferRow}
use Rattle.channel_view_model.specs.Centre.{Centre, own_of, own_changed}
use Rattle.channel_view.proofs.mem.change_own.Goals as goal

on_ok : {T E P Q : Type 0} (r : Result T E) → (P → Q) → OnOk r P → OnOk r Q
on_ok (Ok x) f p = f p
on_ok (Err e) f p = tt

clip_among : (put : Put) (k : Clip) (own : Own) → ClipMayBePut put k own
    → IsPutAmong (λ (u : Clip). u.n) put k own.clips
clip_among Added k own may = may
clip_among Changed k own may = (may.0, may.1, tt)

offer_among : (put : Put) (o : Offer) (own : Own) → OfferMayBePut put o own
    → IsPutAmong (λ (u : Offer). u.n) put o own.offers
offer_among Added o own may = may.0
offer_among Changed o own may = (may.0, may.1, tt)

pub returns-in-Tape-clause-ok : goal.returns-in-Tape-clause-ok
returns-in-Tape-clause-ok c = λ plan rules may.
    let same = c.rows.view_is in
    let mine =
    subst (λ change. RowMayBePut c.args.put change (own_of c.args.channel plan c.args.rows.now)) c.in-Tape.is may in
    on_ok c.put_row.result
    (λ e. (λ i. record (the_view c.rows.inside) { tapes = e i })
    ∙ ap (own_changed c.args.channel (TapeRow c.in-Tape.tape)) same
    ∙ ap (λ change. own_changed c.args.channel change c.args.rows.now) (sym c.in-Tape.is))
    (c.put_row.ensures.ok (λ u. u.n) (sym c.from.ensures)
    (subst (λ (m : Centre). is_numbered_from (λ u. u.n) 1 (rows_of c.args.channel m.tapes) ≡ true) (sym same)
    rules.numbers)
    (subst (λ (m : Centre). IsPutAmong (λ u. u.n) c.args.put c.in-Tape.tape (rows_of c.args.channel m.tapes)) (sym same)
    mine))

pub returns-in-Clip-clause-ok : goal.returns-in-Clip-clause-ok
returns-in-Clip-clause-ok c = λ plan rules may.
    let same = c.rows.view_is in
    let mine =
    subst (λ change. RowMayBePut c.args.put change (own_of c.args.channel plan c.args.rows.now)) c.in-Clip.is may in
    on_ok c.put_row-in-Clip.result
    (λ e. (λ i. record (the_view c.rows.inside) { clips = e i })
    ∙ ap (own_changed c.args.channel (ClipRow c.in-Clip.clip)) same
    ∙ ap (λ change. own_changed c.args.channel change c.args.rows.now) (sym c.in-Clip.is))
    (c.put_row-in-Clip.ensures.ok (λ u. u.n) refl
    (subst (λ (m : Centre). is_numbered_from (λ u. u.n) 1 (rows_of c.args.channel m.clips) ≡ true) (sym same)
    rules.clips.numbers)
    (subst (λ (m : Centre). IsPutAmong (λ u. u.n) c.args.put c.in-Clip.clip (rows_of c.args.channel m.clips)) (sym same)
    (clip_among c.args.put c.in-Clip.clip (own_of c.args.channel plan c.args.rows.now) mine)))

pub returns-in-Offer-clause-ok : goal.returns-in-Offer-clause-ok
returns-in-Offer-clause-ok c = λ plan rules may.
    let same = c.rows.view_is in
    let mine =
    subst (λ change. RowMayBePut c.args.put change (own_of c.args.channel plan c.args.rows.now)) c.in-Offer.is may
    in
    on_ok c.put_row-in-Offer.result
    (λ e. (λ i. record (the_view c.rows.inside) { offers = e i })
    ∙ ap (own_changed c.args.channel (OfferRow c.in-Offer.offer)) same
    ∙ ap (λ change. own_changed c.args.channel change c.args.rows.now) (sym c.in-Offer.is))
    (c.put_row-in-Offer.ensures.ok (λ u. u.n) (sym c.from-in-Offer.ensures)
    (subst (λ (m : Centre). is_numbered_from (λ u. u.n) 1 (rows_of c.args.channel m.offers) ≡ true) (sym same)
    rules.offers.numbers)
    (subst (λ (m : Centre). IsPutAmong (λ u. u.n) c.args.put c.in-Offer.offer (rows_of c.args.channel m.offers))
    (sym same) (offer_among c.args.put c.in-Offer.offer (own_of c.args.channel plan c.args.rows.now) mine)))
