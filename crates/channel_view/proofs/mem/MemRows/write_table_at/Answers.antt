-- `MemRows::write_table_at`: a table of this channel, from the rows as they lie here.
use Rattle.std.proofs.Common.{◌∙◌, sym, subst, ap, ap₂}
use Rattle.std.specs.Prelude.{◌==◌, filter}
use Rattle.std.specs.Io.KnownBytes.{Appends}
use Rattle.std.specs.List.Sorted.{IsNonDecreasingBy}
use Rattle.std.proofs.lemmas.Result.{on_ok_weaker, on_err_weaker}
use Rattle.report_texts.specs.Output.{AppendsPart}
use Rattle.report_texts.proofs.LineLemmas.{on_err}
use Rattle.report_texts.specs.Vault.{vault_text}
use Rattle.report_texts.specs.Clips.{clip_text}
use Rattle.report_texts.specs.Offers.{offer_text}
use Rattle.report_texts.specs.Lent.{lent_text}
use Rattle.report_texts.specs.Days.{days_text}
use Rattle.channel_view_model.specs.Tables.{rows_alone}
use Rattle.channel_view_model.specs.Seen.{grants_to}
use Rattle.channel_view_model.specs.TableText.{text_seen, table_text}
use Rattle.channel_view_model.specs.Centre.{IsInOrder, view_at}
use Rattle.channel_view_rules.proofs.BisectLemmas.{rises}
use Rattle.channel_view.proofs.mem.MemRows.write_table_at.Goals as goal

pub channel_rows-requires : goal.channel_rows-requires
channel_rows-requires g c =
    let order = subst IsInOrder (sym (ap (λ m. m.rows) c.self-inside.view_is)) c.self.invariant in
    subst (IsNonDecreasingBy (λ r. r.0)) (sym c.deref.ensures.value) (rises _ order.tapes)

pub channel_rows-requires-in-Clips : goal.channel_rows-requires-in-Clips
channel_rows-requires-in-Clips g c =
    let order = subst IsInOrder (sym (ap (λ m. m.rows) c.self-inside.view_is)) c.self.invariant in
    subst (IsNonDecreasingBy (λ r. r.0)) (sym c.deref-in-Clips.ensures.value) (rises _ order.clips)

pub channel_rows-requires-in-Offers : goal.channel_rows-requires-in-Offers
channel_rows-requires-in-Offers g c =
    let order = subst IsInOrder (sym (ap (λ m. m.rows) c.self-inside.view_is)) c.self.invariant in
    subst (IsNonDecreasingBy (λ r. r.0)) (sym c.deref-in-Offers.ensures.value) (rises _ order.offers)

pub channel_rows-requires-in-Days : goal.channel_rows-requires-in-Days
channel_rows-requires-in-Days g c =
    let order = subst IsInOrder (sym (ap (λ m. m.rows) c.self-inside.view_is)) c.self.invariant in
    subst (IsNonDecreasingBy (λ r. r.0)) (sym c.deref-in-Days.ensures.value) (rises _ order.days)

pub channel_rows-requires-in-Days-2 : goal.channel_rows-requires-in-Days-2
channel_rows-requires-in-Days-2 g c =
    let order = subst IsInOrder (sym (ap (λ m. m.rows) c.self-inside.view_is)) c.self.invariant in
    subst (IsNonDecreasingBy (λ r. r.0)) (sym c.deref-in-Days-2.ensures.value) (rises _ order.aired)

pub returns-in_ok-write_vault_of-in-Vault-clause-ok : goal.returns-in_ok-write_vault_of-in-Vault-clause-ok
unfolding text_seen
returns-in_ok-write_vault_of-in-Vault-clause-ok g c =
    let own =
    ap (filter (λ r. r.0 == c.args.channel))
    (c.deref.ensures.value ∙ ap (λ m. m.rows.tapes) c.self-inside.view_is ∙ ap (λ m. m.tapes) c.self.view_is) in
    let text =
    ap (λ rows. vault_text c.args.plan (rows_alone rows)) (c.channel_rows.ensures ∙ own)
    ∙ ap (λ t. table_text t (view_at c.args.channel c.args.self.now c.args.plan)) (sym c.in-Vault.is) in
    subst (Appends (g.W.Write.contents c.args.output.now) (g.W.Write.contents c.write_vault_of.new.output)) text
    c.in_ok-write_vault_of-in-Vault.ensures.ok

pub returns-in_err-write_vault_of-in-Vault-clause-err : goal.returns-in_err-write_vault_of-in-Vault-clause-err
unfolding text_seen
returns-in_err-write_vault_of-in-Vault-clause-err g c =
    let own =
    ap (filter (λ r. r.0 == c.args.channel))
    (c.deref.ensures.value ∙ ap (λ m. m.rows.tapes) c.self-inside.view_is ∙ ap (λ m. m.tapes) c.self.view_is) in
    let text =
    ap (λ rows. vault_text c.args.plan (rows_alone rows)) (c.channel_rows.ensures ∙ own)
    ∙ ap (λ t. table_text t (view_at c.args.channel c.args.self.now c.args.plan)) (sym c.in-Vault.is) in
    on_err c.from_residual.result
    (subst (AppendsPart (g.W.Write.contents c.args.output.now) (g.W.Write.contents c.write_vault_of.new.output))
    text c.in_err-write_vault_of-in-Vault.ensures.err)

pub returns-in-Clips-clause-ok : goal.returns-in-Clips-clause-ok
unfolding text_seen
returns-in-Clips-clause-ok g c =
    let own =
    ap (filter (λ r. r.0 == c.args.channel))
    (c.deref-in-Clips.ensures.value ∙ ap (λ m. m.rows.clips) c.self-inside.view_is
    ∙ ap (λ m. m.clips) c.self.view_is) in
    let text =
    ap (λ rows. clip_text c.args.plan.rate (rows_alone rows)) (c.channel_rows-in-Clips.ensures ∙ own)
    ∙ ap (λ t. table_text t (view_at c.args.channel c.args.self.now c.args.plan)) (sym c.in-Clips.is) in
    on_ok_weaker c.write_clips_of.result
    (subst (Appends (g.W.Write.contents c.args.output.now) (g.W.Write.contents c.write_clips_of.new.output)) text)
    c.write_clips_of.ensures.ok

pub returns-in-Clips-clause-err : goal.returns-in-Clips-clause-err
unfolding text_seen
returns-in-Clips-clause-err g c =
    let own =
    ap (filter (λ r. r.0 == c.args.channel))
    (c.deref-in-Clips.ensures.value ∙ ap (λ m. m.rows.clips) c.self-inside.view_is
    ∙ ap (λ m. m.clips) c.self.view_is) in
    let text =
    ap (λ rows. clip_text c.args.plan.rate (rows_alone rows)) (c.channel_rows-in-Clips.ensures ∙ own)
    ∙ ap (λ t. table_text t (view_at c.args.channel c.args.self.now c.args.plan)) (sym c.in-Clips.is) in
    on_err_weaker c.write_clips_of.result
    (subst (AppendsPart (g.W.Write.contents c.args.output.now) (g.W.Write.contents c.write_clips_of.new.output))
    text) c.write_clips_of.ensures.err

pub returns-in_ok-write_offers_of-in-Offers-clause-ok : goal.returns-in_ok-write_offers_of-in-Offers-clause-ok
unfolding text_seen
returns-in_ok-write_offers_of-in-Offers-clause-ok g c =
    let own =
    ap (filter (λ r. r.0 == c.args.channel))
    (c.deref-in-Offers.ensures.value ∙ ap (λ m. m.rows.offers) c.self-inside.view_is
    ∙ ap (λ m. m.offers) c.self.view_is) in
    let text =
    ap (λ rows. offer_text (rows_alone rows)) (c.channel_rows-in-Offers.ensures ∙ own)
    ∙ ap (λ t. table_text t (view_at c.args.channel c.args.self.now c.args.plan)) (sym c.in-Offers.is) in
    subst (Appends (g.W.Write.contents c.args.output.now) (g.W.Write.contents c.write_offers_of.new.output)) text
    c.in_ok-write_offers_of-in-Offers.ensures.ok

pub returns-in_err-write_offers_of-in-Offers-clause-err : goal.returns-in_err-write_offers_of-in-Offers-clause-err
unfolding text_seen
returns-in_err-write_offers_of-in-Offers-clause-err g c =
    let own =
    ap (filter (λ r. r.0 == c.args.channel))
    (c.deref-in-Offers.ensures.value ∙ ap (λ m. m.rows.offers) c.self-inside.view_is
    ∙ ap (λ m. m.offers) c.self.view_is) in
    let text =
    ap (λ rows. offer_text (rows_alone rows)) (c.channel_rows-in-Offers.ensures ∙ own)
    ∙ ap (λ t. table_text t (view_at c.args.channel c.args.self.now c.args.plan)) (sym c.in-Offers.is) in
    on_err c.from_residual-in_err-write_offers_of-in-Offers.result
    (subst (AppendsPart (g.W.Write.contents c.args.output.now) (g.W.Write.contents c.write_offers_of.new.output))
    text c.in_err-write_offers_of-in-Offers.ensures.err)

pub returns-in-Lent-clause-ok : goal.returns-in-Lent-clause-ok
unfolding text_seen
returns-in-Lent-clause-ok g c =
    let all =
    (c.deref-in-Lent.ensures.value ∙ ap (λ m. m.rows.offers) c.self-inside.view_is
    ∙ ap (λ m. m.offers) c.self.view_is) in
    let text =
    ap (λ rows. lent_text (grants_to c.args.channel rows)) all
    ∙ ap (λ t. table_text t (view_at c.args.channel c.args.self.now c.args.plan)) (sym c.in-Lent.is) in
    on_ok_weaker c.write_lent_of.result
    (subst (Appends (g.W.Write.contents c.args.output.now) (g.W.Write.contents c.write_lent_of.new.output)) text)
    c.write_lent_of.ensures.ok

pub returns-in-Lent-clause-err : goal.returns-in-Lent-clause-err
unfolding text_seen
returns-in-Lent-clause-err g c =
    let all =
    (c.deref-in-Lent.ensures.value ∙ ap (λ m. m.rows.offers) c.self-inside.view_is
    ∙ ap (λ m. m.offers) c.self.view_is) in
    let text =
    ap (λ rows. lent_text (grants_to c.args.channel rows)) all
    ∙ ap (λ t. table_text t (view_at c.args.channel c.args.self.now c.args.plan)) (sym c.in-Lent.is) in
    on_err_weaker c.write_lent_of.result
    (subst (AppendsPart (g.W.Write.contents c.args.output.now) (g.W.Write.contents c.write_lent_of.new.output))
    text) c.write_lent_of.ensures.err

pub returns-in_ok-write_days_of-in-Days-clause-ok : goal.returns-in_ok-write_days_of-in-Days-clause-ok
unfolding text_seen
returns-in_ok-write_days_of-in-Days-clause-ok g c =
    let days =
    ap (filter (λ r. r.0 == c.args.channel))
    (c.deref-in-Days.ensures.value ∙ ap (λ m. m.rows.days) c.self-inside.view_is ∙ ap (λ m. m.days) c.self.view_is)
    in
    let aired =
    ap (filter (λ r. r.0 == c.args.channel))
    (c.deref-in-Days-2.ensures.value ∙ ap (λ m. m.rows.aired) c.self-inside.view_is
    ∙ ap (λ m. m.aired) c.self.view_is) in
    let text =
    ap₂ (λ a d. days_text (rows_alone a) (rows_alone d)) (c.channel_rows-in-Days-2.ensures ∙ aired)
    (c.channel_rows-in-Days.ensures ∙ days)
    ∙ ap (λ t. table_text t (view_at c.args.channel c.args.self.now c.args.plan)) (sym c.in-Days.is) in
    subst (Appends (g.W.Write.contents c.args.output.now) (g.W.Write.contents c.write_days_of.new.output)) text
    c.in_ok-write_days_of-in-Days.ensures.ok

pub returns-in_err-write_days_of-in-Days-clause-err : goal.returns-in_err-write_days_of-in-Days-clause-err
unfolding text_seen
returns-in_err-write_days_of-in-Days-clause-err g c =
    let days =
    ap (filter (λ r. r.0 == c.args.channel))
    (c.deref-in-Days.ensures.value ∙ ap (λ m. m.rows.days) c.self-inside.view_is ∙ ap (λ m. m.days) c.self.view_is)
    in
    let aired =
    ap (filter (λ r. r.0 == c.args.channel))
    (c.deref-in-Days-2.ensures.value ∙ ap (λ m. m.rows.aired) c.self-inside.view_is
    ∙ ap (λ m. m.aired) c.self.view_is) in
    let text =
    ap₂ (λ a d. days_text (rows_alone a) (rows_alone d)) (c.channel_rows-in-Days-2.ensures ∙ aired)
    (c.channel_rows-in-Days.ensures ∙ days)
    ∙ ap (λ t. table_text t (view_at c.args.channel c.args.self.now c.args.plan)) (sym c.in-Days.is) in
    on_err c.from_residual-in_err-write_days_of-in-Days.result
    (subst (AppendsPart (g.W.Write.contents c.args.output.now) (g.W.Write.contents c.write_days_of.new.output)) text
    c.in_err-write_days_of-in-Days.ensures.err)
