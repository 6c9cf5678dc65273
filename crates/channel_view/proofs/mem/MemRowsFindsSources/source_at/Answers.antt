-- `MemRows::source_at`: what a source names.
use Rattle.std.proofs.Common.{◌∙◌, ◌&&◌, sym, subst, ap, ap₂}
use Rattle.std.specs.Prelude.{◌==◌, filter, find}
use Rattle.vault_core.specs.Rules.{is_numbered_from}
use Rattle.channel_view_model.specs.Tables.{is_in_order, rows_alone, rows_of}
use Rattle.channel_view_model.specs.Seen.{grants_to}
use Rattle.channel_view_model.specs.Need.{IsSourceAnswer}
use Rattle.channel_view_model.proofs.SourceLemmas.{status_answer, lent_answer}
use Rattle.std.specs.List.Sorted.{IsNonDecreasingBy}
use Rattle.channel_view_model.specs.Centre.{IsInOrder}
use Rattle.channel_view_rules.proofs.BisectLemmas.{rises}
use Rattle.channel_view.proofs.mem.MemRowsFindsSources.source_at.Goals as goal

pub channel_rows-clips-requires : goal.channel_rows-clips-requires
channel_rows-clips-requires c =
    let order = subst IsInOrder (sym (ap (λ m. m.rows) c.self-inside.view_is)) c.self.invariant in
    subst (IsNonDecreasingBy (λ r. r.0)) (sym c.deref.ensures.value) (rises _ order.clips)

pub grant_to-grant-requires : goal.grant_to-grant-requires
grant_to-grant-requires c =
    let order = subst IsInOrder (sym (ap (λ m. m.rows) c.self-inside.view_is)) c.self.invariant in
    ap is_in_order c.deref-in-Lent.ensures.value ∙ order.offers

pub returns-in_ok-just-in-Own : goal.returns-in_ok-just-in-Own
returns-in_ok-just-in-Own c = λ numbered.
    let rows = c.args.self.now in
    let channel = c.args.channel in
    let all = c.deref.ensures.value ∙ ap (λ m. m.rows.clips) c.self-inside.view_is ∙ ap (λ m. m.clips) c.self.view_is in
    let clips = ap rows_alone (c.channel_rows-clips.ensures ∙ ap (filter (λ r. r.0 == channel)) all) in
    let row =
    c.row_of.ensures (λ k. k.n) (ap (is_numbered_from (λ k. k.n) 1) clips ∙ numbered.clips)
    ∙ ap (λ ks. find (λ k. k.n == c.get.result) ks) clips
    ∙ ap (λ n. find (λ k. k.n == n) (rows_of channel rows.clips)) c.get.ensures in
    subst
    (λ source. IsSourceAnswer source (rows_of channel rows.clips) (grants_to channel rows.offers)
    c.in_ok-just-in-Own.field-0.items c.new.result.items) (sym c.in-Own.is)
    (status_answer (rows_of channel rows.clips) (grants_to channel rows.offers) c.in-Own.number c.row_of.result _ _ row
    c.in_ok-just-in-Own.ensures c.new.ensures.items)

pub returns-in_ok-just-in-Lent : goal.returns-in_ok-just-in-Lent
returns-in_ok-just-in-Lent c = λ numbered.
    let rows = c.args.self.now in
    let channel = c.args.channel in
    let all =
    c.deref-in-Lent.ensures.value ∙ ap (λ m. m.rows.offers) c.self-inside.view_is
    ∙ ap (λ m. m.offers) c.self.view_is in
    let of_owner = ap (rows_of c.get-in-Lent.result) all in
    let row =
    c.grant_to-grant.ensures
    (ap (is_numbered_from (λ o. o.n) 1) of_owner ∙ numbered.offers c.get-in-Lent.result)
    ∙ ap
    (λ os. find (λ g. g.owner == c.get-in-Lent.result && g.offer.n == c.get-in-Lent-2.result) (grants_to channel os))
    all
    ∙ ap₂ (λ owner n. find (λ g. g.owner == owner && g.offer.n == n) (grants_to channel rows.offers))
    c.get-in-Lent.ensures c.get-in-Lent-2.ensures in
    subst
    (λ source. IsSourceAnswer source (rows_of channel rows.clips) (grants_to channel rows.offers)
    c.new-in-Lent.result.items c.in_ok-just-in-Lent.field-0.items) (sym c.in-Lent.is)
    (lent_answer (rows_of channel rows.clips) (grants_to channel rows.offers) c.in-Lent.owner c.in-Lent.number
    c.grant_to-grant.result _ _ row c.new-in-Lent.ensures.items c.in_ok-just-in-Lent.ensures)
