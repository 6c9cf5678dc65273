-- `Vaults::part`: the part that a command needs, of the channel's own rows and of what sources name.
use Rattle.std.proofs.Common.{◌∙◌, sym, ap, subst, None}
use Rattle.std.proofs.lemmas.Result.{IfOk-weaker}
use Rattle.channel_view_model.specs.Tables.{rows_of}
use Rattle.channel_view_model.specs.Seen.{grants_to}
use Rattle.channel_view_model.specs.Centre.{view_of}
use Rattle.channel_view_model.specs.Need.{IsFetched, AreSourceAnswers, items_asked}
use Rattle.channel_view_model.specs.Rules.{KeepsRules}
use Rattle.rows_at_hand.specs.Vaults.{lent_in, own_rows}
use Rattle.rows_at_hand.proofs.VaultLemmas.{absent, no_view, none_fetched, own_keep, part_alone, part_with_sources}
use Rattle.rows_at_hand.proofs.VaultLemmas.{there}
use Rattle.rows_at_hand.proofs.VaultLemmas.{vault_is}
use Rattle.rows_at_hand.proofs.VaultLemmas.{clips_all, lent_all}
use Rattle.rows_at_hand.proofs.vaults.Vaults.part.Goals as goal

pub returns-in_default : goal.returns-in_default
returns-in_default c = λ rows at no_day none_aired.
    let channel = c.args.channel in
    none_fetched (view_of channel rows) c.args.need.now
    (no_view rows channel
    (absent rows channel (c.in_default.ensures ∙ vault_is rows c.args.self.now.each.items channel at)))

pub returns-in-Nothing : goal.returns-in-Nothing
returns-in-Nothing c = λ rows at no_day none_aired.
    let channel = c.args.channel in
    let need = c.args.need.now in
    let vaults = c.args.self.now.each.items in
    let v = there rows channel c.in-Some.vault.now (c.in-Some.ensures ∙ vault_is rows vaults channel at) in
    let same = ap (λ w. w.rows) v.is in
    IfOk-weaker c.part.result _ _
    (λ part fetched.
    part_alone rows channel need part no_day none_aired c.in-Nothing.is
    (subst (λ w. IsFetched need (view_of channel w) part) same fetched))
    (c.part.ensures (subst KeepsRules (sym same) (own_keep rows channel at.rules)))

pub returns : goal.returns
returns c = λ rows at no_day none_aired.
    let channel = c.args.channel in
    let need = c.args.need.now in
    let vaults = c.args.self.now.each.items in
    let own = c.in_ok-own.own in
    let found = c.in_ok-sources.sources in
    let v = there rows channel c.in-Some.vault.now (c.in-Some.ensures ∙ vault_is rows vaults channel at) in
    let same = ap (λ w. w.rows) v.is in
    let fetched =
    subst (λ n. IsFetched n (view_of channel (own_rows channel rows)) own) c.of_own.ensures
    (subst (λ w. IsFetched c.of_own.result (view_of channel w) own) same
    (c.in_ok-own.ensures (subst KeepsRules (sym same) (own_keep rows channel at.rules)))) in
    let own_clips = rows_of channel rows.clips in
    let lent = grants_to channel rows.offers in
    let items = items_asked need.items None in
    let told =
    subst
    (λ clips. AreSourceAnswers need.sources c.items_asked-items.result.now c.names_asked-named.result.now clips
    (lent_in channel vaults) found.clips.items found.grants.items) (clips_all rows vaults channel v.row at v.planned)
    (c.in_ok-sources.ensures (rows, v.row, at, v.planned)) in
    let lends =
    subst
    (λ grants. AreSourceAnswers need.sources c.items_asked-items.result.now c.names_asked-named.result.now own_clips
    grants found.clips.items found.grants.items) (lent_all channel rows vaults at) told in
    let of_items =
    subst
    (λ its. AreSourceAnswers need.sources its c.names_asked-named.result.now own_clips lent found.clips.items
    found.grants.items) c.items_asked-items.ensures lends in
    let named =
    subst
    (λ ns. AreSourceAnswers need.sources items ns own_clips lent found.clips.items found.grants.items)
    c.names_asked-named.ensures of_items in
    subst (IsFetched need (view_of channel rows)) (sym c.with_sources.ensures)
    (part_with_sources rows channel need own found no_day none_aired fetched named)
