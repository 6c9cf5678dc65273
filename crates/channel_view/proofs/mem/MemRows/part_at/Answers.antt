-- `MemRows::part_at`: the part of what the channel sees that a command needs.
use Rattle.std.proofs.Common.{◌∙◌, sym, subst, ap, refl}
use Rattle.std.specs.Prelude.{◌==◌, filter}
use Rattle.std.specs.List.Sorted.{IsNonDecreasingBy}
use Rattle.vault_core.specs.Questions.{listed}
use Rattle.vault_core.specs.Rules.{is_numbered_from}
use Rattle.vault_core.specs.Asked.{AreTapeAnswers, AreClipAnswers}
use Rattle.grant_core.specs.Asked.{AreOfferAnswers}
use Rattle.channel_view_model.specs.Tables.{rows_alone, rows_of}
use Rattle.channel_view_model.specs.Centre.{IsInOrder}
use Rattle.channel_view_model.specs.Need.{AreSourceAnswers, IsDayAnswer, IsAiringAnswer, items_asked}
use Rattle.channel_view_model.specs.Seen.{grants_to}
use Rattle.channel_view_rules.proofs.BisectLemmas.{rises}
use Rattle.channel_view.proofs.GrantPlaceLemmas.{sources_numbered}
use Rattle.channel_view.proofs.mem.MemRows.part_at.Goals as goal

pub channel_rows-tapes-requires : goal.channel_rows-tapes-requires
channel_rows-tapes-requires c =
    let order = subst IsInOrder (sym (ap (λ m. m.rows) c.self-inside.view_is)) c.self.invariant in
    subst (IsNonDecreasingBy (λ r. r.0)) (sym c.deref.ensures.value) (rises _ order.tapes)

pub channel_rows-clips-requires : goal.channel_rows-clips-requires
channel_rows-clips-requires c =
    let order = subst IsInOrder (sym (ap (λ m. m.rows) c.self-inside.view_is)) c.self.invariant in
    subst (IsNonDecreasingBy (λ r. r.0)) (sym c.deref-2.ensures.value) (rises _ order.clips)

pub channel_rows-offers-requires : goal.channel_rows-offers-requires
channel_rows-offers-requires c =
    let order = subst IsInOrder (sym (ap (λ m. m.rows) c.self-inside.view_is)) c.self.invariant in
    subst (IsNonDecreasingBy (λ r. r.0)) (sym c.deref-3.ensures.value) (rises _ order.offers)

pub channel_rows-days-requires : goal.channel_rows-days-requires
channel_rows-days-requires c =
    let order = subst IsInOrder (sym (ap (λ m. m.rows) c.self-inside.view_is)) c.self.invariant in
    subst (IsNonDecreasingBy (λ r. r.0)) (sym c.deref-4.ensures.value) (rises _ order.days)

pub channel_rows-aired-requires : goal.channel_rows-aired-requires
channel_rows-aired-requires c =
    let order = subst IsInOrder (sym (ap (λ m. m.rows) c.self-inside.view_is)) c.self.invariant in
    subst (IsNonDecreasingBy (λ r. r.0)) (sym c.deref-5.ensures.value) (rises _ order.aired)

pub returns : goal.returns
returns c = λ rules known.
    let kept = rules.own c.args.channel c.args.plan known in
    let own_tapes =
    ap (filter (λ r. r.0 == c.args.channel))
    (c.deref.ensures.value ∙ ap (λ m. m.rows.tapes) c.self-inside.view_is ∙ ap (λ m. m.tapes) c.self.view_is) in
    let own_clips =
    ap (filter (λ r. r.0 == c.args.channel))
    (c.deref-2.ensures.value ∙ ap (λ m. m.rows.clips) c.self-inside.view_is ∙ ap (λ m. m.clips) c.self.view_is) in
    let own_offers =
    ap (filter (λ r. r.0 == c.args.channel))
    (c.deref-3.ensures.value ∙ ap (λ m. m.rows.offers) c.self-inside.view_is ∙ ap (λ m. m.offers) c.self.view_is) in
    let tapes = ap rows_alone (c.channel_rows-tapes.ensures ∙ own_tapes) in
    let clips = ap rows_alone (c.channel_rows-clips.ensures ∙ own_clips) in
    let offers = ap rows_alone (c.channel_rows-offers.ensures ∙ own_offers) in
    let days =
    ap rows_alone
    (c.channel_rows-days.ensures
    ∙ ap (filter (λ r. r.0 == c.args.channel))
    (c.deref-4.ensures.value ∙ ap (λ m. m.rows.days) c.self-inside.view_is ∙ ap (λ m. m.days) c.self.view_is)) in
    let aired =
    ap rows_alone
    (c.channel_rows-aired.ensures
    ∙ ap (filter (λ r. r.0 == c.args.channel))
    (c.deref-5.ensures.value ∙ ap (λ m. m.rows.aired) c.self-inside.view_is ∙ ap (λ m. m.aired) c.self.view_is)) in
    record {
      plan = refl;
      tapes = subst (λ ts. AreTapeAnswers c.args.need.now.tapes (listed ts) c.tapes_found.result) tapes
          (c.tapes_found.ensures (ap (is_numbered_from (λ t. t.n) 1) tapes ∙ kept.numbers));
      clips = subst (λ ks. AreClipAnswers c.args.need.now.clips (listed ks) c.clips_found.result) clips
          (c.clips_found.ensures (ap (is_numbered_from (λ k. k.n) 1) clips ∙ kept.clips.numbers));
      offers = subst (λ os. AreOfferAnswers c.args.need.now.offers (listed os) c.offers_found.result) offers
          (c.offers_found.ensures (ap (is_numbered_from (λ o. o.n) 1) offers ∙ kept.offers.numbers));
      day =
          subst (λ ds. IsDayAnswer c.args.need.now.day c.args.plan (listed ds) c.in_ok-day.day) days
          c.in_ok-day.ensures;
      aired =
          subst
          (λ as_rows. IsAiringAnswer c.args.need.now.aired c.args.plan (listed as_rows) c.in_ok-airing_found.field-0)
          aired c.in_ok-airing_found.ensures;
      sources =
          subst
          (λ named. AreSourceAnswers c.args.need.now.sources
          (items_asked c.args.need.now.items c.in_ok-day.day) named (rows_of c.args.channel c.args.self.now.clips)
          (grants_to c.args.channel c.args.self.now.offers) c.in_ok-sources.sources.clips.items
          c.in_ok-sources.sources.grants.items) c.names_asked-named.ensures
          (subst
          (λ items. AreSourceAnswers c.args.need.now.sources items c.names_asked-named.result.now
          (rows_of c.args.channel c.args.self.now.clips) (grants_to c.args.channel c.args.self.now.offers)
          c.in_ok-sources.sources.clips.items c.in_ok-sources.sources.grants.items) c.items_asked-items.ensures
          (c.in_ok-sources.ensures (sources_numbered c.args.self.now c.args.channel c.args.plan rules known)));
    }
