-- `View::sources`: the clips and the lent clips that are asked for.
use Rattle.std.proofs.Common.{◌≡◌, ◌∙◌, List, inl, inr, sym, ap, subst}
use Rattle.std.proofs.lemmas.Result.{IfOk-weaker}
use Rattle.vault_core.specs.declared.clip.Clip.{Clip}
use Rattle.grant_core.specs.declared.grant.Grant.{Grant}
use Rattle.playlist_core.specs.Source.{RowsSeen, found, seen_of}
use Rattle.channel_view_model.specs.Need.{AreSourceAnswers, clips_of, grants_of, sources_of}
use Rattle.channel_view_model.proofs.NamedLemmas.{all_alike}
use Rattle.channel_view_model.proofs.view.View.sources.Goals as goal

pub returns-in-One : goal.returns-in-One
returns-in-One c =
    let clips = c.args.self.now.own.clips in
    let grants = c.args.self.now.lent in
    let rows : c.of-rows.result ≡ record { clips = clips; grants = grants } =
    c.of-rows.ensures
    ∙ ap (λ (ks : List Clip). let r : RowsSeen = record { clips = ks; grants = c.grants.result.now } in r)
    c.clips.ensures
    ∙ ap (λ (gs : List Grant). let r : RowsSeen = record { clips = clips; grants = gs } in r) c.grants.ensures in
    IfOk-weaker c.single_source.result _ _
    (λ made is items named.
    subst (λ asked. AreSourceAnswers asked items named clips grants made.clips.items made.grants.items)
    (sym c.in-One.is) (
      is.0 ∙ ap clips_of c.find.ensures
          ∙ ap (λ (r : RowsSeen). clips_of (found (seen_of r.clips r.grants) c.in-One.source)) rows,
      is.1 ∙ ap grants_of c.find.ensures
          ∙ ap (λ (r : RowsSeen). grants_of (found (seen_of r.clips r.grants) c.in-One.source)) rows,
    ))
    c.single_source.ensures

pub returns-in_ok-from_slice-in-OfItems-2 : goal.returns-in_ok-from_slice-in-OfItems-2
returns-in_ok-from_slice-in-OfItems-2 c = λ items named.
    let clips = c.args.self.now.own.clips in
    let grants = c.args.self.now.lent in
    let ks = c.in_ok-from_slice-in-OfItems.field-0.items in
    let gs = c.in_ok-from_slice-in-OfItems-2.field-0.items in
    let all_clips = c.in_ok-from_slice-in-OfItems.ensures.items ∙ c.clips-in-OfItems.ensures in
    let all_grants = c.in_ok-from_slice-in-OfItems-2.ensures.items ∙ c.grants-in-OfItems.ensures in
    elim c.in-OfItems.is [
      | inl is ↦ subst (λ asked. AreSourceAnswers asked items named clips grants ks gs) (sym is)
          (all_alike (sources_of items) clips ks grants gs all_clips all_grants)
      | inr is ↦ subst (λ asked. AreSourceAnswers asked items named clips grants ks gs) (sym is)
          (all_alike named clips ks grants gs all_clips all_grants)
    ]
