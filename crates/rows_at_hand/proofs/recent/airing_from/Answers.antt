-- `airing_from`: knows of a day that is known what a part has as aired of it.
use Rattle.std.proofs.Common.{◌∙◌, ap, inl, inr, not, subst, sym}
use Rattle.std.specs.Prelude.{Some}
use Rattle.std.proofs.lemmas.List.Elements.{All-contains, All-filter}
use Rattle.channel_view_model.specs.Centre.{view_of}
use Rattle.channel_view_model.specs.Need.{IsFetched}
use Rattle.rows_at_hand.specs.Known.{AreKnown, Inserts, IsKnown, is_day_of}
use Rattle.rows_at_hand.proofs.KnownLemmas.{known_with_airing, part_airing}
use Rattle.rows_at_hand.proofs.recent.airing_from.Goals as goal

pub returns-in_default-take_out-clause-known : goal.returns-in_default-take_out-clause-known
returns-in_default-take_out-clause-known c = λ rows known fetched.
    subst (AreKnown rows) (sym c.take_out.ensures.left)
    (All-filter (λ k. not (is_day_of c.args.channel c.get-number.result k)) (IsKnown rows) c.args.days.now.items known)

pub returns-clause-known : goal.returns-clause-known
returns-clause-known c = λ rows known fetched.
    let channel = c.args.channel in
    let need = c.args.need.now in
    let number = c.get-number.result in
    let days = c.args.days.now.items in
    let k = c.in-Some-take_out.known in
    let found = c.in-Some-take_out.ensures.found in
    c.insert.ensures.known rows
    (subst (AreKnown rows) (sym c.take_out.ensures.left)
    (All-filter (λ k. not (is_day_of c.args.channel c.get-number.result k)) (IsKnown rows) days known))
    (known_with_airing rows channel number k c.airing_in.result found.1
    (All-contains (IsKnown rows) days k known found.0)
    (part_airing rows channel need c.in-Some-part.part number c.airing_in.result
    (subst (IsFetched need (view_of channel rows)) c.in-Some-part.is fetched) c.airing_in.ensures))

pub returns-in_default-take_out-clause-others : goal.returns-in_default-take_out-clause-others
returns-in_default-take_out-clause-others c =
    inr (
      c.get-number.result,
      c.in-Some.is ∙ ap Some (sym c.get-number.ensures.value),
      inl c.take_out.ensures.left,
    )

pub returns-clause-others : goal.returns-clause-others
returns-clause-others c =
    let new = record c.in-Some-take_out.known { aired = c.airing_in.result } in
    inr (
      c.get-number.result,
      c.in-Some.is ∙ ap Some (sym c.get-number.ensures.value),
      inr (
        new,
        subst (λ ks. Inserts new ks c.insert.new.days.items) c.take_out.ensures.left c.insert.ensures.latest,
      ),
    )
