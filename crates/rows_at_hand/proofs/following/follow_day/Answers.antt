-- `follow_day`: knows a day that is known as it is after a change.
use Rattle.std.proofs.Common.{◌≡◌, ◌∙◌, true, ap, inl, inr, subst, sym}
use Rattle.std.proofs.lemmas.List.Elements.{All-contains}
use Rattle.channel_view_model.specs.declared.command.Change.TheVariants.{Day as OnDay}
use Rattle.channel_view_model.specs.Centre.{changed}
use Rattle.rows_at_hand.specs.Known.{AreKnown, Inserts, IsKnown, is_day_of}
use Rattle.rows_at_hand.proofs.KnownLemmas.{known_after_day, known_as_day, left_beside}
use Rattle.rows_at_hand.proofs.following.follow_day.Goals as goal

pub returns-in_default-clause-known : goal.returns-in_default-clause-known
returns-in_default-clause-known c = λ rows known is.
    let change = c.args.change.now in
    let days = c.args.days.now.items in
    let numbered = c.number.ensures ∙ ap (λ d. d.number) c.day-day.ensures in
    let left = left_beside c.args.channel c.number.result change days c.take_out.new.days.items numbered
    c.take_out.ensures.left in
    subst (AreKnown (changed c.args.channel (OnDay change) rows)) (sym left)
    (known_after_day rows c.args.channel change days is known)

pub returns-in_default-clause-others : goal.returns-in_default-clause-others
returns-in_default-clause-others c =
    inl
    (left_beside c.args.channel c.number.result c.args.change.now c.args.days.now.items c.take_out.new.days.items
    (c.number.ensures ∙ ap (λ d. d.number) c.day-day.ensures) c.take_out.ensures.left)

pub returns-in_default-copied-clause-known : goal.returns-in_default-copied-clause-known
returns-in_default-copied-clause-known c = λ rows known is.
    let change = c.args.change.now in
    let days = c.args.days.now.items in
    let numbered = c.number.ensures ∙ ap (λ d. d.number) c.day-day.ensures in
    let left = left_beside c.args.channel c.number.result change days c.take_out.new.days.items numbered
    c.take_out.ensures.left in
    subst (AreKnown (changed c.args.channel (OnDay change) rows)) (sym left)
    (known_after_day rows c.args.channel change days is known)

pub returns-in_default-copied-clause-others : goal.returns-in_default-copied-clause-others
returns-in_default-copied-clause-others c =
    inl
    (left_beside c.args.channel c.number.result c.args.change.now c.args.days.now.items c.take_out.new.days.items
    (c.number.ensures ∙ ap (λ d. d.number) c.day-day.ensures) c.take_out.ensures.left)

pub returns-clause-known : goal.returns-clause-known
returns-clause-known c = λ rows known is.
    let change = c.args.change.now in
    let days = c.args.days.now.items in
    let k = c.in-Some.known in
    let found = c.in-Some.ensures.found in
    let numbered = c.number.ensures ∙ ap (λ d. d.number) c.day-day.ensures in
    let left = left_beside c.args.channel c.number.result change days c.take_out.new.days.items numbered
    c.take_out.ensures.left in
    let same : c.in-Ok.day ≡ change.day = c.in-Ok.ensures ∙ c.day-day.ensures in
    c.insert.ensures.known (changed c.args.channel (OnDay change) rows)
    (subst (AreKnown (changed c.args.channel (OnDay change) rows)) (sym left)
    (known_after_day rows c.args.channel change days is known))
    (subst (λ d. IsKnown (changed c.args.channel (OnDay change) rows) (record k { day = d })) (sym same)
    (known_as_day rows c.args.channel change k is
    (subst (λ n. is_day_of c.args.channel n k ≡ true) numbered found.1)
    (All-contains (IsKnown rows) days k known found.0)))

pub returns-clause-others : goal.returns-clause-others
returns-clause-others c =
    let new = record c.in-Some.known { day = c.in-Ok.day } in
    inr (
      new,
      subst (λ ks. Inserts new ks c.insert.new.days.items)
          (left_beside c.args.channel c.number.result c.args.change.now c.args.days.now.items c.take_out.new.days.items
          (c.number.ensures ∙ ap (λ d. d.number) c.day-day.ensures) c.take_out.ensures.left)
          c.insert.ensures.latest,
    )
