-- `follow_day`: follows a change of one of the channel's days.
use Rattle.std.proofs.Common.{◌≡◌, ◌∙◌, ap, ap₂, subst, sym, arith}
use Rattle.std.proofs.lemmas.Bool.Decides.{nat_tests}
use Rattle.std.proofs.lemmas.List.Elements.{All-contains}
use Rattle.vault_core.specs.Questions.{replaced}
use Rattle.report_texts.specs.Days.{day_counts}
use Rattle.channel_view_model.specs.declared.command.Change.TheVariants.{Day as OnDay}
use Rattle.channel_view_model.specs.Centre.{changed}
use Rattle.rows_at_hand.specs.Counted.{AreCounted, IsCounted, batches_told}
use Rattle.rows_at_hand.proofs.CountedLemmas.{counted_with_day, others_after_day}
use Rattle.rows_at_hand.proofs.counts.follow_day.Goals as goal

pub returns-in_default-clause-counted : goal.returns-in_default-clause-counted
returns-in_default-clause-counted c = λ rows counted is.
    let change = c.args.change.now in
    subst (AreCounted (changed c.args.channel (OnDay change) rows)) (sym c.take_out.ensures.left)
    (others_after_day rows c.args.channel change c.args.channels.now.items is counted)

pub returns-in_default-put-clause-counted : goal.returns-in_default-put-clause-counted
returns-in_default-put-clause-counted c = λ rows counted is.
    let change = c.args.change.now in
    subst (AreCounted (changed c.args.channel (OnDay change) rows)) (sym c.take_out.ensures.left)
    (others_after_day rows c.args.channel change c.args.channels.now.items is counted)

pub returns-clause-counted : goal.returns-clause-counted
returns-clause-counted c = λ rows counted is.
    let ch = c.args.channel in
    let change = c.args.change.now in
    let channels = c.args.channels.now.items in
    let k = c.in-Some.known in
    let found = c.in-Some.ensures.found in
    let mine : k.channel ≡ ch = grind (arith, nat_tests, found.1) in
    let number = c.number.ensures ∙ ap (λ d. d.number) c.day-day.ensures in
    let told =
    c.counts_of.ensures
    ∙ ap₂ (λ n d. day_counts n d)
    (c.batches_told-batches.ensures ∙ ap₂ batches_told c.deref.ensures.value number) c.day-day.ensures in
    c.learn.ensures.counted (changed ch (OnDay change) rows)
    (subst (AreCounted (changed ch (OnDay change) rows)) (sym c.take_out.ensures.left)
    (others_after_day rows ch change channels is counted))
    (counted_with_day rows ch k _ mine mine (All-contains (IsCounted rows) channels k counted found.0) change is
    (c.in-Ok.ensures ∙ ap (λ d. replaced (λ x. x.number) d k.counts.items) told))
