-- `follow_airing`: follows what was aired of one of the channel's days.
use Rattle.std.proofs.Common.{rules, ◌≡◌, ◌∙◌, ap₂, length, map, subst, sym, arith, refl}
use Rattle.std.proofs.lemmas.Bool.Decides.{nat_tests}
use Rattle.std.proofs.lemmas.List.Elements.{All-contains}
use Rattle.channel_view_model.specs.declared.command.Change.TheVariants.{Airing as OnAiring}
use Rattle.channel_view_model.specs.Centre.{changed}
use Rattle.rows_at_hand.specs.Counted.{AreCounted, IsCounted, with_batches}
use Rattle.rows_at_hand.proofs.CountedLemmas.{counted_with_airing, others_after_airing}
use Rattle.rows_at_hand.proofs.counts.follow_airing.Goals as goal

pub returns-in_default-clause-counted : goal.returns-in_default-clause-counted
returns-in_default-clause-counted c = λ rows counted is.
    let airing = c.args.airing.now in
    subst (AreCounted (changed c.args.channel (OnAiring airing) rows)) (sym c.take_out.ensures.left)
    (others_after_airing rows c.args.channel airing c.args.channels.now.items is counted)

pub returns-in_default-with_batches-clause-counted : goal.returns-in_default-with_batches-clause-counted
returns-in_default-with_batches-clause-counted c = λ rows counted is.
    let airing = c.args.airing.now in
    subst (AreCounted (changed c.args.channel (OnAiring airing) rows)) (sym c.take_out.ensures.left)
    (others_after_airing rows c.args.channel airing c.args.channels.now.items is counted)

pub returns-clause-counted : goal.returns-clause-counted
returns-clause-counted c = λ rows counted is.
    let ch = c.args.channel in
    let airing = c.args.airing.now in
    let channels = c.args.channels.now.items in
    let k = c.in-Some.known in
    let found = c.in-Some.ensures.found in
    let mine : k.channel ≡ ch = grind (arith, nat_tests, found.1) in
    let count : length c.batches-batches.result.now ≡ length airing.aired.batches = search rules in
    c.learn.ensures.counted (changed ch (OnAiring airing) rows)
    (subst (AreCounted (changed ch (OnAiring airing) rows)) (sym c.take_out.ensures.left)
    (others_after_airing rows ch airing channels is counted))
    (counted_with_airing rows ch k _ mine refl (All-contains (IsCounted rows) channels k counted found.0) airing is
    (c.in-Ok.ensures
    ∙ ap₂ (λ n l. map (with_batches airing.day n) l) count c.deref.ensures.value))
