-- `follow_airing`: knows of a day that is known what was aired of it after a change.
use Rattle.std.proofs.Common.{subst, sym}
use Rattle.std.proofs.lemmas.List.Elements.{All-contains}
use Rattle.channel_view_model.specs.declared.command.Change.TheVariants.{Airing as OnAiring}
use Rattle.channel_view_model.specs.Centre.{changed}
use Rattle.rows_at_hand.specs.Known.{AreKnown, IsKnown}
use Rattle.rows_at_hand.proofs.KnownLemmas.{known_after_airing, known_as_airing}
use Rattle.rows_at_hand.proofs.following.follow_airing.Goals as goal

pub returns-in_default-clause-known : goal.returns-in_default-clause-known
returns-in_default-clause-known c = λ rows known is.
    let airing = c.args.airing.now in
    subst (AreKnown (changed c.args.channel (OnAiring airing) rows)) (sym c.take_out.ensures.left)
    (known_after_airing rows c.args.channel airing c.args.days.now.items is known)

pub returns-clause-known : goal.returns-clause-known
returns-clause-known c = λ rows known is.
    let airing = c.args.airing.now in
    let days = c.args.days.now.items in
    let found = c.in-Some.ensures.found in
    c.insert.ensures.known (changed c.args.channel (OnAiring airing) rows)
    (subst (AreKnown (changed c.args.channel (OnAiring airing) rows)) (sym c.take_out.ensures.left)
    (known_after_airing rows c.args.channel airing days is known))
    (known_as_airing rows c.args.channel airing c.in-Some.known c.airing_kept.result is found.1
    (All-contains (IsKnown rows) days c.in-Some.known known found.0)
    c.airing_kept.ensures)
