-- `has_item`: whether just this item is among them: it can only stand where one that begins at its position belongs.
use Rattle.std.proofs.Common.{◌≡◌, ◌<◌, ◌≤◌, ◌∙◌, sym, ap, length, get_or, arith, rules}
use Rattle.std.proofs.lemmas.Bool.Decides.{nat_tests}
use Rattle.std.proofs.lemmas.List.{get_or_default}
use Rattle.playlist_core.specs.Item.{planned}
use Rattle.playlist_core.proofs.PlaceLemmas.{stands_at}
use Rattle.playlist_core.proofs.places.has_item.Goals as goal

pub returns-in-Some : goal.returns-in-Some
returns-in-Some c =
    let items = c.args.items.now in
    let x = c.args.item.now in
    let found = c.in-Some.found.now in
    let place = c.place_for.result in
    let got = c.in-Some.ensures.lookup in
    let read : found ≡ get_or items place found = got.1 in
    let within : place < length items = got.3.0 in (
      λ yes. (place, within, get_or_default items place x found within ∙ sym read ∙ c.are_same.ensures.0 yes),
      λ among.
          let there = stands_at planned 0 c.requires.0 items among.0 x x c.requires.1 among.1 among.2 in
          c.are_same.ensures.1
          (read ∙ ap (λ k. get_or items k found) (c.place_for.ensures.value ∙ sym there)
          ∙ get_or_default items among.0 found x among.1 ∙ among.2),
    )

pub returns-in-None : goal.returns-in-None
returns-in-None c =
    let items = c.args.items.now in
    let past = c.in-None.ensures.lookup in
    let le : length items ≤ c.place_for.result = grind (arith, nat_tests, past) in (
      λ no. search rules,
      λ among.
          let there =
          stands_at planned 0 c.requires.0 items among.0 c.args.item.now c.args.item.now c.requires.1 among.1
          among.2 in
          absurd (omega (arith, there, c.place_for.ensures.value)),
    )
