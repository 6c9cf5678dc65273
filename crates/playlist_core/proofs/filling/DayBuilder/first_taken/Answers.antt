-- `DayBuilder::first_taken`: the first frame of a range within the day that an item covers.
use Rattle.std.proofs.Common.{◌≡◌, ◌≤◌, ◌+◌, ◌∙◌, length, refl, sym, ap, subst, arith}
use Rattle.std.specs.List.{position_or_len}
use Rattle.std.proofs.lemmas.Bool.Decides.{nat_tests}
use Rattle.playlist_core.specs.Picture.{first_painted}
use Rattle.playlist_core.specs.Item.{planned}
use Rattle.playlist_core.specs.Day.{Day, picture_in}
use Rattle.playlist_core.proofs.OrderLemmas.{ends_behind}
use Rattle.playlist_core.proofs.TakenLemmas.{taken-first_painted}
use Rattle.playlist_core.proofs.PlaceLemmas.{taken_here, taken_nowhere}
use Rattle.playlist_core.proofs.filling.DayBuilder.first_taken.Goals as goal

pub returns-in-None : goal.returns-in-None
returns-in-None c =
    let items = c.self.inside.items.items in
    let past = c.in-None.ensures.lookup in
    let place : c.place_for.result ≡ position_or_len (ends_behind planned c.args.position) items =
    c.place_for.ensures.value
    ∙ ap (λ (d : Day). position_or_len (ends_behind planned c.args.position) d.items) (sym c.self.view_is) in
    let within : c.args.position + c.args.frames ≤ c.self.inside.frames =
    subst (λ (d : Day). c.args.position + c.args.frames ≤ d.frames) (sym c.self.view_is) c.requires.within in
    let le : length items ≤ c.place_for.result = grind (arith, nat_tests, past) in
    sym (taken_nowhere planned c.args.position c.args.frames items c.place_for.result place le)
    ∙ taken-first_painted planned c.args.position c.args.frames c.requires.some c.self.inside.frames items
    c.self.invariant.0.apart within
    ∙ ap (λ (d : Day). first_painted c.args.position c.args.frames (picture_in d)) c.self.view_is

pub returns-in-Some : goal.returns-in-Some
returns-in-Some c =
    let items = c.self.inside.items.items in
    let got = c.in-Some.ensures.lookup in
    let place : c.place_for.result ≡ position_or_len (ends_behind planned c.args.position) items =
    c.place_for.ensures.value
    ∙ ap (λ (d : Day). position_or_len (ends_behind planned c.args.position) d.items) (sym c.self.view_is) in
    let within : c.args.position + c.args.frames ≤ c.self.inside.frames =
    subst (λ (d : Day). c.args.position + c.args.frames ≤ d.frames) (sym c.self.view_is) c.requires.within in
    c.taken_by.ensures
    ∙ sym
    (taken_here planned c.args.position c.args.frames items c.place_for.result c.in-Some.next.now place
    (omega (arith, c.in-Some.ensures.variant.0 refl, c.self.inside.items.ok.0)) got)
    ∙ taken-first_painted planned c.args.position c.args.frames c.requires.some c.self.inside.frames items
    c.self.invariant.0.apart within
    ∙ ap (λ (d : Day). first_painted c.args.position c.args.frames (picture_in d)) c.self.view_is
