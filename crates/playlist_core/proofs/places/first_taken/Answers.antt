-- `first_taken`: the first frame of a range that an item covers.
use Rattle.std.proofs.Common.{◌≤◌, ◌∙◌, length, sym, arith}
use Rattle.std.proofs.lemmas.Bool.Decides.{nat_tests}
use Rattle.playlist_core.specs.Item.{planned}
use Rattle.playlist_core.proofs.TakenLemmas.{taken-first_painted}
use Rattle.playlist_core.proofs.PlaceLemmas.{taken_here, taken_nowhere}
use Rattle.playlist_core.proofs.places.first_taken.Goals as goal

pub returns-in-None : goal.returns-in-None
returns-in-None c = λ day apart within.
    let items = c.args.items.now in
    let past = c.in-None.ensures.lookup in
    let le : length items ≤ c.place_for.result = grind (arith, nat_tests, past) in
    sym (taken_nowhere planned c.args.position c.args.frames items c.place_for.result c.place_for.ensures.value le)
    ∙ taken-first_painted planned c.args.position c.args.frames c.requires.some day items apart within

pub returns-in-Some : goal.returns-in-Some
returns-in-Some c = λ day apart within.
    let items = c.args.items.now in
    let got = c.in-Some.ensures.lookup in
    c.taken_by.ensures
    ∙ sym
    (taken_here planned c.args.position c.args.frames items c.place_for.result c.in-Some.next.now
    c.place_for.ensures.value got.3.0 got.1)
    ∙ taken-first_painted planned c.args.position c.args.frames c.requires.some day items apart within
