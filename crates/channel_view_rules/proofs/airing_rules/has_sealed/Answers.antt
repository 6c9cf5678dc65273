-- `has_sealed`: whether one of the days has this number, and is sealed.
use Rattle.std.proofs.Common.{◌≡◌, ◌<◌, ◌≤◌, length, true, false, sym, ap, ◌∙◌, arith}
use Rattle.std.specs.Prelude.{◌==◌}
use Rattle.std.proofs.lemmas.Bool.Decides.{nat_tests}
use Rattle.playlist_core.specs.Day.{Day}
use Rattle.channel_view_model.specs.Rules.{is_sealed}
use Rattle.channel_view_rules.proofs.AiringWalkLemmas.{none_sealed, one_sealed}
use Rattle.channel_view_rules.proofs.airing_rules.has_sealed.Goals as goal

pub returns-in-None : goal.returns-in-None
returns-in-None g c =
    let at = c.in-None.ensures.lookup.0 in
    let past : length c.args.days.now ≤ c.place_of.result = grind (arith, nat_tests, at) in
    none_sealed g.D.OfDay.day_of c.args.number c.args.days.now c.place_of.result c.requires c.place_of.ensures.place
    c.place_of.ensures.within past

pub returns-then-number : goal.returns-then-number
returns-then-number g c =
    let day = g.D.OfDay.day_of in
    let row = c.in-Some.row.now in
    let at = c.in-Some.ensures.lookup.0 in
    let within : c.place_of.result < length c.args.days.now = grind (arith, nat_tests, at) in
    let there =
    one_sealed day c.args.number c.args.days.now c.place_of.result c.requires c.place_of.ensures.place
    c.place_of.ensures.within row within c.in-Some.ensures.lookup.1 in
    let same : ((day row).number == c.args.number) ≡ true =
    ap (λ (d : Day). d.number == c.args.number) (sym c.day.ensures)
    ∙ ap (λ n. n == c.args.number) (sym c.number.ensures) ∙ grind (arith, nat_tests, c.if-number.true) in
    let state =
    ap (λ (d : Day). is_sealed d.state) (sym c.day-then-number.ensures) ∙ ap is_sealed (sym c.state.ensures)
    ∙ sym c.is_sealed.ensures in
    sym state ∙ grind (arith, same, there)

pub returns-else-number : goal.returns-else-number
returns-else-number g c =
    let day = g.D.OfDay.day_of in
    let row = c.in-Some.row.now in
    let at = c.in-Some.ensures.lookup.0 in
    let within : c.place_of.result < length c.args.days.now = grind (arith, nat_tests, at) in
    let there =
    one_sealed day c.args.number c.args.days.now c.place_of.result c.requires c.place_of.ensures.place
    c.place_of.ensures.within row within c.in-Some.ensures.lookup.1 in
    let number =
    ap (λ (d : Day). d.number == c.args.number) (sym c.day.ensures)
    ∙ ap (λ n. n == c.args.number) (sym c.number.ensures) in
    let other : (c.number.result == c.args.number) ≡ false = grind (arith, nat_tests, c.if-number.false) in
    other ∙ grind (arith, number, other, there)
