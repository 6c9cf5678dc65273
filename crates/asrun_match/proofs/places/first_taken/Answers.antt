-- `first_taken`: the first frame of a range that a row covers.
use Rattle.std.proofs.Common.{◌≤◌, ◌∙◌, length, sym, arith}
use Rattle.std.proofs.lemmas.Bool.Decides.{nat_tests}
use Rattle.asrun_match.specs.Aired.{aired}
use Rattle.playlist_core.proofs.TakenLemmas.{taken-first_painted}
use Rattle.playlist_core.proofs.PlaceLemmas.{taken_here, taken_nowhere}
use Rattle.asrun_match.proofs.places.first_taken.Goals as goal

pub returns-in_err-row : goal.returns-in_err-row
returns-in_err-row c = λ day apart within.
    let items = c.args.rows.now in
    let past = c.in_err-row.ensures.lookup in
    let le : length items ≤ c.place_for.result = grind (arith, nat_tests, past) in
    c.from_residual.ensures
    ∙ sym (taken_nowhere aired c.args.position c.args.frames items c.place_for.result c.place_for.ensures.value le)
    ∙ taken-first_painted aired c.args.position c.args.frames c.requires.some day items apart within

pub returns-then-from : goal.returns-then-from
returns-then-from c = λ day apart within.
    let items = c.args.rows.now in
    let got = c.in_ok-row.ensures.lookup in
    let here =
    taken_here aired c.args.position c.args.frames items c.place_for.result c.in_ok-row.row.now
    c.place_for.ensures.value got.3.0 got.1 in
    let all = taken-first_painted aired c.args.position c.args.frames c.requires.some day items apart within in
    grind (arith, nat_tests, here, all)

pub returns-else-from : goal.returns-else-from
returns-else-from c = λ day apart within.
    let items = c.args.rows.now in
    let got = c.in_ok-row.ensures.lookup in
    let here =
    taken_here aired c.args.position c.args.frames items c.place_for.result c.in_ok-row.row.now
    c.place_for.ensures.value got.3.0 got.1 in
    let all = taken-first_painted aired c.args.position c.args.frames c.requires.some day items apart within in
    grind (arith, nat_tests, here, all)
