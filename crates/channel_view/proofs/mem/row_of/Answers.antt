-- `row_of`: the row with this number, which is its place, counted from 1.
use Rattle.std.proofs.Common.{◌<◌, ◌≤◌, ◌-◌, ◌∙◌, ap, sym, refl, length, arith}
use Rattle.std.specs.Option.{option_map}
use Rattle.std.proofs.lemmas.Bool.Decides.{nat_tests}
use Rattle.std.proofs.lemmas.Option.{slice_get_past, slice_get_read}
use Rattle.channel_view_model.specs.Tables.{rows_alone}
use Rattle.vault_core.proofs.NumberLemmas.{none_below}
use Rattle.channel_view.proofs.NumberLemmas.{numbered_from_one}
use Rattle.channel_view.proofs.mem.row_of.Goals as goal

pub returns-then-number-eq0 : goal.returns-then-number-eq0
returns-then-number-eq0 g c =
    λ number_of h. sym
    (none_below number_of (rows_alone c.args.rows.now) 1 c.args.number h
    (grind (arith, nat_tests, c.if-number-eq0.true)))

pub returns-in_err-row : goal.returns-in_err-row
returns-in_err-row g c = λ number_of h.
    let tapes = c.args.rows.now in
    let past : length tapes ≤ c.args.number - 1 = grind (arith, nat_tests, c.in_err-row.ensures.lookup) in
    c.from_residual.ensures ∙ ap (option_map (λ r. r.1)) (sym (slice_get_past tapes (c.args.number - 1) past))
    ∙ numbered_from_one number_of tapes c.args.number h (omega (arith, c.if-number-eq0.false))

pub returns : goal.returns
returns g c = λ number_of h.
    let tapes = c.args.rows.now in
    let within : c.args.number - 1 < length tapes = grind (arith, nat_tests, c.in_ok-row.ensures.lookup) in
    ap (option_map (λ r. r.1))
    (sym
    (slice_get_read tapes (length tapes) (c.args.number - 1) c.in_ok-row.row.now refl within
    c.in_ok-row.ensures.lookup.1))
    ∙ numbered_from_one number_of tapes c.args.number h (omega (arith, c.if-number-eq0.false))
