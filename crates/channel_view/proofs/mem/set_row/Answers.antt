-- `set_row`: the row in the place of the channel's with this number.
use Rattle.std.proofs.Common.{◌≡◌, ◌<◌, true, length, subst, sym}
use Rattle.std.specs.Prelude.{◌==◌, slice_index_or, slice_set}
use Rattle.vault_core.specs.Rules.{is_numbered_from}
use Rattle.channel_view_model.specs.Tables.{rows_of, alter_row}
use Rattle.channel_view.proofs.NumberLemmas.{order-set}
use Rattle.channel_view.proofs.mem.set_row.Goals as goal

pub returns-in-Some-clause-rows : goal.returns-in-Some-clause-rows
returns-in-Some-clause-rows g c = λ number h.
    let same = c.deref.ensures.value in
    let r = c.index_mut.result.now in
    subst
    (λ rows. slice_set rows c.in-Some.place (r.0, c.args.row)
    ≡ alter_row c.args.channel (λ x. number x == c.args.number) (λ x. c.args.row) rows) same
    (c.in-Some.ensures.changed number (λ x. c.args.row)
    (subst (λ rows. is_numbered_from number 1 (rows_of c.args.channel rows) ≡ true) (sym same) h)
    r (subst (λ rows. r ≡ slice_index_or rows c.in-Some.place r) (sym same) c.index_mut.ensures.value))

pub returns-in-Some-clause-order : goal.returns-in-Some-clause-order
returns-in-Some-clause-order g c =
    order-set c.args.table.now.items c.in-Some.place c.index_mut.result.now _
    (subst (λ rows. c.in-Some.place < length rows) c.deref.ensures.value c.in-Some.ensures.within)
    c.index_mut.ensures.value c.requires

pub returns-in_default-clause-rows : goal.returns-in_default-clause-rows
returns-in_default-clause-rows g c = λ number h.
    let same = c.deref.ensures.value in
    subst (λ rows. rows ≡ alter_row c.args.channel (λ x. number x == c.args.number) (λ x. c.args.row) rows) same
    (c.in_default.ensures.none number (λ x. c.args.row)
    (subst (λ rows. is_numbered_from number 1 (rows_of c.args.channel rows) ≡ true) (sym same) h))
