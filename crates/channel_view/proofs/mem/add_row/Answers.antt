-- `add_row`: a new row, behind the channel's others.
use Rattle.std.proofs.Common.{◌∙◌, ap, sym, subst}
use Rattle.std.specs.Prelude.{nat_lt, insert}
use Rattle.std.specs.List.{position_or_len}
use Rattle.std.specs.List.Sorted.{IsNonDecreasingBy}
use Rattle.std.proofs.Common.{◌≡◌, true}
use Rattle.channel_view_model.specs.Tables.{add_row, is_in_order}
use Rattle.channel_view_model.proofs.TableLemmas.{in_order-add}
use Rattle.channel_view_rules.proofs.PlaceLemmas.{at_place}
use Rattle.channel_view_rules.proofs.BisectLemmas.{rises, end_is_place}
use Rattle.channel_view.proofs.mem.add_row.Goals as goal

pub channel_end-at-requires : goal.channel_end-at-requires
channel_end-at-requires g c =
    subst (IsNonDecreasingBy (λ r. r.0)) (sym c.deref.ensures.value) (rises c.args.table.now.items c.requires)

pub returns-clause-ok : goal.returns-clause-ok
returns-clause-ok g c =
    let items = c.deref.result.now in
    let same = c.deref.ensures.value in
    let place =
    end_is_place (λ r. r.0) c.args.channel items c.channel_end-at.result c.channel_end-at.ensures.within
    c.channel_end-at.ensures.place in
    c.in_ok-insert.ensures.items
    ∙ ap (λ i. insert c.args.table.now.items i (c.args.channel, c.args.row)) place
    ∙ ap (λ rows. insert rows (position_or_len (λ r. nat_lt c.args.channel r.0) items) (c.args.channel, c.args.row))
    (sym same)
    ∙ sym (at_place (λ r. nat_lt c.args.channel r.0) (c.args.channel, c.args.row) items)
    ∙ ap (add_row c.args.channel c.args.row) same

pub returns-clause-order : goal.returns-clause-order
returns-clause-order g c =
    subst (λ rows. is_in_order rows ≡ true) (sym (returns-clause-ok g c))
    (in_order-add c.args.channel c.args.row c.args.table.now.items c.requires)
