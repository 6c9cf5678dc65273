-- `part_of_both`: the part that a command needs, of the vaults at hand and of a part of days.
use Rattle.std.proofs.Common.{◌∙◌, sym, ap, subst, refl}
use Rattle.std.specs.Prelude.{is_some}
use Rattle.channel_view_model.specs.Centre.{view_of}
use Rattle.channel_view_model.specs.Need.{IsFetched}
use Rattle.rows_at_hand.specs.Known.{with_airing}
use Rattle.rows_at_hand.proofs.AtHandLemmas.{both_parts}
use Rattle.rows_at_hand.proofs.at_hand.part_of_both.Goals as goal

pub returns : goal.returns
returns c = λ rows at fetched.
    let need = c.args.need.now in
    let channel = c.args.channel in
    let no_day = ap (λ n. is_some n.day) c.beside_day.ensures.others in
    let got = c.in_ok-part.ensures rows at no_day refl in
    subst (IsFetched need (view_of channel rows))
    (sym (c.with_airing.ensures ∙ ap (with_airing c.args.days.aired) c.with_day.ensures))
    (both_parts rows channel need c.beside_day.result c.args.days c.in_ok-part.part fetched c.beside_day.ensures got)
