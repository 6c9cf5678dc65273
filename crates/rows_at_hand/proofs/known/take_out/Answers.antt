-- `take_out`: takes the channel's day of this number out, if it is known.
use Rattle.std.proofs.Common.{◌≡◌, ◌<◌, ◌∙◌, false, not, length, get_or, ap, subst, sym}
use Rattle.std.specs.Prelude.{filter}
use Rattle.std.specs.List.{All}
use Rattle.rows_at_hand.specs.Known.{is_day_of}
use Rattle.rows_at_hand.proofs.LatestLemmas.{filter-removed, none_out}
use Rattle.rows_at_hand.proofs.known.take_out.Goals as goal

pub returns-in_err-place-clause-left : goal.returns-in_err-place-clause-left
returns-in_err-place-clause-left c =
    sym
    (none_out (is_day_of c.args.channel c.args.number) c.args.days.now.items
    (subst (All (λ k. is_day_of c.args.channel c.args.number k ≡ false)) c.deref.ensures.value
    c.in_err-place.ensures.none))

pub returns-clause-left : goal.returns-clause-left
returns-clause-left c =
    let days = c.args.days.now.items in
    let known = c.remove-known.result in
    let place = c.in_ok-place.place in
    c.forget.ensures.items
    ∙ ap (filter (λ k. not (is_day_of c.args.channel c.args.number k))) c.remove-known.ensures.items
    ∙ filter-removed (λ k. not (is_day_of c.args.channel c.args.number k)) days place known
    (subst (λ ks. place < length ks) c.deref.ensures.value c.in_ok-place.ensures.some.0)
    (subst (λ ks. not (is_day_of c.args.channel c.args.number (get_or ks place known)) ≡ false) c.deref.ensures.value
    (ap not (c.in_ok-place.ensures.some.1 known)))
