-- `RecentDays::fetch`: a part whose day is at hand, or one of the store below, whose day is kept.
use Rattle.std.proofs.Common.{◌≡◌, ℕ, subst, sym}
use Rattle.std.specs.Prelude.{IfSome, Some}
use Rattle.channel_view_model.specs.Centre.{Centre, view_of}
use Rattle.channel_view_model.specs.Need.{IsFetched}
use Rattle.rows_at_hand.specs.Known.{AreKnown, HasAiring, HasDay}
use Rattle.rows_at_hand.proofs.KnownLemmas.{part_with, part_with_airing}
use Rattle.rows_at_hand.proofs.recent.RecentDaysRowStore.fetch.Goals as goal

pub returns-in_err-day-clause-same : goal.returns-in_err-day-clause-same
returns-in_err-day-clause-same g c = λ clean rows stands. (stands.0, c.day_asked.ensures.known rows stands.1)

pub returns-in_err-part-clause-same : goal.returns-in_err-part-clause-same
returns-in_err-part-clause-same g c =
    λ clean rows stands. (c.in_err-part.ensures.same clean rows stands.0, c.day_asked.ensures.known rows stands.1)

pub returns-in_err-airing-clause-same : goal.returns-in_err-airing-clause-same
returns-in_err-airing-clause-same g c = λ clean rows stands. (stands.0, c.day_asked.ensures.known rows stands.1)

pub returns-in_err-part-2-clause-same : goal.returns-in_err-part-2-clause-same
returns-in_err-part-2-clause-same g c =
    λ clean rows stands. (c.in_err-part-2.ensures.same clean rows stands.0, c.day_asked.ensures.known rows stands.1)

pub returns-in_err-part-3-clause-same : goal.returns-in_err-part-3-clause-same
returns-in_err-part-3-clause-same g c =
    λ clean rows stands. (c.in_err-part-3.ensures.same clean rows stands.0, c.day_asked.ensures.known rows stands.1)

pub returns-in_default-2-clause-part : goal.returns-in_default-2-clause-part
returns-in_default-2-clause-part g c = λ clean rows stands.
    let channel = c.args.channel in
    let need = c.args.need.now in
    let part = c.in_ok-part-2.part in
    let fetched = c.in_ok-part-2.ensures.part clean rows stands.0 in
    let asked =
    subst
    (λ o. IfSome o
    (λ d. (need.day ≡ Some d.number)
    × ((rows : Centre) → AreKnown rows c.args.self.now.days.items → HasDay rows channel d))) c.in-Some.is
    c.in_ok-day.ensures.day in
    subst (IsFetched need (view_of channel rows)) (sym c.with_day.ensures)
    (part_with rows channel need c.beside_day-beside.result part c.in-Some.day c.beside_day-beside.ensures fetched
    asked.0 (asked.1 rows stands.1))

pub returns-clause-part : goal.returns-clause-part
returns-clause-part g c = λ clean rows stands.
    let channel = c.args.channel in
    let need = c.args.need.now in
    let beside = c.beside_day-beside.result in
    let day = c.in-Some.day in
    let airing = c.in-Some-2.airing in
    let part = c.in_ok-part-3.part in
    let fetched = c.in_ok-part-3.ensures.part clean rows stands.0 in
    let asked =
    subst
    (λ o. IfSome o
    (λ d. (need.day ≡ Some d.number)
    × ((rows : Centre) → AreKnown rows c.args.self.now.days.items → HasDay rows channel d))) c.in-Some.is
    c.in_ok-day.ensures.day in
    let asked_airing =
    subst
    (λ o. IfSome o
    (λ a. (n : ℕ) × (beside.aired ≡ Some n)
    × ((rows : Centre) → AreKnown rows c.deref.result.now → HasAiring rows channel n a))) c.in-Some-2.is
    c.in_ok-airing.ensures in
    let known =
    subst (AreKnown rows) (sym c.deref.ensures.value) (c.day_asked.ensures.known rows stands.1) in
    let with_it =
    subst (IsFetched beside (view_of channel rows)) (sym c.with_airing.ensures)
    (part_with_airing rows channel beside part asked_airing.0 airing fetched asked_airing.1
    (asked_airing.2 rows known)) in
    subst (IsFetched need (view_of channel rows)) (sym c.with_day-2.ensures)
    (part_with rows channel need beside c.with_airing.result day c.beside_day-beside.ensures with_it asked.0
    (asked.1 rows stands.1))
