-- `insert_from`: knows the day of a part from now on, where one was asked for and is there.
use Rattle.std.proofs.Common.{◌≡◌, ◌≢◌, ◌∙◌, ap, subst, sym}
use Rattle.std.specs.Prelude.{IfSome}
use Rattle.playlist_core.specs.declared.day.DayState.TheVariants.{NotThere}
use Rattle.channel_view_model.specs.Centre.{view_of}
use Rattle.channel_view_model.specs.Need.{IsFetched}
use Rattle.rows_at_hand.specs.Known.{HasAiring, HasDay}
use Rattle.rows_at_hand.proofs.KnownLemmas.{part_airing, part_has}
use Rattle.rows_at_hand.proofs.recent.insert_from.Goals as goal

pub returns-in-Ok-clause-known : goal.returns-in-Ok-clause-known
returns-in-Ok-clause-known c = λ rows rules known fetched.
    let channel = c.args.channel in
    let need = c.args.need.now in
    let part = c.in-Some.part in
    let aired = c.airing_in-aired.result in
    let its = subst (IsFetched need (view_of channel rows)) c.in-Some.is fetched in
    let same : c.in-Ok.day ≡ c.in-Some-day.day = c.in-Ok.ensures in
    let there : c.in-Some-day.day.state ≢ NotThere =
    λ same. c.in_default-state.not-NotThere (c.state.ensures ∙ same) in
    c.insert.ensures.known rows known (record {
      rules = rules;
      has =
          subst (HasDay rows channel) (sym same)
          (part_has rows channel need part c.in-Some-day.day its c.in-Some-day.is there);
      aired =
          subst (λ n. IfSome aired (HasAiring rows channel n)) (c.number.ensures ∙ ap (λ d. d.number) (sym same))
          (part_airing rows channel need part c.number.result aired its c.airing_in-aired.ensures);
    })
