-- `a_revision_is_its_commands`: a revision of a day is the commands for one item, one after another.
use Rattle.std.specs.Prelude.{◌≡◌, ℕ, List, Result, Ok, Err}
use Rattle.std.proofs.Common.{refl, ◌∙◌, ap}
use Rattle.channel_plan.specs.declared.plan.PlanRow.{PlanRow}
use Rattle.channel_plan.specs.declared.refusal.Refusal.{Refusal}
use Rattle.playlist_core.specs.declared.item.Item.{Item}
use Rattle.playlist_core.specs.Day.{Day, number_removed, without_item}
use Rattle.playlist_core.specs.Difference.{changed_day}
use Rattle.channel_view_model.specs.declared.command.Reply.TheVariants.{Item as ItemOf}
use Rattle.channel_view_model.specs.declared.command.Change.TheVariants.{Day as OnDay}
use Rattle.channel_view_model.specs.Days.{frame_named, item_at, item_of_said, item_said, kind_of_mix}
use Rattle.channel_view_model.specs.Decide.{answered, day_decision, item_added}
use Rattle.channel_view_model.specs.Revising.{kind_said, of_kind, put_in, taken_out}
use Rattle.channel_view_laws.specs.Revisions.{day_decided}
use Rattle.channel_view_laws.proofs.laws.a_revision_is_its_commands.Goals as goal

pub returns-clause-takes_out : goal.returns-clause-takes_out
unfolding day_decision
returns-clause-takes_out c plan seen day n = by (number_removed day n)
  where
    by : (r : Result ℕ Refusal)
        → taken_out n day r
        ≡ day_decided day (answered (λ m. (ItemOf m, OnDay (changed_day day (without_item n day)))) r)
    by (Ok m) = refl
    by (Err e) = refl

-- an item without a wipe's number is what its mix makes it
plain : (mix : ℕ) (plan : PlanRow) (frames : ℕ) (source : List ℕ) (at first : Result ℕ Refusal)
    → of_kind (kind_of_mix mix) (item_at plan frames mix source at first) ≡ item_at plan frames mix source at first
plain mix plan frames source (Err e) first = refl
plain mix plan frames source (Ok at) (Err e) = refl
plain mix plan frames source (Ok at) (Ok first) = refl

added : (day : Day) (r : Result Item Refusal) → put_in day r ≡ day_decided day (item_added day r)
added day (Ok item) = refl
added day (Err e) = refl

pub returns-clause-puts_in : goal.returns-clause-puts_in
unfolding day_decision
returns-clause-puts_in c plan seen day said none =
    ap (λ w. put_in day
    (item_of_said day plan seen
    (of_kind (kind_said w said.mix) (item_said plan said.at said.frames said.source_in said.mix said.source)))) none
    ∙ ap (λ r. put_in day (item_of_said day plan seen r))
    (plain said.mix plan said.frames said.source (frame_named plan said.at) (frame_named plan said.source_in))
    ∙ added day (item_of_said day plan seen (item_said plan said.at said.frames said.source_in said.mix said.source))
