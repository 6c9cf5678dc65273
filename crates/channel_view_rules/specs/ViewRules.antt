-- The integrity rules of what one channel sees.
use Rattle.std.specs.Prelude.{◌≡◌, true}
use Rattle.channel_view_model.specs.declared.view.View.{View}
use Rattle.channel_view_model.specs.Seen.{seen_in, sources_seen}
use Rattle.channel_view_model.specs.Rules.{are_days_of, are_airings_of}

-- Its days are numbered and show what is there, and what was aired is of its sealed days. Its own rows, those lent to
-- it, each day and what was aired of each keep their own rules by their types.
pub record KeepsViewRules (view : View) : Type 0 where
  pub days : are_days_of view.own.plan (sources_seen (seen_in view)) 0 view.days ≡ true
  pub aired : are_airings_of view.own.plan view.days 0 view.aired ≡ true
