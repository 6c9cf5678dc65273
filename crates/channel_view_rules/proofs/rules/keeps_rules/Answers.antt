-- `keeps_rules`: whether the channels are a plan in order, and each table of the set has rows of these channels alone.
use Rattle.std.proofs.Common.{rules}
use Rattle.std.specs.Prelude.{IsTrue}
use Rattle.channel_view_rules.proofs.rules.keeps_rules.Goals as goal

pub returns : goal.returns
returns c =
    let is_own : IsTrue c.in_ok-keeps_own_tables.field-0 = search rules in
    let are_days : IsTrue c.in_ok-keeps_days.field-0 = search rules in
    let own = c.in_ok-keeps_own_tables.ensures.0 is_own in
    let days = c.in_ok-keeps_days.ensures.0 are_days in (
      λ t. record
          { plan = own.0; tables = own.1.tables; own = own.1.own; days = days; aired = c.keeps_airings.ensures.0 t },
      λ kept. c.keeps_airings.ensures.1 kept.aired,
    )
