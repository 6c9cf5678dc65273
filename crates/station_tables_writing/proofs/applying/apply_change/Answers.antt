-- `apply_change`: applies a change that isn't empty inside a transaction, which stays open.
use Rattle.std.proofs.Common.{◌≡◌, ◌≢◌, true, rules, subst, arith}
use Rattle.std.specs.Prelude.{IsTrue, OnOk}
use Rattle.std.specs.List.{list_all}
use Rattle.sqlite.specs.State.{HasCleanDisk}
use Rattle.playlist_core.specs.Day.{Day}
use Rattle.playlist_core.specs.declared.day.DayState.TheVariants.{NotThere}
use Rattle.channel_view_model.specs.declared.command.Change.TheVariants.{Vault, Day as OnDay, Airing as OnAiring}
use Rattle.station_tables_records.specs.MadeDays.{has_texts}
use Rattle.station_tables_records.specs.Inside.{inside}
use Rattle.station_tables_statements.specs.Rows.{HoldsSet}
use Rattle.station_tables_statements.proofs.LookLemmas.{weaker}
use Rattle.station_tables_statements.proofs.DayLookLemmas.{has_airings, has_days}
use Rattle.station_tables_writing.proofs.ChangeLemmas.{comes_from, gets_batch, holds_airing, holds_day, of_kind}
use Rattle.station_tables_writing.proofs.applying.apply_change.Goals as goal

pub returns-in-Nothing-clause-set : goal.returns-in-Nothing-clause-set
returns-in-Nothing-clause-set g c made = absurd (made c.in-Nothing.is)

pub returns-in-Vault-clause-set : goal.returns-in-Vault-clause-set
returns-in-Vault-clause-set g c made rows has is clean =
    let new = inside g.S.Store c.apply_own.new.tx in
    of_kind c.args.channel _ (Vault c.in-Vault.put c.in-Vault.own) c.in-Vault.is rows is
    (λ all. OnOk c.map_err.result (IsTrue new.is_open × HoldsSet all new.now)) (λ asked.
    let set = c.apply_own.ensures.set rows has asked clean in search (rules, set))

pub returns-else-not-can_be_written-clause-set : goal.returns-else-not-can_be_written-clause-set
returns-else-not-can_be_written-clause-set g c made rows has is clean =
    let old = inside g.S.Store c.args.tx.now in
    let new = inside g.S.Store c.replace_day.new.tx in
    let ch = c.args.channel in
    let d = c.in-Day.day in
    let early : HasCleanDisk old = omega (arith, c.replace_day.ensures.writes.survives.clean, clean) in
    let texts : list_all has_texts d.day.items ≡ true =
    subst (λ (day : Day). list_all has_texts day.items ≡ true) c.day.ensures c.can_be_written.ensures.texts in
    let stands : d.day.state ≢ NotThere =
    subst (λ (day : Day). day.state ≢ NotThere) c.day.ensures (c.can_be_written.ensures.there (search rules)) in
    of_kind ch _ (OnDay d) c.in-Day.is rows is
    (λ all. OnOk c.replace_day.result (IsTrue new.is_open × HoldsSet all new.now)) (λ asked.
    weaker c.replace_day.result
    (λ puts. (
      puts.shown.is_open,
      holds_day ch d rows asked c.rules_are_kept.ensures old new (has early puts.shown.was_open)
          puts,
    ))
    (c.replace_day.ensures.puts texts stands (comes_from ch d rows asked old has)
    (has_days old (λ early held. (has early held).centre)) clean))

pub returns-in-Airing-clause-set : goal.returns-in-Airing-clause-set
returns-in-Airing-clause-set g c made rows has is clean =
    let old = inside g.S.Store c.args.tx.now in
    let new = inside g.S.Store c.put_airing.new.tx in
    let ch = c.args.channel in
    let a = c.in-Airing.airing in
    let early : HasCleanDisk old = omega (arith, c.put_airing.ensures.writes.survives.clean, clean) in
    of_kind ch _ (OnAiring a) c.in-Airing.is rows is
    (λ all. OnOk c.put_airing.result (IsTrue new.is_open × HoldsSet all new.now)) (λ asked.
    weaker c.put_airing.result
    (λ puts. (
      puts.shown.is_open,
      holds_airing ch a rows asked c.rules_are_kept.ensures old new
          (has early puts.shown.was_open) puts,
    ))
    (c.put_airing.ensures.puts (gets_batch ch a rows asked old has)
    (has_airings old (λ early held. (has early held).centre)) clean))
