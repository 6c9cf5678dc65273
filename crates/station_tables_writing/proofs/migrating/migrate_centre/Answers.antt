-- `migrate_centre`: makes a centre of version 1 one of version 2, in one transaction.
use Rattle.std.proofs.Common.{◌≡◌, inr, refl, arith, rules}
use Rattle.sqlite.specs.State.{HasCleanDisk}
use Rattle.sqlite.specs.Held.{state}
use Rattle.station_tables_records.specs.Inside.{inside}
use Rattle.channel_plan.specs.declared.refusal.Code.TheVariants.{NotOurs, Unavailable}
use Rattle.station_tables_records.proofs.MadeLemmas.{handed_on}
use Rattle.station_tables_writing.proofs.migrating.migrate_centre.Goals as goal

pub returns-in_err-migrate_tables-clause-refused : goal.returns-in_err-migrate_tables-clause-refused
returns-in_err-migrate_tables-clause-refused g c =
    handed_on _ c.in_err-migrate_tables.field-0.0 c.from_residual.result c.from_residual.ensures.1 (record {
      codes = c.in_err-migrate_tables.ensures.codes;
      free = λ is first clean.
          let dropped : HasCleanDisk (state g.S.Store c.drop-tx.new.self.0) = search (rules, clean) in
          let before : HasCleanDisk (inside g.S.Store c.migrate_tables.new.tx) =
          omega (arith, dropped, c.drop-tx.ensures.survives.clean) in
          (rw c.transaction-tx.ensures.begun at c.in_err-migrate_tables.ensures.free) first before is;
      left = λ clean. search (rules, clean);
      ours = λ is. search (rules);
    })

pub returns-in-Ok-clause-made : goal.returns-in-Ok-clause-made
returns-in-Ok-clause-made g c = record {
  ok = λ clean rows first. search (rules, clean, first);
  alone = λ clean. search (rules, clean);
  taken = λ has clean. search (rules, has, clean);
}

pub returns-in-Err-clause-refused : goal.returns-in-Err-clause-refused
returns-in-Err-clause-refused g c = record {
  codes = inr refl;
  free = λ is. absurd (let no : Unavailable ≡ NotOurs = is in cc);
  left = λ clean. search (rules, clean);
  ours = λ is. absurd (let no : Unavailable ≡ NotOurs = is in cc);
}
