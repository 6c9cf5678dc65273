-- What a channel of the plan sees, and one that isn't in it.
use Rattle.std.proofs.Common.{◌≡◌, ℕ, Bool, true, false, Some, None, Result, OnOk, refl, sym, ap, subst, arith}
use Rattle.std.specs.Bool.{IsTrue}
use Rattle.std.specs.Option.{option_map}
use Rattle.sqlite_trees.specs.declared.store.Store.{Ghosts}
use Rattle.sqlite.specs.declared.transaction.Transaction.{Transaction}
use Rattle.sqlite.specs.Effect.{Database}
use Rattle.sqlite.specs.State.{HasCleanDisk}
use Rattle.sqlite.specs.Held.{Held, state}
use Rattle.channel_plan.specs.declared.plan.PlanRow.{PlanRow}
use Rattle.channel_view_model.specs.Centre.{Centre, plan_of, view_at, view_of}
use Rattle.channel_view_model.specs.Rules.{KeepsRules}
use Rattle.station_tables_records.specs.Inside.{inside, Reads}
use Rattle.station_tables_statements.specs.Rows.{HoldsSet, StandsFor, rows_of_tables}
use Rattle.station_tables_statements.proofs.StandLemmas.{on_ok_so}

module _ (ch : ℕ) (rows : Centre) where
  pub seen_of_none : None ≡ plan_of ch rows → None ≡ view_of ch rows
  unfolding view_of
  seen_of_none absent = ap (option_map (view_at ch rows)) absent

  pub seen_of : (plan : PlanRow) → Some plan ≡ plan_of ch rows → Some (view_at ch rows plan) ≡ view_of ch rows
  unfolding view_of
  seen_of plan there = ap (option_map (view_at ch rows)) there

-- a database that holds a set holds the one that its tables make
pub own_set : (db : Database) (rows : Centre) → HoldsSet rows db → HoldsSet (rows_of_tables db.trees) db
own_set db rows holds =
    record {
      centre = holds.centre;
      sound = holds.sound;
      rows_are = refl;
      owned = holds.owned;
      rules =
          subst KeepsRules (sym holds.rows_are) holds.rules;
    }

-- of a store that is open, and of one that is shut
pub open_or_shut : (is_open : Bool) {P : Type 0} → (IsTrue is_open → P) → (is_open ≡ false → P) → P
open_or_shut true one other = one refl
open_or_shut false one other = other refl

-- a call that read in a transaction of its own answers of rows that keep the rules alone
pub rules_kept : {S X E : Type 0} (g : Ghosts S) (tx read : Transaction S) (conn : Held S) (r : Result X E)
    (rows : Centre) → tx.conn.now ≡ record conn { in_transaction = true } → Reads g tx read r
    → HasCleanDisk (inside g read) → StandsFor (state g conn) rows
    → OnOk r (KeepsRules rows)
rules_kept g tx read conn r rows begun reads clean stands =
    let kept = rw begun at reads.survives.clean in
    let early : HasCleanDisk (state g conn) = omega (arith, kept, clean) in
    on_ok_so r ((rw begun at reads.same) clean) (λ same. (stands early same.0.was_open).holds.rules)
