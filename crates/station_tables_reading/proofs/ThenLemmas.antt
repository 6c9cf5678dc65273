-- What is said of a database after a look is said of it before.
use Rattle.std.proofs.Common.{◌≡◌, inl, inr, Ok, Result, ap, subst}
use Rattle.sqlite_trees.specs.declared.store.Store.{Ghosts}
use Rattle.sqlite.specs.declared.transaction.Transaction.{Transaction}
use Rattle.sqlite.specs.Effect.{Database}
use Rattle.sqlite.specs.Held.{state}
use Rattle.station_tables_records.specs.Inside.{inside, IsSame, Looks}
use Rattle.station_tables_statements.specs.Calls.{WhileCleanCentre}
use Rattle.station_tables_statements.proofs.LookLemmas.{centre_looked, was_clean}

module _ {S : Type 0} (g : Ghosts S) where
  database_looked : (old new : Transaction S) → IsSame g old new → (inside g new).now ≡ (inside g old).now
  database_looked old new same =
      elim same [ inl idle ↦ ap (λ n. (state g n).now) idle | inr unchanged ↦ unchanged.0.now_is ]

  -- together with what was said before the look
  pub rows_then : {X Y E F : Type 0} (a b c : Transaction S) (x : X) (r : Result Y F)
      → Looks {X = X} {E = E} g a b (Ok x) → Looks g b c r → (P Q R : Database → Type 0)
      → ((db : Database) → P db → Q db → R db)
      → WhileCleanCentre g a b (P (inside g a).now) → WhileCleanCentre g b c (Q (inside g b).now)
      → WhileCleanCentre g a c (R (inside g a).now)
  rows_then a b c x r one two P Q R joins before now centre clean =
      let clean_b = was_clean g b c r two clean in
      let clean_a = was_clean g a b (Ok x) one clean_b in
      let same = one.same clean_b in
      joins (inside g a).now (before centre clean_b)
      (subst Q (database_looked a b same) (now (centre_looked g a b same clean_a centre) clean))
