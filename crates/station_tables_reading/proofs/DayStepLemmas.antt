-- What is told of one more day behind those in front of it.
use Rattle.std.proofs.Common.{◌≡◌, ℕ, ◌+◌, ◌<◌, suc, List, [], ◌∷◌, ◌++◌, length, map, take, get_or, Ok, sym, ap, ap₂, ◌∙◌}
use Rattle.std.proofs.Common.{arith}
use Rattle.std.proofs.Math.Seq.{take-suc}
use Rattle.std.proofs.lemmas.List.{map-append}
use Rattle.sqlite_trees.specs.declared.store.Store.{Ghosts}
use Rattle.sqlite.specs.declared.transaction.Transaction.{Transaction}
use Rattle.report_texts.specs.declared.counts.DayCounts.{DayCounts}
use Rattle.station_tables_records.specs.declared.day_rows.DayRow.{DayRow}
use Rattle.station_tables_records.specs.Inside.{inside, Looks}
use Rattle.station_tables_statements.specs.Calls.{WhileCleanCentre}
use Rattle.station_tables_reading.specs.DayLines.{counts_in}
use Rattle.station_tables_reading.proofs.ThenLemmas.{rows_then}

-- a list that was mapped so far, and one more
mapped_more : {X Y : Type 0} (f : X → Y) (xs : List X) (i : ℕ) (d : X) (front all : List Y) (y : Y) → i < length xs
    → front ≡ map f (take i xs) → y ≡ f (get_or xs i d) → all ≡ front ++ y ∷ [] → all ≡ map f (take (i + 1) xs)
mapped_more f xs i d front all y lt before now joined =
    let next : suc i ≡ i + 1 = omega arith in
    joined ∙ ap₂ (λ l z. l ++ z ∷ []) before now
    ∙ sym (map-append f (take i xs) (get_or xs i d ∷ [])) ∙ ap (map f) (sym (take-suc xs i d lt))
    ∙ ap (λ n. map f (take n xs)) next

module _ (days : List (ℕ × DayRow)) (i : ℕ) (lt : i < length days) (d : ℕ × DayRow) {S : Type 0} (g : Ghosts S)
    {X E F : Type 0} (a b c : Transaction S) (x : X) (counts : DayCounts)
    (one : Looks {X = X} {E = E} g a b (Ok x)) (two : Looks {X = DayCounts} {E = F} g b c (Ok counts)) where
  pub count_more : (front all : List DayCounts)
      → WhileCleanCentre g a b (front ≡ map (counts_in (inside g a).now.trees) (take i days))
      → WhileCleanCentre g b c (counts ≡ counts_in (inside g b).now.trees (get_or days i d))
      → all ≡ front ++ counts ∷ []
      → WhileCleanCentre g a c (all ≡ map (counts_in (inside g a).now.trees) (take (i + 1) days))
  count_more front all before now joined =
      rows_then g a b c x (Ok counts) one two (λ db. front ≡ map (counts_in db.trees) (take i days))
      (λ db. counts ≡ counts_in db.trees (get_or days i d))
      (λ db. all ≡ map (counts_in db.trees) (take (i + 1) days))
      (λ db was is. mapped_more (counts_in db.trees) days i d front all counts lt was is joined) before now
