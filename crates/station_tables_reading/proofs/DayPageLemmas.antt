-- The pages of the days table, of a centre that keeps the rules.
use Rattle.std.proofs.Common.{◌≡◌, ℕ, ◌+◌, ◌*◌, ◌≤◌, List, ◌++◌, map, filter, Some, Ok, Result, sym, ap, ap₂, ◌∙◌, arith}
use Rattle.std.specs.Prelude.{◌==◌}
use Rattle.std.proofs.lemmas.List.{map-append}
use Rattle.sqlite_trees.specs.declared.store.Store.{Ghosts}
use Rattle.sqlite.specs.declared.transaction.Transaction.{Transaction}
use Rattle.sqlite.specs.Effect.{Database}
use Rattle.channel_plan.specs.declared.plan.PlanRow.{PlanRow}
use Rattle.report_texts.specs.declared.counts.DayCounts.{DayCounts}
use Rattle.channel_view_model.specs.Centre.{plan_of, seen_by, view_at}
use Rattle.channel_view_model.specs.Seen.{sources_seen}
use Rattle.channel_view_model.specs.Tables.{rows_of}
use Rattle.channel_view_model.proofs.AiringRuleLemmas.{numbers_of}
use Rattle.channel_view_model.proofs.ViewLemmas.{found_channel}
use Rattle.station_tables_records.specs.declared.day_rows.DayRow.{DayRow}
use Rattle.station_tables_records.specs.MadeDays.{is_day_in}
use Rattle.station_tables_records.specs.TablePairs.{aired_rows_in, day_rows_in}
use Rattle.station_tables_records.proofs.AiredLemmas.{batches_rise}
use Rattle.station_tables_statements.specs.Rows.{HoldsSet, rows_of_tables}
use Rattle.station_tables_records.specs.Inside.{inside, Looks}
use Rattle.station_tables_statements.specs.Calls.{WhileCleanCentre}
use Rattle.channel_view_model.specs.Counts.{counts_seen}
use Rattle.station_tables_reading.specs.DayLines.{counts_in, days_below}
use Rattle.station_tables_reading.proofs.DayLineLemmas.{all_below, counts_told, next_days}
use Rattle.station_tables_reading.proofs.ThenLemmas.{rows_then}

-- of a database that holds a set with this row of the plan
abbrev pub Kept : ℕ → PlanRow → (Database → Type 0) → Database → Type 0
Kept ch plan P db = HoldsSet (rows_of_tables db.trees) db → Some plan ≡ plan_of ch (rows_of_tables db.trees) → P db

module _ {S : Type 0} (g : Ghosts S) {X Y E F : Type 0} (a b c : Transaction S) (x : X) (r : Result Y F)
    (one : Looks {X = X} {E = E} g a b (Ok x)) (two : Looks g b c r) (ch : ℕ) (plan : PlanRow) where
  pub kept_then : (P Q R : Database → Type 0)
      → ((db : Database) → HoldsSet (rows_of_tables db.trees) db → Some plan ≡ plan_of ch (rows_of_tables db.trees)
      → P db → Q db → R db)
      → WhileCleanCentre g a b (Kept ch plan P (inside g a).now) → WhileCleanCentre g b c (Q (inside g b).now)
      → WhileCleanCentre g a c (Kept ch plan R (inside g a).now)
  kept_then P Q R joins =
      rows_then g a b c x r one two (Kept ch plan P) Q (Kept ch plan R)
      (λ db before now holds there. joins db holds there (before holds there) now)

module _ (db : Database) (ch : ℕ) (plan : PlanRow) (holds : HoldsSet (rows_of_tables db.trees) db)
    (there : Some plan ≡ plan_of ch (rows_of_tables db.trees)) where
  abbrev page : ℕ → ℕ → List (ℕ × DayRow)
  page first last = filter (is_day_in ch first last) (day_rows_in db.trees).days

  page_days : (first last : ℕ) → first ≤ last + 1
      → days_below ch (last + 1) db.trees ≡ days_below ch first db.trees ++ page first last
  page_days first last le =
      let rows = rows_of_tables db.trees in
      next_days rows.channels (day_rows_in db.trees).items ch first last le 0 (day_rows_in db.trees).days
      (numbers_of plan (sources_seen (seen_by ch plan rows)) 0 (rows_of ch rows.days)
      (holds.rules.days.seen ch plan (sym there)))

  -- the pages in front, and then this one
  pub next_page : (p : ℕ)
      → days_below ch ((p + 1) * 1000) db.trees ≡ days_below ch (p * 1000) db.trees ++ page (p * 1000) (p * 1000 + 999)
  next_page p =
      let count : (p + 1) * 1000 ≡ p * 1000 + 999 + 1 = omega arith in
      ap (λ n. days_below ch n db.trees) count ∙ page_days (p * 1000) (p * 1000 + 999) (omega arith)

  -- and what is told of their days
  pub next_counts : (p : ℕ) (so_far more all : List DayCounts)
      → so_far ≡ map (counts_in db.trees) (days_below ch (p * 1000) db.trees)
      → more ≡ map (counts_in db.trees) (page (p * 1000) (p * 1000 + 999)) → all ≡ so_far ++ more
      → all ≡ map (counts_in db.trees) (days_below ch ((p + 1) * 1000) db.trees)
  next_counts p so_far more all before now joined =
      joined ∙ ap₂ ◌++◌ before now
      ∙ sym
      (ap (map (counts_in db.trees)) (next_page p)
      ∙ map-append (counts_in db.trees) (days_below ch (p * 1000) db.trees) (page (p * 1000) (p * 1000 + 999)))

  -- all pages are the channel's days
  own : plan.ch ≡ ch
  own = found_channel ch (rows_of_tables db.trees).channels plan (sym there)

  below_all : days_below ch 100000 db.trees ≡ filter (λ r. r.0 == ch) (day_rows_in db.trees).days
  below_all =
      all_below ch (rows_of_tables db.trees).channels (day_rows_in db.trees).items (day_rows_in db.trees).days
      holds.rules.days.each

  pub days_told : map (counts_in db.trees) (days_below ch 100000 db.trees)
      ≡ counts_seen (view_at ch (rows_of_tables db.trees) plan)
  days_told =
      ap (map (counts_in db.trees)) below_all
      ∙ counts_told (rows_of_tables db.trees).channels plan ch own (sym there) (day_rows_in db.trees)
      (aired_rows_in db.trees) (batches_rise db.trees holds.centre.batches) holds.owned.1 (day_rows_in db.trees).days
