-- A table that is read channel by channel, and the bytes that it takes.
use Rattle.std.proofs.Common.{◌≡◌, ◌<◌, ◌≤◌, ℕ, ◌+◌, ◌*◌, List, ◌++◌, length, take, drop, true}
use Rattle.std.proofs.Common.{sym, ◌∙◌, ap, subst, arith, take-append-drop, length-append, filter, add-mul}
use Rattle.std.proofs.Common.{mul-le-mul_right}
use Rattle.std.specs.Prelude.{Option, Result, Ok}
use Rattle.std.specs.List.{flat_map}
use Rattle.std.proofs.lemmas.Grind.{flat_map-append}
use Rattle.channel_plan.specs.declared.plan.PlanRow.{PlanRow}
use Rattle.channel_plan.specs.Plan.{is_plan_in_order}
use Rattle.channel_view_model.specs.Tables.{Table}
use Rattle.channel_view_model.specs.Rules.{is_table_of, are_tables, KeepsRules}
use Rattle.channel_view_model.proofs.PlannedLemmas.{rows_planned, planned_all}
use Rattle.vault_core.specs.declared.tape.Tape.{Tape}
use Rattle.vault_core.specs.declared.clip.Clip.{Clip}
use Rattle.station_tables_reading.specs.Vaults.{IsTableRead, bytes_of, tape_bytes, clip_bytes, offer_bytes}
use Rattle.channel_view_model.specs.Centre.{Centre}
use Rattle.sqlite_trees.specs.declared.store.Store.{Ghosts}
use Rattle.sqlite.specs.declared.transaction.Transaction.{Transaction}
use Rattle.station_tables_records.specs.Inside.{inside, Looks}
use Rattle.station_tables_records.specs.Numbered.{is_of}
use Rattle.station_tables_statements.specs.Calls.{WhileCleanCentre, set_in}
use Rattle.station_tables_statements.proofs.LookLemmas.{set_before}

module _ {A : Type 0} where
  -- some of its channels have no more rows than all
  pub planned_fewer : (plan : List PlanRow) (table : Table A) (k : ℕ) → is_plan_in_order plan ≡ true
      → is_table_of plan table ≡ true → length (rows_planned table (take k plan)) ≤ length table
  planned_fewer plan table k order h =
      let f = λ (q : PlanRow). filter (is_of q.ch) table in
      let whole : rows_planned table (take k plan) ++ rows_planned table (drop k plan) ≡ table =
      sym (flat_map-append f (take k plan) (drop k plan)) ∙ ap (flat_map f) (take-append-drop k plan)
      ∙ planned_all plan table order h in
      omega (arith, length-append (rows_planned table (take k plan)) (rows_planned table (drop k plan)), ap length whole)

-- ---- the bytes

-- so many rows more take so many bytes more
pub bytes_more : (front more size left rest most : ℕ) → front * size + left ≡ most → more * size + rest ≡ left
    → (front + more) * size + rest ≡ most
bytes_more front more size left rest most so_far next = omega (arith, add-mul front more size, so_far, next)

-- where the rows of some channels take too many, those of all do
pub bytes_past : (front more size left most all : ℕ) → front * size + left ≡ most → left < more * size
    → front + more ≤ all → most < all * size
bytes_past front more size left most all so_far past fewer =
    let sum : (front + more) * size ≡ front * size + more * size = add-mul front more size in
    let less : (front + more) * size ≤ all * size = mul-le-mul_right size fewer in
    omega (arith, sum, less, so_far, past)

-- ---- the set

-- what is read of a channel after a look is of the set before it
pub read_before : {A S X Y E F : Type 0} (g : Ghosts S) (a b e : Transaction S) (x : X) (r : Result Y F)
    (rows_in : Centre → Table A) (more : Table A) (ch : ℕ) → Looks {X = X} {E = E} g a b (Ok x) → Looks g b e r
    → WhileCleanCentre g b e (more ≡ filter (is_of ch) (rows_in (set_in (inside g b))))
    → WhileCleanCentre g a e (more ≡ filter (is_of ch) (rows_in (set_in (inside g a))))
read_before g a b e x r rows_in more ch one two =
    set_before g a b e x r one two (λ set. more ≡ filter (is_of ch) (rows_in set))

-- and what is read of a table
pub table_before : {A S X Y E F : Type 0} (g : Ghosts S) (a b e : Transaction S) (x : X) (r : Result Y F)
    (table_in : Centre → Table A) (plan : List PlanRow) (size most : ℕ) (found : Option (Table A))
    → Looks {X = X} {E = E} g a b (Ok x) → Looks g b e r
    → WhileCleanCentre g b e (is_plan_in_order plan ≡ true → is_table_of plan (table_in (set_in (inside g b))) ≡ true
    → IsTableRead (table_in (set_in (inside g b))) size most found)
    → WhileCleanCentre g a e (is_plan_in_order plan ≡ true → is_table_of plan (table_in (set_in (inside g a))) ≡ true
    → IsTableRead (table_in (set_in (inside g a))) size most found)
table_before g a b e x r table_in plan size most found one two =
    set_before g a b e x r one two
    (λ set. is_plan_in_order plan ≡ true → is_table_of plan (table_in set) ≡ true
    → IsTableRead (table_in set) size most found)

-- the tables of a set that keeps the rules are those of its plan
pub record AreOfPlan (set : Centre) (plan : List PlanRow) : Type 0 where
  pub order : is_plan_in_order plan ≡ true
  pub tapes : is_table_of plan set.tapes ≡ true
  pub clips : is_table_of plan set.clips ≡ true
  pub offers : is_table_of plan set.offers ≡ true

pub of_plan : (set : Centre) (plan : List PlanRow) → KeepsRules set → set.channels ≡ plan → AreOfPlan set plan
of_plan set plan rules same =
    let h : are_tables set ≡ true = rules.tables in
    subst (AreOfPlan set) same
    (record { order = rules.plan; tapes = grind (arith, h); clips = grind (arith, h); offers = grind (arith, h) })

-- where clips, or offers, take more than what others leave, all take more
pub clips_past : (set : Centre) (tapes : Table Tape) (left most : ℕ) → tapes ≡ set.tapes
    → length tapes * tape_bytes + left ≡ most → left < length set.clips * clip_bytes → most < bytes_of set
clips_past set tapes left most are taken past = omega (arith, ap length are)

pub offers_past : (set : Centre) (tapes : Table Tape) (clips : Table Clip) (left last most : ℕ) → tapes ≡ set.tapes
    → clips ≡ set.clips → length tapes * tape_bytes + left ≡ most → length clips * clip_bytes + last ≡ left
    → last < length set.offers * offer_bytes → most < bytes_of set
offers_past set tapes clips left last most are_tapes are_clips taken next past =
    omega (arith, ap length are_tapes, ap length are_clips)
