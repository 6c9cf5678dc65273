-- A table of one channel: lines that are written page by page, and what stands behind them.
use Rattle.std.specs.Prelude.{◌≡◌, ℕ, List, [], length, map, Option, Some, Result, Ok, Err}
use Rattle.std.specs.List.{flat_map}
use Rattle.std.specs.Io.KnownBytes.{Appends}
use Rattle.sqlite_trees.specs.declared.store.Store.{Ghosts}
use Rattle.sqlite.specs.declared.transaction.Transaction.{Transaction}
use Rattle.channel_plan.specs.declared.plan.PlanRow.{PlanRow}
use Rattle.vault_core.specs.declared.tape.Tape.{Tape}
use Rattle.vault_core.specs.Rules.{slots_of}
use Rattle.report_texts.specs.Output.{AppendsPart}
use Rattle.report_texts.specs.Vault.{tape_line, vault_end}
use Rattle.report_texts.specs.Clips.{clip_line, clips_end}
use Rattle.report_texts.specs.Offers.{offer_line, offers_end}
use Rattle.report_texts.specs.Lent.{lent_text}
use Rattle.report_texts.specs.Days.{days_text}
use Rattle.channel_view_model.specs.declared.table.Table.{Table}
use Rattle.channel_view_model.specs.declared.table.Table.TheVariants.{Vault, Clips, Offers, Lent, Days}
use Rattle.channel_view_model.specs.declared.view.View.{View}
use Rattle.channel_view_model.specs.Centre.{plan_of, view_at}
use Rattle.station_tables_records.specs.Inside.{inside}
use Rattle.station_tables_statements.specs.Rows.{HoldsSet}
use Rattle.station_tables_statements.specs.Calls.{WhileCleanCentre, set_in}

-- Of a call inside a transaction, on a centre that keeps the rules, and has no row outside of its set, while the disk
-- is clean: of what a channel with this row of the plan sees.
abbrev pub WhileCleanSeen : {S : Type 0} → Ghosts S → Transaction S → Transaction S → ℕ → PlanRow → (View → Type 0)
    → Type 0
WhileCleanSeen g old new c plan P = WhileCleanCentre g old new (HoldsSet (set_in (inside g old)) (inside g old).now
    → Some plan ≡ plan_of c (set_in (inside g old)) → P (view_at c (set_in (inside g old)) plan))

-- The bytes were written, or at a failure a beginning of them.
abbrev pub Written : {X E : Type 0} → Option (List ℕ) → Option (List ℕ) → Result X E → List ℕ → Type 0
Written old new (Ok x) bytes = Appends old new bytes
Written old new (Err e) bytes = AppendsPart old new bytes

-- how many rows a table has page by page
abbrev pub count_of : Table → View → ℕ
count_of Vault view = length view.own.tapes
count_of Clips view = length view.own.clips
count_of Offers view = length view.own.offers
count_of Lent view = 0
count_of Days view = 0

-- their lines
abbrev pub lines_of : Table → View → List (List ℕ)
lines_of Vault view = map tape_line view.own.tapes
lines_of Clips view = map (clip_line view.own.plan.rate) view.own.clips
lines_of Offers view = map offer_line view.own.offers
lines_of Lent view = []
lines_of Days view = []

-- as text
abbrev pub joined : List (List ℕ) → List ℕ
joined lines = flat_map (λ line. line) lines

-- how many of these tapes it counts in a slot
abbrev pub shelved_of : Table → List Tape → ℕ
shelved_of Vault tapes = length (slots_of tapes)
shelved_of _ tapes = 0

-- what stands behind the lines
abbrev pub end_of : Table → View → List ℕ
end_of Vault view = vault_end (length view.own.tapes) (length (slots_of view.own.tapes)) view.own.plan.slots
end_of Clips view = clips_end (length view.own.clips)
end_of Offers view = offers_end (length view.own.offers)
end_of Lent view = lent_text view.lent
end_of Days view = days_text view.aired view.days
