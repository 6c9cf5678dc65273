-- What is asked of the numbered rows of one channel: of its tapes, its clips or its offers.
use Rattle.std.specs.Prelude.{◌≡◌, ℕ, ◌*◌, true, List, take, drop, filter, reverse}
use Rattle.vault_core.specs.Rules.{is_numbered_from}
use Rattle.channel_view_model.specs.Tables.{rows_of}
use Rattle.station_tables_records.specs.Numbered.{is_of, is_on_page, is_row}
use Rattle.station_tables_statements.specs.declared.numbered.Question.{Question}
use Rattle.station_tables_statements.specs.declared.numbered.Question.TheVariants.{All, Page, Last, Number}

-- the numbers of the channel's rows have no hole
abbrev pub AreNumbered : {A : Type 0} → (A → ℕ) → ℕ → List (ℕ × A) → Type 0
AreNumbered number c rows = is_numbered_from number 1 (rows_of c rows) ≡ true

-- what answers a question of a channel's rows, among those of all channels
abbrev pub found_by : {A : Type 0} → Question → (A → ℕ) → ℕ → List (ℕ × A) → List (ℕ × A)
found_by All number c rows = filter (is_of c) rows
found_by (Page p) number c rows = filter (is_on_page number c p) rows
found_by Last number c rows = take 1 (reverse (filter (is_of c) rows))
found_by (Number n) number c rows = filter (is_row number c n) rows

-- rows 1 to 64 are on page 0, 65 to 128 on page 1, and so on
abbrev pub page_of : {A : Type 0} → ℕ → List A → List A
page_of p rows = take 64 (drop (p * 64) rows)
