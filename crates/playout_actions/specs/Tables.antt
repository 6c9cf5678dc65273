-- A table of a channel, printed.
use Rattle.std.specs.Prelude.{◌≡◌, ℕ, List, [], Option, Some, None}
use Rattle.std.specs.Io.KnownBytes.{Appends}
use Rattle.channel_plan.specs.declared.refusal.Code.TheVariants as code
use Rattle.channel_plan.specs.Refusal.{refused}
use Rattle.report_texts.specs.Output.{AppendsPart}
use Rattle.channel_view_model.specs.Centre.{Centre, view_of}
use Rattle.channel_view_model.specs.TableText.{table_text, text_at}
use Rattle.channel_view_model.specs.declared.table.Table.{Table}
use Rattle.channel_view_model.specs.declared.table.Table.TheVariants as kind
use Rattle.channel_view_model.specs.declared.view.View.{View}
use Rattle.playout_args.specs.declared.words.TableName.{TableName}
use Rattle.playout_args.specs.declared.words.TableName.TheVariants as word
use Rattle.playout_lists.specs.declared.fault.Fault.{Fault}
use Rattle.playout_lists.specs.declared.fault.Fault.TheVariants.{Label, List as OfList, Refused, NoChannel, Open}
use Rattle.playout_lists.specs.declared.fault.Fault.TheVariants.{Listen, Stream}
use Rattle.playout_lists.specs.declared.streams.StreamFault.TheVariants.{Input, Write}

-- the table that a word names
abbrev pub table_of : TableName → Table
table_of word.Vault = kind.Vault
table_of word.Clips = kind.Clips
table_of word.Offers = kind.Offers
table_of word.Lent = kind.Lent
table_of word.Days = kind.Days

-- the channel is in the plan, and its table was written
abbrev pub PrintsTable : Centre → ℕ → Table → Option (List ℕ) → Option (List ℕ) → Type 0
PrintsTable rows channel table written_old written_new =
    (view : View) × (view_of channel rows ≡ Some view) × Appends written_old written_new (table_text table view)

-- It isn't in the plan, and nothing was written; or memory or the store failed, or the writer, and a beginning was.
abbrev pub TableHas : Centre → ℕ → Table → Option (List ℕ) → Option (List ℕ) → Fault → Type 0
TableHas rows channel table written_old written_new NoChannel =
    (view_of channel rows ≡ None) × Appends written_old written_new []
TableHas rows channel table written_old written_new (Refused refusal) =
    AppendsPart written_old written_new (text_at table (view_of channel rows))
TableHas rows channel table written_old written_new (Stream Write) =
    AppendsPart written_old written_new (text_at table (view_of channel rows))
TableHas rows channel table written_old written_new (Stream (Input fault)) = ⊥
TableHas rows channel table written_old written_new (Label fault) = ⊥
TableHas rows channel table written_old written_new (OfList fault) = ⊥
TableHas rows channel table written_old written_new Open = ⊥
TableHas rows channel table written_old written_new Listen = ⊥

-- the faults of a table
abbrev pub IsTableFault : Fault → Type 0
IsTableFault NoChannel = Unit {0}
IsTableFault (Refused refusal) = refusal ≡ refused code.Unavailable
IsTableFault (Stream fault) = fault ≡ Write
IsTableFault (Label fault) = ⊥
IsTableFault (OfList fault) = ⊥
IsTableFault Open = ⊥
IsTableFault Listen = ⊥
