-- Which words are taken, and what they ask for.
use Rattle.std.specs.Prelude.{◌≡◌, ◌⊎◌, ◌≤◌, ℕ, true, false, List, [], ◌∷◌, Option, Some, None, Result, Ok, Err, codes}
use Rattle.std.specs.Prelude.{◌≢◌, ◌<◌, length, map, string_bytes, unwrap_or}
use Rattle.timecode.specs.Rate.{rate_text}
use Rattle.timecode.specs.Decimal.{decimal_number}
use Rattle.clap.specs.Lexer.{usize_max}
use Rattle.clap.specs.Words.{App, Row, Rule, Shape, Text, all_of, first_of, new_rule, shape_of, subcommand_of, takes}
use Rattle.clap.specs.Words.{IsAmong}
use Rattle.clap.specs.Faults.{fault_of}
use Rattle.clap.specs.declared.error.kind.ErrorKind.{ErrorKind}
use Rattle.clap.specs.declared.error.kind.ErrorKind.TheVariants as kind
use Rattle.clap.specs.declared.builder.command.Command.{Command}
use Rattle.clap.specs.declared.builder.command.Command.TheViews.{out-Command}
use Rattle.clap.specs.Simple.{new_shape}
use Rattle.playout_args.specs.declared.words.Action.{Action}
use Rattle.playout_args.specs.declared.words.Action.TheVariants as asks
use Rattle.playout_args.specs.declared.words.NoAction.{NoAction}
use Rattle.playout_args.specs.declared.words.NoAction.TheVariants as said
use Rattle.clap.specs.declared.builder.action.ArgAction.TheVariants as arg
use Rattle.playout_args.specs.declared.words.EventForm.{EventForm}
use Rattle.playout_args.specs.declared.words.EventForm.TheVariants as form
use Rattle.playout_args.specs.declared.words.TableName.{TableName}
use Rattle.playout_args.specs.declared.words.TableName.TheVariants as table

-- ---- what is taken: rules of a command, of which `clap` says which words it takes

-- a word that has to come
abbrev pub a_word : Text → Rule
a_word name = record (new_rule name) { required = true }

-- an option with a value
abbrev pub an_option : Text → Rule
an_option name = record (new_rule name) { long = Some name; value_names = 1 }

-- an option without one
abbrev pub a_flag : Text → Rule
a_flag name = record (new_rule name) { long = Some name; action = Some arg.SetTrue }

-- one that has to come
abbrev pub a_wanted_option : Text → Rule
a_wanted_option name = record (an_option name) { required = true }

-- one with this value where none is given
abbrev pub idle_option : Rule
idle_option = record (an_option (codes "idle")) { defaults = codes "30" ∷ [] }

abbrev pub peers_option : Rule
peers_option = record (an_option (codes "peers")) { defaults = codes "1" ∷ [] }

-- any number of words
abbrev pub some_words : Text → Rule
some_words name = record (new_rule name) {
  range = Some (record { start_inclusive = 0; end_inclusive = usize_max });
}

-- a subcommand of this name
abbrev pub subcommand : Text → List Rule → Shape
subcommand name rules = record (new_shape name) { rules = rules }

abbrev pub answer_words : Shape
answer_words = subcommand (codes "answer") (an_option (codes "db") ∷ some_words (codes "ROW") ∷ [])

-- one that RATE follows, and one that a file of tables follows
abbrev pub with_rate : Text → Shape
with_rate name = subcommand name (a_word (codes "RATE") ∷ [])

abbrev pub with_file : Text → Shape
with_file name = subcommand name (a_wanted_option (codes "db") ∷ [])

abbrev pub check_words : Shape
check_words = subcommand (codes "check") (a_word (codes "RATE") ∷ some_words (codes "FILE") ∷ [])

abbrev pub diff_words : Shape
diff_words = subcommand (codes "diff") (a_word (codes "RATE") ∷ a_word (codes "A") ∷ a_word (codes "B") ∷ [])

abbrev pub list_words : Shape
list_words = subcommand (codes "list") (a_word (codes "RATE") ∷ a_flag (codes "json") ∷ a_flag (codes "csv") ∷ [])

abbrev pub serve_head : Shape
serve_head =
    subcommand (codes "serve") (a_wanted_option (codes "db") ∷ a_wanted_option (codes "port") ∷ peers_option ∷ [])

abbrev pub serve_words : Shape
serve_words = subcommand (codes "serve") (a_wanted_option (codes "db") ∷ a_wanted_option (codes "port")
    ∷ peers_option ∷ an_option (codes "turns") ∷ idle_option ∷ [])

abbrev pub table_words : Shape
table_words = subcommand (codes "table") (a_wanted_option (codes "db") ∷ a_wanted_option (codes "ch")
    ∷ a_word (codes "NAME") ∷ [])

abbrev pub timecode_words : Shape
timecode_words = subcommand (codes "tc") (a_word (codes "RATE") ∷ a_word (codes "LABEL") ∷ [])

-- the program, before it has subcommands
abbrev pub program_head : Shape
program_head = record (new_shape (codes "playout")) {
  has_version = true;
  no_binary_name = true;
  subcommand_required = true;
}

-- the program: one of seven subcommands
unfoldable pub program : App
program = record {
  top = record program_head { is_leaf = false };
  subs = answer_words ∷ check_words ∷ diff_words ∷ list_words ∷ serve_words ∷ table_words ∷ timecode_words ∷ [];
}

-- the command is this subcommand
abbrev pub IsSubcommand : Shape → Command → Type 0
IsSubcommand shape c = (shape_of c ≡ shape) × ((out-Command c).has_globals ≡ false)

-- ---- what they ask for

abbrev pub table_name : TableName → Text
table_name table.Vault = codes "vault"
table_name table.Clips = codes "clips"
table_name table.Offers = codes "offers"
table_name table.Lent = codes "lent"
table_name table.Days = codes "days"

-- the option's value is this number, in at most so many digits
abbrev pub SaysNumber : Text → ℕ → List Row → ℕ → Type 0
SaysNumber name most rows n = (text : Text) × (first_of name rows ≡ Some text) × (decimal_number most text ≡ Some n)

-- the flag is among the words
abbrev pub HasFlag : Text → List Row → Type 0
HasFlag name rows = first_of name rows ≡ Some (codes "true")

-- the flags say this form
abbrev pub SaysForm : List Row → EventForm → Type 0
SaysForm rows form.Json = ¬ (HasFlag (codes "csv") rows)
SaysForm rows form.Csv = HasFlag (codes "csv") rows × ¬ (HasFlag (codes "json") rows)

-- How many connections are served in all: as many as are said, or, where several may be open at once, without end.
abbrev pub SaysTurns : List Row → ℕ → Option ℕ → Type 0
SaysTurns rows peers None = (first_of (codes "turns") rows ≡ None) × (2 ≤ peers)
SaysTurns rows peers (Some turns) = SaysNumber (codes "turns") 7 rows turns × (1 ≤ turns) × (turns ≤ 1000000)

-- The subcommand of this name, with these values of its words and options, asks for this.
abbrev pub AsksFor : Text → List Row → Action → Type 0
AsksFor name rows (asks.Answer texts) =
    (name ≡ codes "answer") × (first_of (codes "db") rows ≡ None)
    × (map (λ t. t.now) texts.items ≡ unwrap_or (all_of (codes "ROW") rows) [])
AsksFor name rows (asks.AnswerFile file texts) =
    (name ≡ codes "answer") × (first_of (codes "db") rows ≡ Some file.now)
    × (map (λ t. t.now) texts.items ≡ unwrap_or (all_of (codes "ROW") rows) [])
AsksFor name rows (asks.Check rate) =
    (name ≡ codes "check") × (first_of (codes "RATE") rows ≡ Some (rate_text rate))
    × (unwrap_or (all_of (codes "FILE") rows) [] ≡ [])
AsksFor name rows (asks.CheckFiles rate files) =
    (name ≡ codes "check") × (first_of (codes "RATE") rows ≡ Some (rate_text rate))
    × (map (λ t. t.now) files.items ≡ unwrap_or (all_of (codes "FILE") rows) []) × (0 < length files.items)
AsksFor name rows (asks.Compare rate one other) =
    (name ≡ codes "diff") × (first_of (codes "RATE") rows ≡ Some (rate_text rate))
    × (first_of (codes "A") rows ≡ Some one.now) × (first_of (codes "B") rows ≡ Some other.now)
AsksFor name rows (asks.Events rate form) =
    (name ≡ codes "list") × (first_of (codes "RATE") rows ≡ Some (rate_text rate)) × SaysForm rows form
AsksFor name rows (asks.Timecode rate label) =
    (name ≡ codes "tc") × (first_of (codes "RATE") rows ≡ Some (rate_text rate))
    × (first_of (codes "LABEL") rows ≡ Some label.now)
AsksFor name rows (asks.Serve file port peers turns idle) =
    (name ≡ codes "serve") × (first_of (codes "db") rows ≡ Some file.now)
    × SaysNumber (codes "port") 5 rows port × (port ≤ 65535)
    × SaysNumber (codes "peers") 5 rows peers × (1 ≤ peers) × (peers ≤ 10000) × SaysTurns rows peers turns
    × SaysNumber (codes "idle") 4 rows idle × (1 ≤ idle) × (idle ≤ 3600)
AsksFor name rows (asks.Table file channel table) =
    (name ≡ codes "table") × (first_of (codes "db") rows ≡ Some file.now)
    × SaysNumber (codes "ch") 3 rows channel × (1 ≤ channel) × (channel ≤ 999)
    × (first_of (codes "NAME") rows ≡ Some (table_name table))

-- the subcommand asks for nothing
abbrev pub AskNothingOf : Text → List Row → Type 0
AskNothingOf name rows = (action : Action) → AsksFor name rows action → ⊥

-- The subcommand that was met, if there is one, asks for this.
abbrev pub IsAsked : Option (Text × List Row) → Action → Type 0
IsAsked None action = ⊥
IsAsked (Some found) action = AsksFor found.0 found.1 action

-- The words are those of a subcommand that asks for this.
abbrev pub AreAsking : List Text → Action → Type 0
AreAsking words action = IsAsked (subcommand_of program words) action

-- They ask for nothing: they aren't taken; or what they say is no rate, table or number in its range.
abbrev pub AskForNothing : List Text → Type 0
AskForNothing words = (action : Action) → AreAsking words action → ⊥

-- ---- what is told of words that ask for nothing

-- what `clap` ends with where it shows help or the version
abbrev pub IsHelp : ErrorKind → Type 0
IsHelp k = (k ≡ kind.DisplayHelp) ⊎ (k ≡ kind.DisplayVersion)

-- Of an end of this kind help is told, or what the words should be, by a text that isn't empty; or memory ran out.
abbrev pub IsToldOf : ErrorKind → NoAction → Type 0
IsToldOf k (said.Help text) = IsHelp k × (string_bytes text ≢ [])
IsToldOf k (said.Usage text) = (IsHelp k → ⊥) × (string_bytes text ≢ [])
IsToldOf k said.Unavailable = Unit {0}

-- the words end so: of words that are taken there is no such kind
abbrev pub EndWith : List Text → ErrorKind → Type 0
EndWith words k = IsAmong k (fault_of program words)

-- Help is told of words that ask for help or the version alone; of all others that ask for nothing, what they should
-- be; or memory ran out.
abbrev pub IsTold : List Text → NoAction → Type 0
IsTold words (said.Help text) = ((k : ErrorKind) × EndWith words k × IsHelp k) × (string_bytes text ≢ [])
IsTold words (said.Usage text) =
    (((k : ErrorKind) × EndWith words k × (IsHelp k → ⊥)) ⊎ ((fault_of program words ≡ []) × AskForNothing words))
    × (string_bytes text ≢ [])
IsTold words said.Unavailable = Unit {0}

-- Why they ask for nothing, where they are taken: what they say is none, or memory ran out. And what is told of them.
abbrev pub AskNothing : List Text → NoAction → Type 0
AskNothing words no_action =
    (takes program words ≡ true → (no_action ≡ said.Unavailable) ⊎ AskForNothing words) × IsTold words no_action

-- what the words were read as is what they ask for, or says why they ask for nothing
abbrev pub AreRead : List Text → Result Action NoAction → Type 0
AreRead words (Ok action) = AreAsking words action
AreRead words (Err no_action) = AskNothing words no_action
