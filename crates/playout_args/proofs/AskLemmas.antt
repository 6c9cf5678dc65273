-- What a subcommand of a name asks for.
use Rattle.std.proofs.Common.{◌≡◌, ◌==◌, ◌≤◌, ℕ, List, Some, false, ap, arith, slice_index, refl, codes, inl, inr}
use Rattle.std.specs.Prelude.{Option, None, true, option_map, Box}
use Rattle.std.specs.Prelude.{◌⊎◌, []}
use Rattle.std.specs.Box.{box_value}
use Rattle.clap.specs.Words.{Row, Text, first_of, is_simple, subcommand_rows}
use Rattle.clap.specs.declared.parser.matches.SubCommand.{SubCommand}
use Rattle.clap.specs.declared.parser.matches.ArgMatches.TheViews.{out-SubCommand}
use Rattle.clap.specs.Faults.{fault_of, is_simple_and_free}
use Rattle.clap.specs.Kinds.{IsAmong}
use Rattle.clap.specs.declared.error.kind.ErrorKind.{ErrorKind}
use Rattle.clap.specs.declared.error.kind.ErrorKind.TheVariants as kind
use Rattle.clap.proofs.OnLiterals.{clap_on_literals}
use Rattle.playout_args.specs.declared.words.NoAction.{NoAction}
use Rattle.playout_args.specs.declared.words.NoAction.TheVariants as said
use Rattle.playout_args.specs.declared.words.Action.TheVariants as asks
use Rattle.playout_args.specs.declared.words.TableName.{TableName}
use Rattle.playout_args.specs.Words.{AskNothingOf, AskForNothing, IsTold, IsToldOf, SaysNumber, SaysTurns, program}
use Rattle.playout_args.specs.Words.{table_name}

-- texts that differ in their second byte differ
pub unlike : (a b : Text) → (slice_index a 1 == slice_index b 1) ≡ false → a ≡ b → ⊥
unlike a b differs e = let same = ap (λ (t : Text). slice_index t 1) e in grind (arith, differs, same)

pub no_serve : (rows : List Row)
    → ((file : Text) (port peers : ℕ) (turns : Option ℕ) (idle : ℕ) → first_of (codes "db") rows ≡ Some file
    → SaysNumber (codes "port") 5 rows port → port ≤ 65535
    → SaysNumber (codes "peers") 5 rows peers → 1 ≤ peers → peers ≤ 10000 → SaysTurns rows peers turns
    → SaysNumber (codes "idle") 4 rows idle → 1 ≤ idle → idle ≤ 3600 → ⊥)
    → AskNothingOf (codes "serve") rows
no_serve rows never (asks.Serve file port peers turns idle) a =
    never file.now port peers turns idle a.1 a.2 a.3 a.4 a.5 a.6 a.7 a.8 a.9 a.10
no_serve rows never (asks.Answer texts) a = unlike (codes "serve") (codes "answer") refl a.0
no_serve rows never (asks.AnswerFile file texts) a = unlike (codes "serve") (codes "answer") refl a.0
no_serve rows never (asks.Check rate) a = unlike (codes "serve") (codes "check") refl a.0
no_serve rows never (asks.CheckFiles rate files) a = unlike (codes "serve") (codes "check") refl a.0
no_serve rows never (asks.Compare rate one other) a = unlike (codes "serve") (codes "diff") refl a.0
no_serve rows never (asks.Events rate form) a = unlike (codes "serve") (codes "list") refl a.0
no_serve rows never (asks.Timecode rate label) a = unlike (codes "serve") (codes "tc") refl a.0
no_serve rows never (asks.Table file channel table) a = unlike (codes "serve") (codes "table") refl a.0

-- neither none nor a number
pub no_turns : (rows : List Row) (peers : ℕ) → (first_of (codes "turns") rows ≡ None → ⊥)
    → ((n : ℕ) → SaysNumber (codes "turns") 7 rows n → 1 ≤ n → n ≤ 1000000 → ⊥) → (turns : Option ℕ)
    → SaysTurns rows peers turns → ⊥
no_turns rows peers some never None says = some says.0
no_turns rows peers some never (Some n) says = never n says.0 says.1 says.2

pub no_table : (rows : List Row)
    → ((file : Text) (channel : ℕ) (table : TableName) → first_of (codes "db") rows ≡ Some file
    → SaysNumber (codes "ch") 3 rows channel → 1 ≤ channel → channel ≤ 999
    → first_of (codes "NAME") rows ≡ Some (table_name table) → ⊥)
    → AskNothingOf (codes "table") rows
no_table rows never (asks.Table file channel table) a = never file.now channel table a.1 a.2 a.3 a.4 a.5
no_table rows never (asks.Answer texts) a = unlike (codes "table") (codes "answer") refl a.0
no_table rows never (asks.AnswerFile file texts) a = unlike (codes "table") (codes "answer") refl a.0
no_table rows never (asks.Check rate) a = unlike (codes "table") (codes "check") refl a.0
no_table rows never (asks.CheckFiles rate files) a = unlike (codes "table") (codes "check") refl a.0
no_table rows never (asks.Compare rate one other) a = unlike (codes "table") (codes "diff") refl a.0
no_table rows never (asks.Events rate form) a = unlike (codes "table") (codes "list") refl a.0
no_table rows never (asks.Timecode rate label) a = unlike (codes "table") (codes "tc") refl a.0
no_table rows never (asks.Serve file port peers turns idle) a = unlike (codes "table") (codes "serve") refl a.0

-- a subcommand that was met, by its name and what was found of it
pub met : {Z : Type 0} (o : Option (Box SubCommand Z)) (name : Text) (rows : List Row)
    → Some name ≡ option_map (λ (b : Box SubCommand Z). (out-SubCommand (box_value b)).name.now) o
    → Some rows ≡ option_map (λ (p : Text × List Row). p.1) (subcommand_rows o) → subcommand_rows o ≡ Some (name, rows)
met None name rows named found = cc
met (Some b) name rows named found = cc

pub none_met : {Z : Type 0} (o : Option (Box SubCommand Z))
    → None ≡ option_map (λ (b : Box SubCommand Z). (out-SubCommand (box_value b)).name.now) o → subcommand_rows o ≡ None
none_met None named = refl
none_met (Some b) named = cc

pub program_simple : is_simple program ≡ true
unfolding program clap_on_literals
program_simple = refl

pub program_free : is_simple_and_free program ≡ true
unfolding program clap_on_literals
program_free = refl

-- what is told of an end of a kind that the words have, or of words that are taken and say nothing that there is
pub told_is : (words : List Text) (k : ErrorKind) (na : NoAction)
    → (((k ≡ kind.OutOfMemory) ⊎ IsAmong k (fault_of program words))
    ⊎ ((fault_of program words ≡ []) × (k ≡ kind.InvalidValue) × AskForNothing words))
    → (k ≡ kind.OutOfMemory → na ≡ said.Unavailable) → IsToldOf k na → IsTold words na
told_is words k said.Unavailable ends memory told = tt
told_is words k (said.Help text) (inl (inl is)) memory told = let e = memory is in cc
told_is words k (said.Help text) (inl (inr among)) memory told = ((k, among, told.0), told.1)
told_is words k (said.Help text) (inr taken) memory told =
    let is = taken.1 in elim told.0 [ inl shown ↦ cc | inr shown ↦ cc ]
told_is words k (said.Usage text) (inl (inl is)) memory told = let e = memory is in cc
told_is words k (said.Usage text) (inl (inr among)) memory told = (inl (k, among, told.0), told.1)
told_is words k (said.Usage text) (inr taken) memory told = (inr (taken.0, taken.2), told.1)
