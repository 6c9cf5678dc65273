-- The ten tables of a centre, as the database lists them.
use Rattle.std.specs.Prelude.{true, false, [], ◌∷◌, ◌++◌, ◌+◌, Some, None, codes, List, ℕ, pos, map, take}
use Rattle.std.specs.List.{flat_map}
use Rattle.sqlite_value.specs.declared.keys.Collation.TheVariants.{Binary}
use Rattle.sqlite_value.specs.declared.keys.Order.{Order}
use Rattle.sqlite_value.specs.declared.value.Value.TheVariants.{Null, Int}
use Rattle.sqlite_sql.specs.declared.ops.BinaryOp.TheVariants.{Compare, And}
use Rattle.sqlite_sql.specs.declared.ops.CompareOp.TheVariants.{Eq, Le, Ge}
use Rattle.sqlite_sql.specs.Term.{Term, lit, col, op2}
use Rattle.sqlite_schema.specs.declared.schema.Column.{Column}
use Rattle.sqlite_schema.specs.declared.schema.Table.{Table}
use Rattle.sqlite_schema.specs.declared.schema.Schema.{Schema}
use Rattle.sqlite_schema.specs.declared.schema.Kind.{Kind}
use Rattle.sqlite_schema.specs.declared.schema.Kind.TheVariants.{Integer, Text, Blob}
use Rattle.sqlite_catalog.specs.Change.{automatics}

-- A column of a STRICT table: of some kind, and never NULL.
abbrev pub filled : List ℕ → Kind → Column
filled name kind = record {
  name = name;
  kind = kind;
  is_strict = true;
  not_null = true;
  default = Null;
  collation = Binary;
}

abbrev pub integer : List ℕ → Column
integer name = filled name Integer

abbrev pub text : List ℕ → Column
text name = filled name Text

abbrev pub blob : List ℕ → Column
blob name = filled name Blob

-- a number, or NULL
abbrev pub maybe_integer : List ℕ → Column
maybe_integer name = record (integer name) { not_null = false }

abbrev pub plain_order : Order
plain_order = record { digits = 0 }

-- low to high, both included
abbrev pub within : Term → ℕ → ℕ → Term
within t low high = op2 And (op2 (Compare Ge Binary) t (lit (Int (pos low))))
    (op2 (Compare Le Binary) t (lit (Int (pos high))))

-- a table whose key is its first column, which is the rowid: its name, tree, columns and CHECKs
abbrev pub numbered_table : List ℕ → ℕ → List Column → List Term → Table
numbered_table name tree columns checks = record {
  name = name;
  tree = tree;
  columns = columns;
  key = Some 0;
  primary = 0 ∷ [];
  uniques = [];
  orders = [];
  checks = checks;
  references = [];
  computed = [];
  stamps = record { places = []; terms = []; formats = [] };
  is_counted = false;
}

-- a table whose key is its first columns, beside a rowid that means nothing: its name, tree, columns, the places of its
-- key (the rowid has place 0) and of what else is UNIQUE
abbrev pub keyed_table : List ℕ → ℕ → List Column → List ℕ → List (List ℕ) → Table
keyed_table name tree columns primary uniques = record {
  name = name;
  tree = tree;
  columns = columns;
  key = None;
  primary = primary;
  uniques = primary ∷ uniques;
  orders = map (λ _. plain_order) (primary ∷ uniques);
  checks = [];
  references = [];
  computed = [];
  stamps = record { places = []; terms = []; formats = [] };
  is_counted = false;
}

-- one row: the version of the tables
abbrev pub office : Table
office = numbered_table (codes "office") 0 (integer (codes "one") ∷ integer (codes "version") ∷ [])
    (op2 (Compare Eq Binary) (col 1 0) (lit (Int (pos 1))) ∷ [])

-- the plan
abbrev pub channel : Table
channel = numbered_table (codes "channel") 1
    (integer (codes "ch") ∷ text (codes "rate") ∷ integer (codes "start") ∷ integer (codes "slots") ∷ [])
    (within (col 1 0) 1 999 ∷ within (col 1 4) 1 9999 ∷ [])

-- the library
abbrev pub tape : Table
tape = keyed_table (codes "tape") 2
    (integer (codes "ch") ∷ integer (codes "n") ∷ text (codes "barcode") ∷ maybe_integer (codes "slot") ∷ [])
    (1 ∷ 2 ∷ []) ((1 ∷ 3 ∷ []) ∷ (1 ∷ 4 ∷ 2 ∷ []) ∷ [])

-- the parts of tapes that may be played
abbrev pub clip : Table
clip = keyed_table (codes "clip") 6
    (integer (codes "ch") ∷ integer (codes "n") ∷ integer (codes "tape") ∷ text (codes "title")
    ∷ blob (codes "umid") ∷ integer (codes "src_first") ∷ integer (codes "frames")
    ∷ integer (codes "retired") ∷ [])
    (1 ∷ 2 ∷ []) ((1 ∷ 5 ∷ []) ∷ [])

-- what a channel lends another
abbrev pub offer : Table
offer = keyed_table (codes "offer") 9
    (integer (codes "ch") ∷ integer (codes "n") ∷ integer (codes "grantee") ∷ integer (codes "clip")
    ∷ text (codes "title") ∷ blob (codes "umid") ∷ text (codes "rate") ∷ integer (codes "src_first")
    ∷ integer (codes "frames") ∷ integer (codes "withdrawn") ∷ [])
    (1 ∷ 2 ∷ []) ((3 ∷ 1 ∷ 2 ∷ []) ∷ (1 ∷ 4 ∷ 3 ∷ 2 ∷ []) ∷ [])

-- the broadcast days that a channel has opened
abbrev pub day : Table
day = keyed_table (codes "day") 13 (integer (codes "ch") ∷ integer (codes "day") ∷ integer (codes "sealed") ∷ [])
    (1 ∷ 2 ∷ []) []

-- what a day plays
abbrev pub item : Table
item = keyed_table (codes "item") 15
    (integer (codes "ch") ∷ integer (codes "day") ∷ integer (codes "n") ∷ integer (codes "pos")
    ∷ integer (codes "frames") ∷ text (codes "src") ∷ integer (codes "src_first") ∷ text (codes "kind")
    ∷ integer (codes "mix") ∷ [])
    (1 ∷ 2 ∷ 3 ∷ []) ((1 ∷ 2 ∷ 4 ∷ []) ∷ [])

-- a list of what was aired, as it came in
abbrev pub batch : Table
batch = keyed_table (codes "batch") 18 (integer (codes "ch") ∷ integer (codes "day") ∷ integer (codes "n") ∷ [])
    (1 ∷ 2 ∷ 3 ∷ []) []

-- its lines
abbrev pub aired : Table
aired = keyed_table (codes "aired") 20
    (integer (codes "ch") ∷ integer (codes "day") ∷ integer (codes "batch") ∷ integer (codes "line")
    ∷ integer (codes "pos") ∷ integer (codes "frames") ∷ text (codes "src")
    ∷ integer (codes "src_first") ∷ [])
    (1 ∷ 2 ∷ 3 ∷ 4 ∷ []) []

-- the windows of days in which what a channel lends may be shown: of each that has one, by the offer's channel and
-- number
abbrev pub span : Table
span = record (keyed_table (codes "span") 22
    (integer (codes "ch") ∷ integer (codes "n") ∷ integer (codes "first_day") ∷ integer (codes "last_day") ∷ [])
    (1 ∷ 2 ∷ []) []) {
      checks =
          op2 And (op2 And (op2 (Compare Le Binary) (lit (Int (pos 1))) (col 1 3))
          (op2 (Compare Le Binary) (col 1 3) (col 1 4)))
          (op2 (Compare Le Binary) (col 1 4) (lit (Int (pos 99999)))) ∷ [];
    }

-- a table before a tree is chosen for it, as its text alone defines it
abbrev pub unplaced : Table → Table
unplaced table = record table { tree = 0 }

-- The schema, table after table as they are made.

-- some tables, each with an index for its key and for what else is UNIQUE
abbrev pub schema_of : List Table → Schema
schema_of tables = record {
  tables = tables;
  indexes = flat_map (λ table. automatics table 0 (table.tree + 1) table.uniques) tables;
  views = [];
}

-- the nine of version 1
abbrev pub first_tables : List Table
first_tables = office ∷ channel ∷ tape ∷ clip ∷ offer ∷ day ∷ item ∷ batch ∷ aired ∷ []

-- the nine, and more behind them
abbrev pub first_and : List Table → Schema
first_and more = schema_of (first_tables ++ more)

abbrev pub first_schema : Schema
first_schema = first_and []

-- all ten
abbrev pub centre_schema : Schema
centre_schema = first_and (span ∷ [])

abbrev pub no_schema : Schema
no_schema = schema_of []

abbrev pub schema_with_office : Schema
schema_with_office = schema_of (take 1 first_tables)

abbrev pub schema_with_channel : Schema
schema_with_channel = schema_of (take 2 first_tables)

abbrev pub schema_with_tape : Schema
schema_with_tape = schema_of (take 3 first_tables)

abbrev pub schema_with_clip : Schema
schema_with_clip = schema_of (take 4 first_tables)

abbrev pub schema_with_offer : Schema
schema_with_offer = schema_of (take 5 first_tables)

abbrev pub schema_with_day : Schema
schema_with_day = schema_of (take 6 first_tables)

abbrev pub schema_with_item : Schema
schema_with_item = schema_of (take 7 first_tables)

abbrev pub schema_with_batch : Schema
schema_with_batch = schema_of (take 8 first_tables)
