-- Trees that agree in the tables of a centre hold the same, so a change of some tables is a change of the set.
use Rattle.std.proofs.Common.{◌≡◌, ◌≢◌, ℕ, pos, Bool, true, false, cond, List, [], ◌∷◌, refl, sym, ap, ◌∙◌, subst}
use Rattle.std.proofs.Common.{arith}
use Rattle.std.specs.Prelude.{◌==◌, ◌||◌}
use Rattle.std.specs.List.{AllByRecursion, list_any}
use Rattle.std.proofs.lemmas.Bool.{eqb-true}
use Rattle.std.proofs.lemmas.Bool.Decides.{nat_tests}
use Rattle.sqlite_trees.specs.Tree.{Trees}
use Rattle.sqlite_schema.specs.declared.schema.Table.{Table}
use Rattle.sqlite_keyed.proofs.ListLemmas.{all_weaker}
use Rattle.sqlite.specs.Effect.{Database, IsDatabase}
use Rattle.sqlite.specs.State.{State, Shows}
use Rattle.channel_view_model.specs.Centre.{Centre}
use Rattle.station_tables_records.specs.Table.{IsTypedIn}
use Rattle.station_tables_records.specs.Schema.{centre_schema, day, item, batch, aired}
use Rattle.station_tables_records.specs.OfficeRow.{HasVersion}
use Rattle.station_tables_records.specs.ChannelRows.{channel_table}
use Rattle.station_tables_records.specs.TapeRows.{tape_table}
use Rattle.station_tables_records.specs.ClipRows.{clip_table}
use Rattle.station_tables_records.specs.OfferRows.{offer_table}
use Rattle.station_tables_records.specs.SpanRows.{span_table}
use Rattle.station_tables_records.specs.DayRows.{day_table}
use Rattle.station_tables_records.specs.ItemRows.{item_table}
use Rattle.station_tables_records.specs.BatchRows.{batch_table}
use Rattle.station_tables_records.specs.LineRows.{line_table}
use Rattle.station_tables_statements.specs.Rows.{OwnsRows, rows_of_tables, IsCentre, Changes}

-- the trees agree in the tables of a centre
abbrev pub Agree : Trees → Trees → Type 0
Agree a b = AllByRecursion (λ t. a t.tree ≡ b t.tree) centre_schema.tables

-- the rows of these tables, and no others
abbrev alone : List Table → Trees → Trees
alone tables trees k = cond (list_any (λ t. t.tree == k) tables) (trees k) []

alone_same : (a b : Trees) (k : ℕ) (tables : List Table) → AllByRecursion (λ t. a t.tree ≡ b t.tree) tables
    → alone tables a k ≡ alone tables b k
alone_same a b k [] same = refl
alone_same a b k (t ∷ tables) same = by (t.tree == k) refl (alone_same a b k tables same.1)
  where
    by : (mine : Bool) → (t.tree == k) ≡ mine → alone tables a k ≡ alone tables b k
        → cond (mine || list_any (λ u. u.tree == k) tables) (a k) []
        ≡ cond (mine || list_any (λ u. u.tree == k) tables) (b k) []
    by true is rest = subst (λ j. a j ≡ b j) (eqb-true t.tree k is) same.0
    by false is rest = rest

module _ (a b : Trees) (same : Agree a b) where
  both_same : alone centre_schema.tables b ≡ alone centre_schema.tables a
  both_same = λ i k. sym (alone_same a b k centre_schema.tables same) i

  moved : (P : Trees → Type 0) → P (alone centre_schema.tables b) → P (alone centre_schema.tables a)
  moved P = subst P both_same

  pub rows_agree : rows_of_tables a ≡ rows_of_tables b
  rows_agree = ap rows_of_tables (sym both_same)

  pub owned_agrees : OwnsRows b → OwnsRows a
  owned_agrees = moved OwnsRows

  pub centre_agrees : IsCentre (record { schema = centre_schema; trees = b })
      → IsCentre (record { schema = centre_schema; trees = a })
  centre_agrees is = record {
    schema = refl;
    office = moved (λ trees. HasVersion (pos 2) (trees 0)) is.office;
    channels = moved (IsTypedIn channel_table) is.channels;
    tapes = moved (IsTypedIn tape_table) is.tapes;
    clips = moved (IsTypedIn clip_table) is.clips;
    offers = moved (IsTypedIn offer_table) is.offers;
    days = moved (IsTypedIn day_table) is.days;
    items = moved (IsTypedIn item_table) is.items;
    batches = moved (IsTypedIn batch_table) is.batches;
    lines = moved (IsTypedIn line_table) is.lines;
    spans = moved (IsTypedIn span_table) is.spans;
  }

-- ---- a change of some tables

-- the table's rows are as they were, if its tree is none of these
abbrev pub Beside : List ℕ → Trees → Trees → Table → Type 0
Beside [] old new t = new t.tree ≡ old t.tree
Beside (at ∷ ats) old new t = t.tree ≢ at → Beside ats old new t

-- the trees with other rows in these
abbrev pub with_trees : List ℕ → Trees → Trees → Trees
with_trees [] old new k = old k
with_trees (at ∷ ats) old new k = cond (k == at) (new k) (with_trees ats old new k)

beside_is : (ats : List ℕ) (old new : Trees) (t : Table) → Beside ats old new t
    → new t.tree ≡ with_trees ats old new t.tree
beside_is [] old new t same = same
beside_is (at ∷ ats) old new t same = by (t.tree == at) refl (λ rest. beside_is ats old new t rest)
  where
    by : (mine : Bool) → (t.tree == at) ≡ mine → (Beside ats old new t → new t.tree ≡ with_trees ats old new t.tree)
        → new t.tree ≡ cond mine (new t.tree) (with_trees ats old new t.tree)
    by true is rest = refl
    by false is rest = rest (same (λ e. absurd (grind (arith, nat_tests, is, e))))

pub agrees_beside : (ats : List ℕ) (old new : Trees) → AllByRecursion (Beside ats old new) centre_schema.tables
    → Agree new (with_trees ats old new)
agrees_beside ats old new others = all_weaker (Beside ats old new) _ (beside_is ats old new) centre_schema.tables others

-- the tables of a centre with other rows of days and of items
pub with_days : (old : Database) (new : Trees) → IsCentre old → IsTypedIn day_table new → IsTypedIn item_table new
    → IsCentre (record { schema = centre_schema; trees = with_trees (day.tree ∷ item.tree ∷ []) old.trees new })
with_days old new was days items = record {
  schema = refl;
  office = was.office;
  channels = was.channels;
  tapes = was.tapes;
  clips = was.clips;
  offers = was.offers;
  days = days;
  items = items;
  batches = was.batches;
  lines = was.lines;
  spans = was.spans;
}

-- and with other rows of batches and of their lines
pub with_airings : (old : Database) (new : Trees) → IsCentre old → IsTypedIn batch_table new → IsTypedIn line_table new
    → IsCentre (record { schema = centre_schema; trees = with_trees (batch.tree ∷ aired.tree ∷ []) old.trees new })
with_airings old new was batches lines = record {
  schema = refl;
  office = was.office;
  channels = was.channels;
  tapes = was.tapes;
  clips = was.clips;
  offers = was.offers;
  days = was.days;
  items = was.items;
  batches = batches;
  lines = lines;
  spans = was.spans;
}

module _ (ats : List ℕ) (old new : State) where
  pub changed_in : (change : Centre → Centre) → new.now.schema ≡ centre_schema
      → AllByRecursion (Beside ats old.now.trees new.now.trees) centre_schema.tables
      → IsCentre (record { schema = centre_schema; trees = with_trees ats old.now.trees new.now.trees })
      → rows_of_tables (with_trees ats old.now.trees new.now.trees) ≡ change (rows_of_tables old.now.trees)
      → (OwnsRows old.now.trees → OwnsRows (with_trees ats old.now.trees new.now.trees))
      → (IsDatabase old.now → IsDatabase new.now) → Shows old new new.now old.committed true → Changes change old new
  changed_in change schema others centre rows_are owned sound shown =
      let trees : Trees = with_trees ats old.now.trees new.now.trees in
      let agree : Agree new.now.trees trees = agrees_beside ats old.now.trees new.now.trees others in
      record {
        centre =
            subst IsCentre (λ i. record { schema = sym schema i; trees = new.now.trees })
            (centre_agrees new.now.trees trees agree centre);
        content = rows_agree new.now.trees trees agree ∙ rows_are;
        owned = λ was. owned_agrees new.now.trees trees agree (owned was);
        sound = sound;
        shown = shown;
      }
