-- A change of one of two tables is one of both, and one comes after another.
use Rattle.std.proofs.Common.{◌≡◌, ◌≢◌, ℕ, List, refl, sym, ap, ap₂, ◌∙◌, subst}
use Rattle.std.specs.List.{AllByRecursion}
use Rattle.sqlite_schema.specs.declared.schema.Schema.{Schema}
use Rattle.sqlite_schema.specs.declared.schema.Table.{Table}
use Rattle.sqlite_keyed.proofs.ListLemmas.{all_weaker, all_both, all_of}
use Rattle.sqlite.specs.State.{State}
use Rattle.station_tables_records.specs.Content.{IsTyped, content}
use Rattle.station_tables_records.specs.Table.{IsTypedIn, rows_in, ChangesTable}
use Rattle.station_tables_records.specs.TwoTables.{TwoTables, ChangesBoth, IsAtBoth}

-- the table's rows are as they were, if its tree is neither of these two
abbrev Beside : ℕ → ℕ → State → State → Table → Type 0
Beside one other old new t = t.tree ≢ one → t.tree ≢ other → new.now.trees t.tree ≡ old.now.trees t.tree

-- or if it isn't this one
abbrev ButOne : ℕ → State → State → Table → Type 0
ButOne one old new t = t.tree ≢ one → new.now.trees t.tree ≡ old.now.trees t.tree

module _ {A B C : Type 0} {t : TwoTables A B C} where
  module _ (old new : State) where
    pub first_changed : (f : List A → List A) (change : C → C)
        → ((xs : List A) (ys : List B) → t.both (f xs) ys ≡ change (t.both xs ys))
        → new.now.trees t.second.base.tree ≡ old.now.trees t.second.base.tree → IsTypedIn t.second old.now.trees
        → ChangesTable t.first f old new
        → ChangesBoth t change old new
    first_changed f change says kept was c = record {
      tables =
          record {
            schema = c.schema_is;
            first = c.typed;
            second =
                subst (IsTyped t.second.cmp t.second.of t.second.IsRow) (sym kept) was;
          };
      rows_are =
          ap₂ t.both c.rows_are (ap (content t.second.cmp t.second.of) kept)
          ∙ says (rows_in t.first old.now.trees) (rows_in t.second old.now.trees);
      others =
          all_weaker (ButOne t.first.base.tree old new) (Beside t.first.base.tree t.second.base.tree old new)
          (λ other h away also. h away) t.first.schema.tables c.others;
      sound = λ was_sound. c.sound;
      shown = c.shown;
    }

    pub second_changed : (f : List B → List B) (change : C → C)
        → ((xs : List A) (ys : List B) → t.both xs (f ys) ≡ change (t.both xs ys)) → t.first.schema ≡ t.second.schema
        → new.now.trees t.first.base.tree ≡ old.now.trees t.first.base.tree → IsTypedIn t.first old.now.trees
        → ChangesTable t.second f old new → ChangesBoth t change old new
    second_changed f change says one_schema kept was c = record {
      tables =
          record {
            schema = c.schema_is ∙ sym one_schema;
            first =
                subst (IsTyped t.first.cmp t.first.of t.first.IsRow) (sym kept) was;
            second = c.typed;
          };
      rows_are =
          ap₂ t.both (ap (content t.first.cmp t.first.of) kept) c.rows_are
          ∙ says (rows_in t.first old.now.trees) (rows_in t.second old.now.trees);
      others =
          all_weaker (ButOne t.second.base.tree old new) (Beside t.first.base.tree t.second.base.tree old new)
          (λ other h away also. h also) t.first.schema.tables
          (subst (λ (s : Schema). AllByRecursion (ButOne t.second.base.tree old new) s.tables) (sym one_schema)
          c.others);
      sound = λ was_sound. c.sound;
      shown = c.shown;
    }

  pub both_then : (f g : C → C) (old mid new : State) → ChangesBoth t f old mid → ChangesBoth t g mid new
      → ChangesBoth t (λ rows. g (f rows)) old new
  both_then f g old mid new one two = record {
    tables = two.tables;
    rows_are = two.rows_are ∙ ap g one.rows_are;
    others =
        all_both (Beside t.first.base.tree t.second.base.tree old mid)
        (Beside t.first.base.tree t.second.base.tree mid new) (Beside t.first.base.tree t.second.base.tree old new)
        (λ other h k away also. k away also ∙ h away also) t.first.schema.tables one.others two.others;
    sound = λ was_sound. two.sound (one.sound was_sound);
    shown =
        record {
          was_open = one.shown.was_open;
          is_open = two.shown.is_open;
          now_is = two.shown.now_is;
          committed_is =
              two.shown.committed_is ∙ one.shown.committed_is;
          mode = two.shown.mode;
        };
  }

  pub both_still : (s : State) → IsAtBoth t s → ChangesBoth t (λ rows. rows) s s
  both_still s at = record {
    tables = at.tables;
    rows_are = refl;
    others = all_of (Beside t.first.base.tree t.second.base.tree s s) (λ other away also. refl) t.first.schema.tables;
    sound = λ was_sound. was_sound;
    shown = record { was_open = at.is_open; is_open = at.is_open; now_is = refl; committed_is = refl; mode = at.mode };
  }

  pub at_both : (f : C → C) (old new : State) → ChangesBoth t f old new → IsAtBoth t new
  at_both f old new c = record { is_open = c.shown.is_open; mode = c.shown.mode; tables = c.tables }
