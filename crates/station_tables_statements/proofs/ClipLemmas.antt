-- What each statement on clips does to their table.
use Rattle.std.proofs.Common.{◌≡◌, ℕ, List, [], ◌∷◌, Ok, refl, sym, ap, ◌∙◌}
use Rattle.std.specs.Prelude.{◌==◌, true}
use Rattle.sqlite_value.specs.declared.value.Value.TheVariants.{Int, Blob as Bytes}
use Rattle.sqlite_value.specs.Order.{Row}
use Rattle.sqlite_trees.specs.Tree.{rowid}
use Rattle.sqlite_rules.specs.declared.error.Rowids.TheVariants.{Given}
use Rattle.sqlite_rules.specs.Edit.{numbered, id_in}
use Rattle.sqlite_keyed.specs.Lists.{insert_sorted}
use Rattle.sqlite_keyed.proofs.ListLemmas.{all_weaker}
use Rattle.sqlite.specs.State.{State, Shown, ExecutesInside}
use Rattle.umid.specs.BasicUmid.{UmidParts, basic_umid}
use Rattle.channel_view_model.specs.Tables.{alter_row}
use Rattle.vault_core.specs.declared.clip.Clip.{Clip}
use Rattle.station_tables_records.specs.Table.{IsTypedIn, rows_in, ChangesTable, ShowsPart}
use Rattle.station_tables_records.proofs.TableLemmas.{inserts_row, updates}
use Rattle.station_tables_records.proofs.SelectLemmas.{shows_part}
use Rattle.station_tables_records.specs.Schema.{centre_schema}
use Rattle.station_tables_records.proofs.Texts.{are_both_at, clip_with_text, insert_clip_text, retire_clip_text}
use Rattle.station_tables_records.proofs.Texts.{retired_clip}
use Rattle.station_tables_records.specs.Values.{of_nat}
use Rattle.station_tables_records.specs.Numbered.{is_row}
use Rattle.station_tables_records.specs.ClipRows.{clip_row, clip_cmp, clip_of, clip_table, is_clip_with, LacksClip}
use Rattle.station_tables_records.proofs.TextLemmas.{clip_texts}
use Rattle.station_tables_records.proofs.NumberedLemmas.{row_ties, same_row, key_stays, one_is}
use Rattle.station_tables_records.proofs.ClipRowLemmas.{clip_table_is, clip_rows, clip_is_with, clip_again, is_clip_row}
use Rattle.station_tables_records.proofs.ClipRowLemmas.{cast_new_clip, retired_one, cast_retired_clip}

module _ (old new : State) (has : old.now.schema ≡ centre_schema) where
  module _ (typed : IsTypedIn clip_table old.now.trees) where
    -- ---- SELECT of one channel

    pub shows_clip_with : (c : ℕ) (umid : UmidParts) (rows : List Row)
        → Shown clip_with_text (of_nat c ∷ Bytes (basic_umid umid) ∷ []) old new rows
        → ShowsPart clip_table (is_clip_with c umid) rows old.now.trees
    shows_clip_with c umid rows shown =
        shows_part clip_table clip_table_is clip_rows.shows old new has (of_nat c ∷ Bytes (basic_umid umid) ∷ [])
        clip_texts.with_umid (is_clip_with c umid) (clip_is_with c umid) rows typed shown

    -- ---- INSERT

    pub puts_clip : (t : ℕ × Clip) (count : ℕ) → LacksClip t.0 t.1.n (rows_in clip_table old.now.trees)
        → ExecutesInside 0 insert_clip_text (clip_row t) old new (Ok count)
        → ChangesTable clip_table (insert_sorted clip_cmp t) old new
    puts_clip t count fresh ran =
        inserts_row clip_table clip_table_is old new has (clip_row t) clip_texts.insert t
        (ap (λ row. row ∷ []) (cast_new_clip t)) (λ id. clip_again id t) (λ id. is_clip_row id t) count typed
        (all_weaker _ _ (λ u h. row_ties (λ (t : Clip). t.n) t u ∙ h) (rows_in clip_table old.now.trees) fresh) ran

    -- ---- UPDATE by key

    pub retires_clip : (c n count : ℕ) → ExecutesInside 0 retire_clip_text (of_nat c ∷ of_nat n ∷ []) old new (Ok count)
        → ChangesTable clip_table (alter_row c (λ k. k.n == n) (λ k. record k { retired = true })) old new
    retires_clip c n count ran =
        let made : Row → Row = λ r. Int (id_in (rowid r)) ∷ clip_row (retired_one (clip_of r)) in
        updates clip_table clip_table_is old new has retire_clip_text (of_nat c ∷ of_nat n ∷ []) clip_texts.retire.plain
        (are_both_at 1 2) retired_clip (is_row (λ (t : Clip). t.n) c n) (one_is clip_rows c n [])
        (same_row (λ (t : Clip). t.n) c n)
        retired_one made clip_texts.retire.is
        (key_stays (λ (t : Clip). t.n) (is_row (λ (t : Clip). t.n) c n) (λ t. record t { retired = true })
        (λ t. refl)) (λ found is. refl)
        (λ rows found is. ap (λ row. numbered Given rows (row ∷ [])) (cast_retired_clip found is))
        (λ found is. (
          sym is.0,
          clip_again (id_in (rowid found)) (retired_one (clip_of found)),
          is_clip_row (id_in (rowid found))
              (retired_one (clip_of found)),
        )) count typed ran
