-- What each statement does to the centre.
use Rattle.std.proofs.Common.{◌≡◌, ℕ, ℤ, true, List, [], ◌∷◌, map, Ok, IsPermutation, refl, sym, ap, ◌∙◌, subst}
use Rattle.std.specs.Prelude.{◌↔◌, ◌==◌, filter}
use Rattle.station_tables_records.specs.declared.day_rows.DayRow.{DayRow}
use Rattle.station_tables_records.specs.declared.day_rows.ItemRow.{ItemRow}
use Rattle.station_tables_records.specs.MadeDays.{DaySet, days_made}
use Rattle.station_tables_records.specs.TablePairs.{aired_rows_in, day_rows_in}
use Rattle.sqlite_value.specs.declared.value.Value.TheVariants.{Int, Text as Words}
use Rattle.sqlite_value.specs.Order.{Row}
use Rattle.sqlite_trees.specs.Tree.{put_row, rowid}
use Rattle.sqlite_sql.specs.Term.{eval_all}
use Rattle.sqlite_rules.specs.declared.error.Rowids.TheVariants.{Chosen, Given}
use Rattle.sqlite_rules.specs.Edit.{numbered, id_in}
use Rattle.sqlite_keyed.specs.Lists.{insert_sorted}
use Rattle.sqlite_keyed.proofs.ListLemmas.{all_weaker}
use Rattle.sqlite.specs.Values.{or_null}
use Rattle.sqlite.specs.State.{State, Shown, ExecutesInside}
use Rattle.sqlite.proofs.Callers.{one_permutation}
use Rattle.channel_plan.specs.declared.plan.PlanRow.{PlanRow}
use Rattle.vault_core.specs.declared.tape.Tape.{Tape}
use Rattle.vault_core.specs.declared.clip.Clip.{Clip}
use Rattle.vault_core.specs.Questions.{alter}
use Rattle.channel_view_model.specs.Tables.{alter_row}
use Rattle.station_tables_records.specs.Table.{LacksKeyOf, ChangesTable, IsBare, ShowsPart}
use Rattle.station_tables_records.proofs.TableLemmas.{puts, inserts, inserts_row, updates}
use Rattle.station_tables_records.proofs.SelectLemmas.{shows_part}
use Rattle.station_tables_records.specs.Schema.{centre_schema, channel, tape, clip}
use Rattle.station_tables_records.specs.MadeAirings.{AiredSet, airing_made, airings_made, is_first}
use Rattle.station_tables_records.specs.declared.aired_rows.BatchRow.{BatchRow}
use Rattle.station_tables_records.proofs.Texts.{are_both_at, office_columns, channel_text, tape_with_text, tape_in_text}
use Rattle.station_tables_records.proofs.Texts.{insert_tape_text, change_tape_text, changed_tape, insert_clip_text}
use Rattle.station_tables_records.proofs.Texts.{retire_clip_text, insert_channel_text, new_channel, insert_office_text}
use Rattle.station_tables_records.proofs.Texts.{new_office}
use Rattle.station_tables_records.specs.Values.{of_nat}
use Rattle.station_tables_records.specs.ChannelRows.{channel_row, stored_channel, channel_table, channel_cmp}
use Rattle.station_tables_records.specs.ChannelRows.{is_channel}
use Rattle.station_tables_records.specs.Numbered.{is_row}
use Rattle.station_tables_records.specs.TapeRows.{tape_row, tape_cmp, tape_of, tape_table, is_tape_with, is_tape_in}
use Rattle.station_tables_records.specs.TapeRows.{LacksTape}
use Rattle.station_tables_records.specs.ClipRows.{clip_row, clip_cmp, clip_table, LacksClip}
use Rattle.station_tables_records.specs.OfficeRow.{HasVersion, office_table, new_office_row}
use Rattle.station_tables_statements.specs.Rows.{channels_in, tapes_in, clips_in, days_in, airings_in, OwnsRows}
use Rattle.station_tables_statements.specs.Rows.{rows_of_tables, IsCentre, Changes, on_tapes, on_clips, on_channels}
use Rattle.station_tables_statements.specs.Rows.{no_rows}
use Rattle.station_tables_records.proofs.TextLemmas.{channel_texts, tape_texts, office_texts}
use Rattle.station_tables_records.proofs.OfficeRowLemmas.{office_table_is, cast_new_office}
use Rattle.station_tables_statements.proofs.AgreeLemmas.{changed_in}
use Rattle.station_tables_statements.proofs.MakeLemmas.{new_centre, version_found}
use Rattle.station_tables_records.proofs.ChannelRowLemmas.{channel_table_is, channel_columns_are, channel_is_of}
use Rattle.station_tables_records.proofs.ChannelRowLemmas.{channel_again, is_channel_row, cast_new_channel}
use Rattle.station_tables_statements.proofs.ClipLemmas.{puts_clip, retires_clip}
use Rattle.station_tables_records.proofs.NumberedLemmas.{row_ties, same_row, key_stays, one_is}
use Rattle.station_tables_records.proofs.TapeRowLemmas.{tape_table_is, tape_rows, tape_is_with, tape_is_in, tape_again}
use Rattle.station_tables_records.proofs.TapeRowLemmas.{is_tape_row, cast_new_tape, in_place, cast_changed_tape}

module _ (old new : State) (was : IsCentre old.now) where
  -- no days are made of no rows
  none_made : (plan : List PlanRow) (rows : DaySet) → days_made plan rows ≡ [] → (other : List PlanRow)
      → days_made other rows ≡ days_made plan rows
  none_made plan rows none other = by rows.days rows.items none
    where
      by : (days : List (ℕ × DayRow)) (items : List (ℕ × ItemRow))
          → days_made plan (record { days = days; items = items }) ≡ []
          → days_made other (record { days = days; items = items })
          ≡ days_made plan (record { days = days; items = items })
      by [] items none = refl
      by (d ∷ days) items none = absurd (cc)

  -- and nothing aired
  none_aired : (plan : List PlanRow) (rows : AiredSet) → airings_made plan rows ≡ [] → (other : List PlanRow)
      → airings_made other rows ≡ airings_made plan rows
  none_aired plan rows none other = by (filter is_first rows.batches) none
    where
      by : (batches : List (ℕ × BatchRow)) → map (airing_made plan rows) batches ≡ []
          → map (airing_made other rows) batches ≡ map (airing_made plan rows) batches
      by [] none = refl
      by (b ∷ batches) none = absurd (cc)

  changes_channels : (f : List PlanRow → List PlanRow) → days_in old.now.trees ≡ [] → airings_in old.now.trees ≡ []
      → ChangesTable channel_table f old new → Changes (on_channels f) old new
  changes_channels f none silent c =
      changed_in (channel.tree ∷ []) old new (on_channels f) c.schema_is c.others
      (record {
        schema = refl;
        office = was.office;
        channels = c.typed;
        tapes = was.tapes;
        clips = was.clips;
        offers =
            was.offers;
        days = was.days;
        items = was.items;
        batches = was.batches;
        lines = was.lines;
        spans = was.spans;
      })
      (λ i. record (rows_of_tables old.now.trees) {
        channels = c.rows_are i;
        days = none_made (channels_in old.now.trees) (day_rows_in old.now.trees) none (channels_in new.now.trees) i;
        aired =
            none_aired (channels_in old.now.trees) (aired_rows_in old.now.trees) silent (channels_in new.now.trees) i;
      })
      (λ owned. owned) (λ was_sound. c.sound) c.shown

  changes_tapes : (f : List (ℕ × Tape) → List (ℕ × Tape)) → ChangesTable tape_table f old new
      → Changes (on_tapes f) old new
  changes_tapes f c =
      changed_in (tape.tree ∷ []) old new (on_tapes f) c.schema_is c.others
      (record {
        schema = refl;
        office = was.office;
        channels = was.channels;
        tapes = c.typed;
        clips = was.clips;
        offers =
            was.offers;
        days = was.days;
        items = was.items;
        batches = was.batches;
        lines = was.lines;
        spans = was.spans;
      })
      (λ i. record (rows_of_tables old.now.trees) { tapes = c.rows_are i }) (λ owned. owned) (λ was_sound. c.sound)
      c.shown

  changes_clips : (f : List (ℕ × Clip) → List (ℕ × Clip)) → ChangesTable clip_table f old new
      → Changes (on_clips f) old new
  changes_clips f c =
      changed_in (clip.tree ∷ []) old new (on_clips f) c.schema_is c.others
      (record {
        schema = refl;
        office = was.office;
        channels = was.channels;
        tapes = was.tapes;
        clips = c.typed;
        offers =
            was.offers;
        days = was.days;
        items = was.items;
        batches = was.batches;
        lines = was.lines;
        spans = was.spans;
      })
      (λ i. record (rows_of_tables old.now.trees) { clips = c.rows_are i }) (λ owned. owned) (λ was_sound. c.sound)
      c.shown

  -- ---- SELECT of one channel

  pub shows_channel : (c : ℕ) (rows : List Row) → Shown channel_text (of_nat c ∷ []) old new rows
      → ShowsPart channel_table (is_channel c) rows old.now.trees
  shows_channel c rows shown =
      shows_part channel_table channel_table_is channel_columns_are old new was.schema (of_nat c ∷ []) channel_texts.one
      (is_channel c) (channel_is_of c) rows was.channels shown

  pub shows_tape_with : (c : ℕ) (barcode : List ℕ) (rows : List Row)
      → Shown tape_with_text (of_nat c ∷ Words barcode ∷ []) old new rows
      → ShowsPart tape_table (is_tape_with c barcode) rows old.now.trees
  shows_tape_with c barcode rows shown =
      shows_part tape_table tape_table_is tape_rows.shows old new was.schema (of_nat c ∷ Words barcode ∷ [])
      tape_texts.with_barcode (is_tape_with c barcode) (tape_is_with c barcode) rows was.tapes shown

  pub shows_tape_in : (c slot : ℕ) (rows : List Row) → Shown tape_in_text (of_nat c ∷ of_nat slot ∷ []) old new rows
      → ShowsPart tape_table (is_tape_in c slot) rows old.now.trees
  shows_tape_in c slot rows shown =
      shows_part tape_table tape_table_is tape_rows.shows old new was.schema (of_nat c ∷ of_nat slot ∷ [])
      tape_texts.in_slot (is_tape_in c slot) (tape_is_in c slot) rows was.tapes shown

  -- ---- INSERT

  pub inserts_tape : (t : ℕ × Tape) (count : ℕ) → LacksTape t.0 t.1.n (tapes_in old.now.trees)
      → ExecutesInside 0 insert_tape_text (tape_row t) old new (Ok count)
      → Changes (on_tapes (insert_sorted tape_cmp t)) old new
  inserts_tape t count fresh ran =
      changes_tapes (insert_sorted tape_cmp t)
      (inserts_row tape_table tape_table_is old new was.schema (tape_row t) tape_texts.insert t
      (ap (λ row. row ∷ []) (cast_new_tape t)) (λ id. tape_again id t) (λ id. is_tape_row id t) count was.tapes
      (all_weaker _ _ (λ u h. row_ties (λ (t : Tape). t.n) t u ∙ h) (tapes_in old.now.trees) fresh) ran)

  pub inserts_channel : (c : PlanRow) (count : ℕ) → days_in old.now.trees ≡ [] → airings_in old.now.trees ≡ []
      → LacksKeyOf channel_table c (channels_in old.now.trees)
      → ExecutesInside 0 insert_channel_text (channel_row c) old new (Ok count)
      → Changes (on_channels (insert_sorted channel_cmp c)) old new
  inserts_channel c count none silent fresh ran =
      let rows = old.now.trees 1 in
      changes_channels (insert_sorted channel_cmp c) none silent
      (inserts channel_table channel_table_is old new was.schema insert_channel_text (channel_row c)
      channel_texts.insert.plain new_channel 5 channel_texts.insert.is (stored_channel c) c
      (ap (λ row. numbered Chosen rows (row ∷ [])) (cast_new_channel c)) (channel_again c, is_channel_row c) count
      was.channels fresh ran)

  pub inserts_clip : (t : ℕ × Clip) (count : ℕ) → LacksClip t.0 t.1.n (clips_in old.now.trees)
      → ExecutesInside 0 insert_clip_text (clip_row t) old new (Ok count)
      → Changes (on_clips (insert_sorted clip_cmp t)) old new
  inserts_clip t count fresh ran =
      changes_clips (insert_sorted clip_cmp t) (puts_clip old new was.schema was.clips t count fresh ran)

  -- ---- UPDATE by key

  pub sets_retired : (c n count : ℕ) → ExecutesInside 0 retire_clip_text (of_nat c ∷ of_nat n ∷ []) old new (Ok count)
      → Changes (on_clips (alter_row c (λ k. k.n == n) (λ k. record k { retired = true }))) old new
  sets_retired c n count ran =
      changes_clips (alter_row c (λ k. k.n == n) (λ k. record k { retired = true }))
      (retires_clip old new was.schema was.clips c n count ran)

  pub sets_tape : (t : ℕ × Tape) (count : ℕ) → ExecutesInside 0 change_tape_text (tape_row t) old new (Ok count)
      → Changes (on_tapes (alter_row t.0 (λ u. u.n == t.1.n) (λ u. record t.1 { n = u.n }))) old new
  sets_tape t count ran =
      let placed = in_place t.1 in
      let made : Row → Row = λ r. Int (id_in (rowid r)) ∷ tape_row (placed (tape_of r)) in
      changes_tapes (alter (is_row (λ (t : Tape). t.n) t.0 t.1.n) placed)
      (updates tape_table tape_table_is old new was.schema change_tape_text (tape_row t) tape_texts.change.plain
      (are_both_at 1 2) changed_tape (is_row (λ (t : Tape). t.n) t.0 t.1.n)
      (one_is tape_rows t.0 t.1.n (Words t.1.barcode ∷ or_null of_nat t.1.slot ∷ []))
      (same_row (λ (t : Tape). t.n) t.0 t.1.n)
      placed made tape_texts.change.is
      (key_stays (λ (t : Tape). t.n) (is_row (λ (t : Tape). t.n) t.0 t.1.n) (λ u. record t.1 { n = u.n })
      (λ u. refl)) (λ found is. refl)
      (λ rows found is. ap (λ row. numbered Given rows (row ∷ [])) (cast_changed_tape found t.1 is))
      (λ found is. (
        sym is.0,
        tape_again (id_in (rowid found)) (placed (tape_of found)),
        is_tape_row (id_in (rowid found))
            (placed (tape_of found)),
      )) count was.tapes ran)

-- rows that the open's text shows of `office` have the version that it has
pub version_moved : (all rows : List Row)
    → IsPermutation (map (λ (r : Row). eval_all office_columns ([] ∷ r ∷ [])) all) rows → (version : ℤ)
    → HasVersion version rows ↔ HasVersion version all
version_moved all rows moved version = (version_found version all rows moved, λ has. version_shown has)
  where
    version_shown : HasVersion version all → HasVersion version rows
    version_shown has =
        let cells = λ (r : Row). eval_all office_columns ([] ∷ r ∷ []) in
        record {
          row = cells has.row;
          alone = one_permutation (cells has.row) rows (subst (λ l. IsPermutation (map cells l) rows) has.alone moved);
          is_row = record { one = has.is_row.one; version = has.is_row.version };
          version_is = has.version_is;
        }

-- ---- the row of `office`

pub inserts_office : (old new : State) (count : ℕ) → IsBare centre_schema old.now
    → ExecutesInside 0 insert_office_text [] old new (Ok count)
    → Changes (λ _. no_rows) old new × OwnsRows new.now.trees
inserts_office old new count bare ran =
    let p =
    puts office_table office_table_is old new bare.schema_is insert_office_text [] office_texts.insert.plain
    new_office 3 office_texts.insert.is new_office_row
    (ap (λ row. numbered Chosen (old.now.trees 0) (row ∷ [])) cast_new_office) count ran in
    let made = new_centre old.now new.now bare p.0 (p.2 ∙ ap (put_row new_office_row) bare.empty.0) p.3 in
    (record { centre = made.0; content = made.1; owned = λ _. made.2; sound = λ _. p.4; shown = ran.1 }, made.2)
