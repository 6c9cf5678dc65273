-- What the open says of a refusal, and of the rows of days where the rules hold.
use Rattle.std.proofs.Common.{◌≡◌, ◌⊎◌, inl, inr, ℕ, ℤ, pos, IsTrue, Bool, true, false, true≢false, List, [], ◌∷◌, map}
use Rattle.std.proofs.Common.{Result, Ok, Err, IfErr, OnOk, refl, sym, ap, ◌∙◌, subst, arith}
use Rattle.std.specs.Prelude.{◌==◌, ◌&&◌, ◌||◌, IfOk, slice_index_or}
use Rattle.std.specs.List.{AllByRecursion}
use Rattle.std.proofs.lemmas.Bool.Decides.{nat_tests}
use Rattle.std.specs.List.{list_all}
use Rattle.std.specs.Result.{IsErrAnd}
use Rattle.sqlite_trees.specs.Tree.{Trees}
use Rattle.channel_plan.specs.declared.plan.PlanRow.{PlanRow}
use Rattle.channel_view_model.specs.Rules.{is_planned, KeepsRules}
use Rattle.channel_view_model.specs.Centre.{Centre}
use Rattle.vault_core.specs.declared.tape.Tape.{Tape}
use Rattle.vault_core.specs.declared.clip.Clip.{Clip}
use Rattle.playlist_core.specs.Day.{Day}
use Rattle.asrun_match.specs.declared.day.DayAsRun.{DayAsRun}
use Rattle.station_tables_records.specs.ChannelRows.{channel_table}
use Rattle.station_tables_records.specs.TapeRows.{tape_table}
use Rattle.station_tables_records.specs.ClipRows.{clip_table}
use Rattle.station_tables_statements.specs.Rows.{OwnsItems}
use Rattle.station_tables_records.specs.MadeDays.{days_made}
use Rattle.station_tables_records.specs.MadeAirings.{HaveNoHoles, airings_made}
use Rattle.station_tables_records.specs.declared.day_rows.DayRow.{DayRow}
use Rattle.station_tables_records.specs.declared.day_rows.ItemRow.{ItemRow}
use Rattle.station_tables_records.specs.MadeDays.{MakeDays, day_made, is_planned_day}
use Rattle.station_tables_records.specs.Table.{HoldsFitting}
use Rattle.station_tables_records.specs.DayRows.{day_table, day_fits}
use Rattle.station_tables_records.specs.ItemRows.{item_table, item_fits}
use Rattle.station_tables_records.specs.TablePairs.{aired_rows_in, day_rows_in, offer_rows_in}
use Rattle.station_tables_statements.specs.Rows.{channels_in}
use Rattle.station_tables_statements.proofs.FitLemmas.{left, right, both_are}
use Rattle.station_tables_statements.proofs.DayFitLemmas.{set_days_fit, set_items_fit}
use Rattle.station_tables_records.specs.MadeDays.{Rise}
use Rattle.station_tables_records.specs.MadeAirings.{MakeAirings, batch_cmp, line_cmp}
use Rattle.station_tables_records.specs.BatchRows.{batch_table, batch_fits}
use Rattle.station_tables_records.specs.LineRows.{line_table, line_fits}
use Rattle.station_tables_records.proofs.AiredLemmas.{batches_rise, lines_rise}
use Rattle.channel_plan.specs.declared.refusal.Code.{Code}
use Rattle.channel_plan.specs.declared.refusal.Code.TheVariants.{NotOurs, Unavailable}
use Rattle.station_tables_statements.specs.Standing.{OnCode}
use Rattle.station_tables_records.specs.declared.aired_rows.BatchRow.{BatchRow}
use Rattle.station_tables_records.specs.declared.aired_rows.AiredLine.{AiredLine}
use Rattle.station_tables_opening.specs.Opening.{HoldsRules, HasTablesOf, IsCentreOf, FitWindows, OwnsWindows}
use Rattle.station_tables_opening.specs.Opening.{number_of, offers_at, rows_at}
use Rattle.sqlite_value.specs.Order.{Row}
use Rattle.station_tables_records.specs.OfficeRow.{HasVersion, version_of}
use Rattle.station_tables_opening.specs.declared.finding.Version.{Version}
use Rattle.station_tables_opening.specs.declared.finding.Version.TheVariants.{First, Second}
use Rattle.sqlite.specs.Effect.{Database}
use Rattle.sqlite_trees.specs.declared.store.Store.{Ghosts}
use Rattle.sqlite.specs.declared.transaction.Transaction.{Transaction}
use Rattle.station_tables_records.specs.Inside.{inside, Reads}
use Rattle.sqlite.specs.State.{State, HasCleanDisk, IsUnchanged}
use Rattle.vault_core.specs.declared.offer.Offer.{Offer}
use Rattle.station_tables_records.specs.Table.{rows_in, HoldsRows, IsTypedIn}
use Rattle.station_tables_records.specs.Schema.{first_schema, centre_schema}
use Rattle.station_tables_statements.specs.Calls.{HasFirstSchema, HasKnownSchema}
use Rattle.station_tables_records.specs.OfferRows.{offer_table, offer_fits}
use Rattle.station_tables_records.specs.SpanRows.{span_table, span_fits}
use Rattle.station_tables_records.specs.declared.offer_rows.SpanRow.{SpanRow}
use Rattle.station_tables_records.specs.MadeOffers.{offer_made, offers_made, has_offer}
use Rattle.station_tables_statements.proofs.FitLemmas.{offers_fit}
use Rattle.station_tables_opening.proofs.AiringOpenLemmas.{makes_airings, batches_fit, lines_fit}

-- the days are those of channels that are there
planned_days : (plan : List PlanRow) (items : List (ℕ × ItemRow)) (days : List (ℕ × DayRow))
    → list_all (λ r. is_planned plan r.0) (map (day_made plan items) days) ≡ true
    → list_all (is_planned_day plan) days ≡ true
planned_days plan items [] h = refl
planned_days plan items (d ∷ days) h = both_are _ _ (left _ _ h) (planned_days plan items days (right _ _ h))

-- what is answered, with what success says
pub answered : {X E : Type 0} (r : Result X E) {P : Type 0} {Q R : X → Type 0} → ((x : X) → P → Q x → R x) → OnOk r P
    → IfOk r Q → IfOk r R
answered (Ok x) f p q = f x p q
answered (Err e) f p q = tt

-- a refusal that isn't for want of memory
pub refused_only : {X : Type 0} (r : Result X Code) {N P : Type 0}
    → IfErr r (λ e. (e ≡ Unavailable) ⊎ ((e ≡ NotOurs) × N)) → (N → P) → OnCode r NotOurs P
refused_only (Ok x) why f = tt
refused_only (Err e) why f =
    λ is. elim why [ inl short ↦ absurd (let unlike = sym is ∙ short in cc) | inr ours ↦ f ours.1 ]

-- the rows of what was aired, as they were read
pub same_days : (trees : Trees) (ds : List (ℕ × DayRow)) (is : List (ℕ × ItemRow)) → HoldsRows day_table ds trees
    → HoldsRows item_table is trees → day_rows_in trees ≡ record { days = ds; items = is }
same_days trees ds is days items i = record { days = days.are i; items = items.are i }

pub same_aired : (trees : Trees) (bs : List (ℕ × BatchRow)) (ls : List (ℕ × AiredLine)) → HoldsRows batch_table bs trees
    → HoldsRows line_table ls trees → aired_rows_in trees ≡ record { batches = bs; lines = ls }
same_aired trees bs ls batches lines i = record { batches = batches.are i; lines = lines.are i }

-- the offers that the rows of both tables make
pub makes_offers : (trees : Trees) (os : List (ℕ × Offer)) (ss : List (ℕ × SpanRow)) → HoldsRows offer_table os trees
    → HoldsRows span_table ss trees → (made : List (ℕ × Offer)) → list_all (has_offer os) ss ≡ true
    → made ≡ offers_made (record { offers = os; spans = ss })
    → IsTypedIn offer_table trees × OwnsWindows Second trees × (made ≡ offers_at Second trees)
makes_offers trees os ss rows windows made all are = (
  rows.typed,
  (windows.typed, (λ i. list_all (has_offer (rows.are i)) (windows.are i)) ∙ all),
  are
      ∙ sym (λ i. offers_made (record { offers = rows.are i; spans = windows.are i })),
)

-- tables of a version are known
pub known_of : (version : Version) (s : State) → HasTablesOf version s → HasKnownSchema s
known_of First s has = λ clean o. inr (has clean o)
known_of Second s has = λ clean o. inl (has clean o)

module _ (old new : State) (same : IsUnchanged old new) (early : HasCleanDisk old) where
  pub known_after : HasKnownSchema old → HasKnownSchema new
  known_after known clean o =
      subst (λ (d : Database). (d.schema ≡ centre_schema) ⊎ (d.schema ≡ first_schema)) (sym same.0.now_is)
      (known early same.0.was_open)

  pub first_after : HasFirstSchema old → HasFirstSchema new
  first_after has = λ clean o. ap (λ (d : Database). d.schema) same.0.now_is ∙ has early same.0.was_open

  pub of_after : (version : Version) → HasTablesOf version old → HasTablesOf version new
  of_after First has = λ clean o. ap (λ (d : Database). d.schema) same.0.now_is ∙ has early same.0.was_open
  of_after Second has = λ clean o. ap (λ (d : Database). d.schema) same.0.now_is ∙ has early same.0.was_open

-- rows of offers fit where their offers do
raw_fit : (spans : List (ℕ × SpanRow)) (os : List (ℕ × Offer))
    → AllByRecursion (λ o. offer_fits o ≡ true) (map (offer_made spans) os)
    → AllByRecursion (λ o. offer_fits o ≡ true) os
raw_fit spans [] fit = tt
raw_fit spans (o ∷ os) fit = (fit.0, raw_fit spans os fit.1)

-- and a window whose offer is there
spans_fit : (os : List (ℕ × Offer)) → AllByRecursion (λ o. offer_fits o ≡ true) os → (ss : List (ℕ × SpanRow))
    → list_all (has_offer os) ss ≡ true → AllByRecursion (λ s. span_fits s ≡ true) ss
spans_fit os fit [] all = tt
spans_fit os fit (s ∷ ss) all = (one os fit (left _ _ all), spans_fit os fit ss (right _ _ all))
  where
    one : (os : List (ℕ × Offer)) → AllByRecursion (λ o. offer_fits o ≡ true) os → has_offer os s ≡ true
        → span_fits s ≡ true
    one [] fit there = absurd (true≢false (sym there))
    one (o ∷ os) fit there = by (o.0 == s.0) (o.1.n == s.1.offer) refl refl there (one os fit.1)
      where
        by : (a b : Bool) → (o.0 == s.0) ≡ a → (o.1.n == s.1.offer) ≡ b → ((a && b) || has_offer os s) ≡ true
            → (has_offer os s ≡ true → span_fits s ≡ true) → span_fits s ≡ true
        by true true same also there rest = let fits = fit.0 in grind (arith, nat_tests, same, also, fits)
        by true false same also there rest = rest there
        by false b same also there rest = rest there

module _ (version : Version) (trees : Trees) (holds : HoldsRules version trees) where
  each_offer_fits : AllByRecursion (λ o. offer_fits o ≡ true) (offers_at version trees)
  each_offer_fits = offers_fit (rows_at version trees) holds.10

  rows_fit : (v : Version) → AllByRecursion (λ o. offer_fits o ≡ true) (offers_at v trees)
      → AllByRecursion (λ o. offer_fits o ≡ true) (rows_in offer_table trees)
  rows_fit First fit = fit
  rows_fit Second fit = raw_fit (offer_rows_in trees).spans (rows_in offer_table trees) fit

  pub offer_rows_fit : HoldsFitting offer_table offer_fits trees
  offer_rows_fit = record { typed = holds.3; fit = rows_fit version each_offer_fits }

  own_windows : (v : Version) → OwnsWindows v trees → FitWindows v trees
  own_windows First owned = owned
  own_windows Second owned = (
    record {
      typed = owned.0;
      fit =
          spans_fit (rows_in offer_table trees) offer_rows_fit.fit (rows_in span_table trees) owned.1;
    },
    owned.1,
  )

  pub windows_fit : FitWindows version trees
  windows_fit = own_windows version holds.11

  pub days_fit : HoldsFitting day_table day_fits trees
  days_fit =
      record { typed = holds.4; fit = set_days_fit (rows_at version trees) holds.10 (day_rows_in trees) refl holds.6 }

  pub items_fit : HoldsFitting item_table item_fits trees
  items_fit =
      record { typed = holds.5; fit = set_items_fit (rows_at version trees) holds.10 (day_rows_in trees) refl holds.6 }

  pub makes_days : MakeDays (channels_in trees) (day_rows_in trees)
  makes_days =
      record {
        owned = holds.6;
        planned =
            planned_days (channels_in trees) (day_rows_in trees).items (day_rows_in trees).days
            (right _ _ holds.10.days.table);
        rules = holds.10.days.each;
      }

  rise : Rise batch_cmp (aired_rows_in trees).batches
  rise = batches_rise trees holds.7

  up : Rise line_cmp (aired_rows_in trees).lines
  up = lines_rise trees holds.8

  pub batches_fitting : HoldsFitting batch_table batch_fits trees
  batches_fitting =
      record
      { typed = holds.7; fit = batches_fit (rows_at version trees) holds.10 (aired_rows_in trees) refl rise up holds.9 }

  pub lines_fitting : HoldsFitting line_table line_fits trees
  lines_fitting =
      record
      { typed = holds.8; fit = lines_fit (rows_at version trees) holds.10 (aired_rows_in trees) refl rise up holds.9 }

  pub airings_kept : MakeAirings (channels_in trees) (aired_rows_in trees)
  airings_kept = makes_airings (rows_at version trees) holds.10 (aired_rows_in trees) refl rise up holds.9

-- ---- a centre of a version

pub is_centre : (version : Version) (s : State) → HasCleanDisk s → IsTrue s.is_open → HasTablesOf version s
    → HasVersion (number_of version) (s.now.trees 0) → HoldsRules version s.now.trees → IsCentreOf version s.now
is_centre First s clean o has office h = (
  record {
    schema = has clean o;
    office = office;
    channels = h.0;
    tapes = h.1;
    clips = h.2;
    offers = h.3;
    days =
        h.4;
    items = h.5;
    batches = h.7;
    lines = h.8;
  },
  (h.6, h.9),
  h.10,
)
is_centre Second s clean o has office h = (
  record {
    schema = has clean o;
    office = office;
    channels = h.0;
    tapes = h.1;
    clips = h.2;
    offers = h.3;
    days =
        h.4;
    items = h.5;
    batches = h.7;
    lines = h.8;
    spans = h.11.0;
  },
  (h.6, h.9, h.11.1),
  h.10,
)

pub rules_of : (version : Version) (db : Database) → IsCentreOf version db → HoldsRules version db.trees
rules_of First db is = (
  is.0.channels,
  is.0.tapes,
  is.0.clips,
  is.0.offers,
  is.0.days,
  is.0.items,
  is.1.0,
  is.0.batches,
  is.0.lines,
  is.1.1,
  is.2,
  tt,
)
rules_of Second db is = (
  is.0.channels,
  is.0.tapes,
  is.0.clips,
  is.0.offers,
  is.0.days,
  is.0.items,
  is.1.0,
  is.0.batches,
  is.0.lines,
  is.1.1,
  is.2,
  (is.0.spans, is.1.2),
)

pub version_in : (version : Version) (db : Database) → IsCentreOf version db
    → HasVersion (number_of version) (db.trees 0)
version_in First db is = is.0.office
version_in Second db is = is.0.office

-- a table has one version
one_number : (m n : ℤ) (rows : List Row) → HasVersion m rows → HasVersion n rows → m ≡ n
one_number m n rows a b =
    sym a.version_is ∙ ap (λ (l : List Row). version_of (slice_index_or l 0 [])) (sym a.alone ∙ b.alone) ∙ b.version_is

same_version : (v w : Version) → number_of v ≡ number_of w → v ≡ w
same_version First First e = refl
same_version First Second e = let one : pos 1 ≡ pos 2 = e in absurd (cc)
same_version Second First e = let one : pos 2 ≡ pos 1 = e in absurd (cc)
same_version Second Second e = refl

pub one_version : (v w : Version) (rows : List Row) → HasVersion (number_of v) rows → HasVersion (number_of w) rows
    → v ≡ w
one_version v w rows a b = same_version v w (one_number (number_of v) (number_of w) rows a b)

known_number : (v : Version) (n : ℤ) → n ≡ number_of v → (n ≡ pos 1) ⊎ (n ≡ pos 2)
known_number First n e = inl e
known_number Second n e = inr e

pub known_version : (v : Version) (n : ℤ) (rows : List Row) → HasVersion (number_of v) rows → HasVersion n rows
    → (n ≡ pos 1) ⊎ (n ≡ pos 2)
known_version v n rows a b = known_number v n (one_number n (number_of v) rows b a)

-- ---- the set as it was read

abbrev pub MadeOffers : Version → List (ℕ × Offer) → Trees → Type 0
MadeOffers version offers trees =
    IsTypedIn offer_table trees × OwnsWindows version trees × (offers ≡ offers_at version trees)

abbrev pub MadeDays : List PlanRow → List (ℕ × Day) → Trees → Type 0
MadeDays channels days trees =
    IsTypedIn day_table trees × IsTypedIn item_table trees × OwnsItems trees
    × (days ≡ days_made channels (day_rows_in trees))

abbrev pub MadeAirings : List PlanRow → List (ℕ × DayAsRun) → Trees → Type 0
MadeAirings channels airings trees =
    IsTypedIn batch_table trees × IsTypedIn line_table trees × HaveNoHoles (aired_rows_in trees)
    × (airings ≡ airings_made channels (aired_rows_in trees))

module _ (version : Version) (trees : Trees) (channels : List PlanRow) (tapes : List (ℕ × Tape))
    (clips : List (ℕ × Clip)) (offers : List (ℕ × Offer)) (days : List (ℕ × Day)) (airings : List (ℕ × DayAsRun))
    (cs : HoldsRows channel_table channels trees) (ts : HoldsRows tape_table tapes trees)
    (ks : HoldsRows clip_table clips trees) (os : MadeOffers version offers trees)
    (ds : MadeDays channels days trees) (rs : MadeAirings channels airings trees) where
  abbrev read_set : Centre
  read_set = record { channels = channels; tapes = tapes; clips = clips; offers = offers; days = days; aired = airings }

  same_set : read_set ≡ rows_at version trees
  same_set i = record {
    channels = sym cs.are i;
    tapes = sym ts.are i;
    clips = sym ks.are i;
    offers = os.2 i;
    days = (ds.3 ∙ ap (λ l. days_made l (day_rows_in trees)) (sym cs.are)) i;
    aired = (rs.3 ∙ ap (λ l. airings_made l (aired_rows_in trees)) (sym cs.are)) i;
  }

  -- it is what the tables hold, and where it keeps the rules, so do they
  pub read_whole : (read_set ≡ rows_at version trees) × (KeepsRules read_set → HoldsRules version trees)
  read_whole = (
    same_set,
    λ kept.
        (cs.typed, ts.typed, ks.typed, os.0, ds.0, ds.1, ds.2, rs.0, rs.1, rs.2, subst KeepsRules same_set kept, os.1),
  )

-- ---- one reading after another

-- what is known once something was read was known before
pub record Back {S : Type 0} (g : Ghosts S) (version : Version) (a b : Transaction S) : Type 0 where
  pub clean : HasCleanDisk (inside g a)
  pub trees : (inside g b).now.trees ≡ (inside g a).now.trees
  pub has : HasTablesOf version (inside g a) → HasTablesOf version (inside g b)
  pub known : HasKnownSchema (inside g a) → HasKnownSchema (inside g b)
  pub first : HasFirstSchema (inside g a) → HasFirstSchema (inside g b)

module _ {S : Type 0} (g : Ghosts S) (version : Version) where
  pub back : {X E : Type 0} (a b : Transaction S) (x : X) → Reads {X = X} {E = E} g a b (Ok x)
      → HasCleanDisk (inside g b) → Back g version a b
  back a b x reads clean =
      let early : HasCleanDisk (inside g a) = omega (arith, clean, reads.survives.clean) in
      let same = reads.same clean in
      record {
        clean = early;
        trees = ap (λ (d : Database). d.trees) same.0.now_is;
        has = of_after (inside g a) (inside g b) same early version;
        known = known_after (inside g a) (inside g b) same early;
        first = first_after (inside g a) (inside g b) same early;
      }

  pub back_then : (a b c : Transaction S) → Back g version a b → Back g version b c → Back g version a c
  back_then a b c one two = record {
    clean = one.clean;
    trees = two.trees ∙ one.trees;
    has = λ h. two.has (one.has h);
    known = λ h. two.known (one.known h);
    first = λ h. two.first (one.first h);
  }
