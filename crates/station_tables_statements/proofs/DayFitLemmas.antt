-- The rows of the days and items of a set that keeps the rules fit their columns, and their texts are such as are read.
use Rattle.std.proofs.Common.{◌≡◌, ℕ, ◌+◌, ◌<◌, ◌≤◌, Bool, true, false, true≢false, ◌&&◌, List, [], ◌∷◌, map, filter}
use Rattle.std.proofs.Common.{length, Option, Some, None, refl, sym, ap, ◌∙◌, subst, arith}
use Rattle.std.specs.Prelude.{◌==◌, ◌^◌, nat_lt, nat_le, find, is_some}
use Rattle.std.specs.List.{AllByRecursion, list_all, list_any}
use Rattle.std.proofs.lemmas.Bool.{eqb-true}
use Rattle.std.proofs.lemmas.Bool.Decides.{nat_tests}
use Rattle.std.proofs.lemmas.List.Sorted.{IsPermutation-sym}
use Rattle.sqlite_keyed.specs.Lists.{sort_by}
use Rattle.sqlite_keyed.proofs.ListLemmas.{all_weaker, all_map, all-filter}
use Rattle.sqlite_keyed.proofs.SortLemmas.{IsPermutation-sort_by}
use Rattle.timecode.specs.Counting.{day_length}
use Rattle.channel_plan.specs.declared.plan.PlanRow.{PlanRow}
use Rattle.vault_core.specs.declared.clip.Clip.{Clip}
use Rattle.vault_core.specs.declared.offer.Offer.{Offer}
use Rattle.vault_core.specs.Own.{Own}
use Rattle.vault_core.specs.Clip.{is_clip_range}
use Rattle.vault_core.specs.Rules.{KeepsOwnRules, is_clip, is_offer}
use Rattle.vault_core.specs.Offer.{is_copy, matches_clip}
use Rattle.grant_core.specs.declared.grant.Grant.{Grant}
use Rattle.playlist_core.specs.declared.item.Item.{Item}
use Rattle.playlist_core.specs.declared.source.Source.{Source}
use Rattle.playlist_core.specs.declared.source.Source.TheVariants.{Black, Bars, Own as OwnClip, Lent as LentClip}
use Rattle.playlist_core.specs.Order.{AreApart}
use Rattle.playlist_core.specs.Source.{SourcesSeen, seen_of, of_clip, of_grant}
use Rattle.playlist_core.specs.Item.{is_item, first_kept, planned}
use Rattle.playlist_core.proofs.PictureLemmas.{apart_within}
use Rattle.playlist_core.specs.Day.{Day, KeepsDayRules, AreNumbered}
use Rattle.channel_view_model.specs.Tables.{rows_of}
use Rattle.channel_view_model.specs.Seen.{grant_of, grants_to, sources_seen}
use Rattle.channel_view_model.specs.Centre.{Centre, plan_of, own_of, seen_by}
use Rattle.channel_view_model.specs.Rules.{KeepsRules, row_holds, source_holds, is_day_of, are_days_of, is_planned}
use Rattle.channel_view_model.proofs.DayWalkLemmas.{shown_by}
use Rattle.channel_plan.proofs.PlanLemmas.{plan-from_order}
use Rattle.station_tables_records.specs.declared.day_rows.DayRow.{DayRow}
use Rattle.station_tables_records.specs.declared.day_rows.ItemRow.{ItemRow}
use Rattle.station_tables_records.specs.MadeDays.{DaySet, is_day, is_of_day, items_at, position_cmp, made_day}
use Rattle.station_tables_records.specs.MadeDays.{days_made}
use Rattle.station_tables_records.specs.MadeDays.{day_made, frames_of, has_day, is_source, has_texts}
use Rattle.station_tables_records.proofs.MadeLemmas.{position_total}
use Rattle.station_tables_records.specs.DayRows.{day_fits}
use Rattle.station_tables_records.specs.ItemRows.{item_fits}
use Rattle.station_tables_statements.proofs.FitLemmas.{found_some, found_has, left, right, both_are, less, below}
use Rattle.station_tables_statements.proofs.FitLemmas.{all_permuted, picked_pass, own_rows, owned_fit, numbered_below}
use Rattle.station_tables_statements.proofs.FitLemmas.{planned_fits, own_channels, of_channel, length_small}

-- where the frames of an item begin
begins : (f n first frames top : ℕ) → (nat_le first f && nat_le (f + n) (first + frames)) ≡ true → first + frames < top
    → nat_lt f top ≡ true
begins f n first frames top held lt = grind (arith, nat_tests, held, lt)

-- the clip of this number, of those of a channel
clip_found : (own : Own) → KeepsOwnRules own → (n : ℕ) (k : Clip) → find (λ k. k.n == n) own.clips ≡ Some k
    → (is_clip own.plan (length own.tapes) k ≡ true) × (n < 1 + length own.clips)
clip_found own keeps n k there =
    let found =
    found_has (λ (j : Clip). j.n == n)
    (λ j. (is_clip own.plan (length own.tapes) j ≡ true) × (j.n < 1 + length own.clips)) own.clips
    (own_rows (λ (j : Clip). j.n) (is_clip own.plan (length own.tapes)) _ own.clips keeps.clips.fields
    keeps.clips.numbers (λ j fields lt. (fields, lt))) k there in
    (found.1.0, subst (λ m. m < 1 + length own.clips) (eqb-true k.n n found.0) found.1.1)

clip_end : (p : PlanRow) (tapes : ℕ) (k : Clip) → is_clip p tapes k ≡ true → k.src_first + k.frames ≤ day_length p.rate
clip_end p tapes k fields =
    let range : is_clip_range p k.src_first k.frames ≡ true = right _ _ fields in grind (arith, nat_tests, range)

-- what a row of an offer has, wherever it is found
abbrev good_offer : ℕ × Offer → Bool
good_offer r = nat_lt r.0 1000 && nat_lt r.1.n 10000 && nat_lt (r.1.src_first + r.1.frames) (2 ^ 32)

copy_end : (p : PlanRow) (o : Offer) (k : Clip) → is_copy p o k ≡ true → k.src_first + k.frames ≤ day_length p.rate
    → o.src_first + o.frames ≤ day_length p.rate
unfolding is_copy
copy_end p o k copy ends =
    let frames = right _ _ copy in
    let first = eqb-true o.src_first k.src_first (left _ _ frames) in
    let many = eqb-true o.frames k.frames (right _ _ frames) in
    omega (arith, first, many, ends)

offer_end : (own : Own) → KeepsOwnRules own → (o : Offer) (found : Option Clip)
    → find (λ k. k.n == o.clip) own.clips ≡ found → matches_clip own.plan o found ≡ true
    → o.src_first + o.frames ≤ day_length own.plan.rate
offer_end own keeps o None there copy = absurd (true≢false (sym copy))
offer_end own keeps o (Some k) there copy =
    copy_end own.plan o k copy (clip_end own.plan (length own.tapes) k (clip_found own keeps o.clip k there).0)

good_own : (c : ℕ) (own : Own) → nat_le c 999 ≡ true → KeepsOwnRules own
    → AllByRecursion (λ o. good_offer (c, o) ≡ true) own.offers
good_own c own channel keeps =
    own_rows (λ o. o.n) (is_offer own.plan own.clips) (λ o. good_offer (c, o) ≡ true) own.offers keeps.offers.fields
    keeps.offers.numbers
    (λ o one lt.
    let ends = offer_end own keeps o (find (λ k. k.n == o.clip) own.clips) refl (right _ _ one) in
    let day = length_small own.plan.rate in
    both_are _ _
    (both_are _ _ (below c 999 1000 channel (omega arith))
    (numbered_below o.n (length own.offers) 9999 10000 lt keeps.offers.at_most (omega arith)))
    (less (o.src_first + o.frames) (2 ^ 32) (omega (arith, ends, day))))

grant_found : (c : ℕ) (q : Grant → Bool) (offers : List (ℕ × Offer)) → AllByRecursion (λ r. good_offer r ≡ true) offers
    → (g : Grant) → find q (grants_to c offers) ≡ Some g → (q g ≡ true) × (good_offer (g.owner, g.offer) ≡ true)
grant_found c q offers good =
    found_has q (λ g. good_offer (g.owner, g.offer) ≡ true) (grants_to c offers)
    (all_map (λ g. good_offer (g.owner, g.offer) ≡ true) grant_of (filter (λ r. r.1.grantee == c) offers)
    (all-filter (λ r. good_offer r ≡ true) (λ r. r.1.grantee == c) offers good))

module _ (rows : Centre) (rules : KeepsRules rows) where
  known_fits : (c : ℕ) (p : PlanRow) → plan_of c rows ≡ Some p → (nat_le c 999 ≡ true) × (nat_le p.slots 9999 ≡ true)
  known_fits = planned_fits rows.channels (plan-from_order rows.channels rules.plan)

  good_offers : AllByRecursion (λ r. good_offer r ≡ true) rows.offers
  good_offers =
      owned_fit rows rules good_offer rows.offers (right _ _ (right _ _ rules.tables))
      (λ c p channel shelf own. good_own c (own_of c p rows) channel own)

  module _ (c : ℕ) (p : PlanRow) (known : plan_of c rows ≡ Some p) where
    abbrev clips_here : List Clip
    clips_here = rows_of c rows.clips

    abbrev grants_here : List Grant
    grants_here = grants_to c rows.offers

    -- an item of a clip that is there begins in a day, and its reel is one
    abbrev Ends : Item → Source → Type 0
    Ends i s = (is_source s ≡ true) × (nat_lt i.src_first (2 ^ 32) ≡ true)

    own_ends : (m : ℕ) (i : Item) (n : ℕ) (o : Option Clip) → find (λ k. k.n == n) clips_here ≡ o
        → row_holds p m i (of_clip o) ≡ true → Ends i (OwnClip n)
    own_ends m i n None there held = absurd (true≢false (sym held))
    own_ends m i n (Some k) there held =
        let own = rules.own c p known in
        let found = clip_found (own_of c p rows) own n k there in
        let ends = clip_end p (length (rows_of c rows.tapes)) k found.0 in
        let day = length_small p.rate in (
          numbered_below n (length clips_here) 20000 (10 ^ 7) found.1 own.clips.at_most (omega arith),
          begins i.src_first
              i.frames k.src_first k.frames (2 ^ 32) held (omega (arith, ends, day)),
        )

    lent_ends : (m : ℕ) (i : Item) (owner n : ℕ) (o : Option Grant)
        → find (λ g. g.owner == owner && g.offer.n == n) grants_here ≡ o → row_holds p m i (of_grant o) ≡ true
        → Ends i (LentClip owner n)
    lent_ends m i owner n None there held = absurd (true≢false (sym held))
    lent_ends m i owner n (Some g) there held =
        let found = grant_found c (λ g. g.owner == owner && g.offer.n == n) rows.offers good_offers g there in
        let mine = eqb-true g.owner owner (left _ _ found.0) in
        let its = eqb-true g.offer.n n (right _ _ found.0) in
        let front = left _ _ found.1 in
        let end = right _ _ found.1 in (
          both_are _ _ (subst (λ k. nat_lt k 1000 ≡ true) mine (left _ _ front))
              (subst (λ k. nat_lt k 10000 ≡ true) its (right _ _ front)),
          begins i.src_first i.frames g.offer.src_first g.offer.frames (2 ^ 32) (right _ _ held)
              (below_top (g.offer.src_first + g.offer.frames) (2 ^ 32) end),
        )
      where
        below_top : (n top : ℕ) → nat_lt n top ≡ true → n < top
        below_top n top h = grind (arith, nat_tests, h)

    ends_at : (m : ℕ) (i : Item) (s : Source) → (i.src_first == first_kept s i.src_first) ≡ true
        → source_holds p m (seen_of clips_here grants_here) i s ≡ true → Ends i s
    ends_at m i Black kept held = (refl, grind (arith, nat_tests, kept))
    ends_at m i Bars kept held = (refl, grind (arith, nat_tests, kept))
    ends_at m i (OwnClip n) kept held = own_ends m i n (find (λ k. k.n == n) clips_here) refl held
    ends_at m i (LentClip owner n) kept held =
        lent_ends m i owner n (find (λ g. g.owner == owner && g.offer.n == n) grants_here) refl held

    pub item_ends : (m : ℕ) (i : Item) → is_item i ≡ true
        → source_holds p m (sources_seen (seen_by c p rows)) i i.src ≡ true → Ends i i.src
    item_ends m i fields held =
        ends_at m i i.src (right _ _ fields)
        (subst (λ (seen : SourcesSeen). source_holds p m seen i i.src ≡ true) (sym (shown_by c p rows)) held)

    -- the items of a day
    module _ (n : ℕ) (small : nat_lt n (2 ^ 32) ≡ true) where
      abbrev fits_here : Item → Bool
      fits_here i = item_fits (c, record { day = n; item = i })

      each_fits : (m from : ℕ) (items : List Item) → AreApart planned from (day_length p.rate) items → AreNumbered items
          → list_all is_item items ≡ true
          → list_all (λ i. source_holds p m (sources_seen (seen_by c p rows)) i i.src) items ≡ true
          → list_all fits_here items ≡ true
      each_fits m from [] apart numbered fields held = refl
      each_fits m from (i ∷ is) apart numbered fields held =
          let one = left _ _ fields in
          let ends = item_ends m i one (left _ _ held) in
          let behind = apart_within planned (i.pos + i.frames) (day_length p.rate) is apart.2 in
          let day = length_small p.rate in
          let channel = (known_fits c p known).0 in
          let number = numbered.1 in
          let mix = left _ _ (left _ _ one) in
          both_are _ _
          (both_are _ _
          (both_are _ _
          (both_are _ _
          (both_are _ _
          (both_are _ _
          (both_are _ _ (both_are _ _ (below c 999 65536 channel (omega arith)) small)
          (less i.n 65536 (omega (arith, number))))
          (less i.pos (2 ^ 32) (omega (arith, behind, day))))
          (less i.frames (2 ^ 32) (omega (arith, behind, day))))
          ends.1)
          (below i.mix 999 65536 mix (omega arith)))
          (both_are _ _ ends.0 (right _ _ (left _ _ one))))
          (each_fits m (i.pos + i.frames) is apart.2 numbered.3 (right _ _ fields) (right _ _ held))

      -- in whatever order they stand
      pub day_items_fit : (frames : ℕ) (items : List Item) (row : DayRow) → KeepsDayRules (made_day frames items row)
          → is_day_of p (sources_seen (seen_by c p rows)) (made_day frames items row) ≡ true
          → list_all fits_here items ≡ true
      day_items_fit frames items row keeps is =
          let length_is = eqb-true frames (day_length p.rate) (right _ _ (left _ _ is)) in
          all_permuted fits_here items (sort_by position_cmp items)
          (IsPermutation-sym _ _ (IsPermutation-sort_by position_cmp position_total items))
          ∙ each_fits row.number 0 (sort_by position_cmp items)
          (subst (λ k. AreApart planned 0 k (sort_by position_cmp items)) length_is keeps.apart) keeps.numbered
          keeps.fields (right _ _ is)

    -- the texts of a day's items
    pub texts_held : (m : ℕ) (items : List Item) → list_all is_item items ≡ true
        → list_all (λ i. source_holds p m (sources_seen (seen_by c p rows)) i i.src) items ≡ true
        → list_all has_texts items ≡ true
    texts_held m [] fields held = refl
    texts_held m (i ∷ is) fields held =
        let one = left _ _ fields in
        both_are _ _ (both_are _ _ (item_ends m i one (left _ _ held)).0 (right _ _ (left _ _ one)))
        (texts_held m is (right _ _ fields) (right _ _ held))

  -- ---- the rows of a set
  abbrev IsGood : ℕ × Day → Type 0
  IsGood r =
      KeepsDayRules r.1
      × ((p : PlanRow) → plan_of r.0 rows ≡ Some p → is_day_of p (sources_seen (seen_by r.0 p rows)) r.1 ≡ true)
      × (is_planned rows.channels r.0 ≡ true)

  days_are : (p : PlanRow) (seen : SourcesSeen) (last : ℕ) (days : List Day) → are_days_of p seen last days ≡ true
      → AllByRecursion (λ d. is_day_of p seen d ≡ true) days
  days_are p seen last [] h = tt
  days_are p seen last (d ∷ days) h = (right _ _ (left _ _ h), days_are p seen d.number days (right _ _ h))

  shown_each : AllByRecursion
      (λ r. (p : PlanRow) → plan_of r.0 rows ≡ Some p → is_day_of p (sources_seen (seen_by r.0 p rows)) r.1 ≡ true)
      rows.days
  shown_each =
      own_channels
      (λ r. (p : PlanRow) → plan_of r.0 rows ≡ Some p → is_day_of p (sources_seen (seen_by r.0 p rows)) r.1 ≡ true)
      rows.days
      (λ c. of_channel c
      (λ d. (p : PlanRow) → plan_of c rows ≡ Some p → is_day_of p (sources_seen (seen_by c p rows)) d ≡ true)
      rows.days
      (at c (rows_of c rows.days)
      (λ p is. days_are p (sources_seen (seen_by c p rows)) 0 (rows_of c rows.days) (rules.days.seen c p is))))
    where
      at : (c : ℕ) (days : List Day)
          → ((p : PlanRow) → plan_of c rows ≡ Some p
          → AllByRecursion (λ d. is_day_of p (sources_seen (seen_by c p rows)) d ≡ true) days)
          → AllByRecursion
          (λ d. (p : PlanRow) → plan_of c rows ≡ Some p → is_day_of p (sources_seen (seen_by c p rows)) d ≡ true) days
      at c [] each = tt
      at c (d ∷ days) each = ((λ p is. (each p is).0), at c days (λ p is. (each p is).1))

  good_days : AllByRecursion IsGood rows.days
  good_days = all_of rows.days rules.days.each shown_each (right _ _ rules.days.table)
    where
      all_of : (days : List (ℕ × Day)) → AllByRecursion (λ r. KeepsDayRules r.1) days
          → AllByRecursion
          (λ r. (p : PlanRow) → plan_of r.0 rows ≡ Some p → is_day_of p (sources_seen (seen_by r.0 p rows)) r.1 ≡ true)
          days → list_all (λ r. is_planned rows.channels r.0) days ≡ true → AllByRecursion IsGood days
      all_of [] each shown planned = tt
      all_of (d ∷ days) each shown planned =
          ((each.0, shown.0, left _ _ planned), all_of days each.1 shown.1 (right _ _ planned))

  module _ (set : DaySet) (same : days_made rows.channels set ≡ rows.days)
      (owned : list_all (has_day set.days) set.items ≡ true) where
    -- a row of a day fits, and its items do
    abbrev Fitting : ℕ × DayRow → Type 0
    Fitting d =
        (day_fits d ≡ true)
        × (list_all (λ i. item_fits (d.0, record { day = d.1.number; item = i })) (items_at d.0 d.1.number set.items)
        ≡ true)

    fitting : (d : ℕ × DayRow) → IsGood (day_made rows.channels set.items d) → Fitting d
    fitting d good = by (plan_of d.0 rows) refl
      where
        small : nat_lt d.1.number (2 ^ 32) ≡ true
        small = let most = good.0.digits in grind (arith, nat_tests, most)

        by : (o : Option PlanRow) → plan_of d.0 rows ≡ o → Fitting d
        by None none = absurd (true≢false (sym (found_some (λ p. p.ch == d.0) rows.channels good.2) ∙ ap is_some none))
        by (Some p) known =
            let channel = (known_fits d.0 p known).0 in (
              both_are _ _ (grind (arith, nat_tests, channel)) small,
              day_items_fit d.0 p known d.1.number small
                  (frames_of rows.channels d.0) (items_at d.0 d.1.number set.items) d.1 good.0 (good.1 p known),
            )

    fitting_days : AllByRecursion Fitting set.days
    fitting_days = by set.days (subst (AllByRecursion IsGood) (sym same) good_days)
      where
        by : (days : List (ℕ × DayRow)) → AllByRecursion IsGood (map (day_made rows.channels set.items) days)
            → AllByRecursion Fitting days
        by [] good = tt
        by (d ∷ days) good = (fitting d good.0, by days good.1)

    pub set_days_fit : AllByRecursion (λ d. day_fits d ≡ true) set.days
    set_days_fit = all_weaker _ _ (λ d fit. fit.0) set.days fitting_days

    -- the items of a day that is there
    of_day : (c n : ℕ) (days : List (ℕ × DayRow)) → AllByRecursion Fitting days → list_any (is_day c n) days ≡ true
        → list_all (λ i. item_fits (c, record { day = n; item = i })) (items_at c n set.items) ≡ true
    of_day c n [] fit there = absurd (true≢false (sym there))
    of_day c n (d ∷ days) fit there = by (d.0 == c) (d.1.number == n) refl refl (of_day c n days fit.1)
      where
        by : (a b : Bool) → (d.0 == c) ≡ a → (d.1.number == n) ≡ b
            → (list_any (is_day c n) days ≡ true
            → list_all (λ i. item_fits (c, record { day = n; item = i })) (items_at c n set.items) ≡ true)
            → list_all (λ i. item_fits (c, record { day = n; item = i })) (items_at c n set.items) ≡ true
        by true true channel number rest =
            subst (λ m. list_all (λ i. item_fits (m, record { day = n; item = i })) (items_at m n set.items) ≡ true)
            (eqb-true d.0 c channel)
            (subst
            (λ m. list_all (λ i. item_fits (d.0, record { day = m; item = i })) (items_at d.0 m set.items) ≡ true)
            (eqb-true d.1.number n number) fit.0.1)
        by true false channel number rest = rest (grind (arith, channel, number, there))
        by false b channel number rest = rest (grind (arith, channel, there))

    each_owned : (rs : List (ℕ × ItemRow)) → list_all (has_day set.days) rs ≡ true
        → ((c n : ℕ) → list_any (is_day c n) set.days ≡ true
        → AllByRecursion (λ r. is_of_day c n r ≡ true → item_fits (c, record { day = n; item = r.1.item }) ≡ true) rs)
        → AllByRecursion (λ r. item_fits r ≡ true) rs
    each_owned [] owned all = tt
    each_owned (r ∷ rs) owned all = (
      (all r.0 r.1.day (left _ _ owned)).0 (grind (arith, nat_tests)),
      each_owned rs (right _ _ owned)
          (λ c n there. (all c n there).1),
    )

    pub set_items_fit : AllByRecursion (λ r. item_fits r ≡ true) set.items
    set_items_fit =
        each_owned set.items owned
        (λ c n there. picked_pass (is_of_day c n) (λ r. r.1.item) (λ i. item_fits (c, record { day = n; item = i }))
        set.items (of_day c n set.days fitting_days there))
