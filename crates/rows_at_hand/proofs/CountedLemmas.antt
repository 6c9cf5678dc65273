-- What is told of days: as their table, and after a change.
use Rattle.std.proofs.Common.{◌≡◌, ◌≢◌, ◌⊎◌, ℕ, ◌+◌, ◌≤◌, List, [], ◌∷◌, ◌++◌, Bool, true, false, not, inl, inr, refl}
use Rattle.std.proofs.Common.{sym, subst, ◌∙◌, ap, ap₂, arith, take, get_or, suc, ◌<◌}
use Rattle.std.specs.Prelude.{◌==◌, if◌then◌else◌, nat_le, nat_lt, find, filter, is_some, length, map, Option, Some, None}
use Rattle.std.specs.List.{flat_map}
use Rattle.std.specs.Option.{option_map}
use Rattle.std.proofs.lemmas.Bool.Decides.{nat_tests}
use Rattle.std.proofs.Math.Seq.{take-suc}
use Rattle.std.proofs.lemmas.List.{length-map, map-append}
use Rattle.std.proofs.lemmas.List.Elements.{All-filter, All-head, All-nil, All-push, All-tail, All-weaker, filter_passes}
use Rattle.std.proofs.lemmas.List.Filters.{sum_by-filter_both}
use Rattle.std.proofs.lemmas.List.Sums.{sum_by_push}
use Rattle.channel_plan.specs.declared.plan.PlanRow.{PlanRow}
use Rattle.vault_core.specs.declared.command.Put.{Put}
use Rattle.vault_core.specs.Questions.{replaced}
use Rattle.playlist_core.specs.Day.{Day}
use Rattle.playlist_core.specs.Difference.{ChangedDay}
use Rattle.asrun_match.specs.declared.day.DayAsRun.{DayAsRun}
use Rattle.report_texts.specs.declared.counts.DayCounts.{DayCounts}
use Rattle.report_texts.specs.Days.{batches_in as batches_aired, batches_of, counts_line, day_counts, day_line, days_end}
use Rattle.report_texts.specs.Days.{days_text}
use Rattle.channel_view_model.specs.declared.table.Table.TheVariants.{Days}
use Rattle.channel_view_model.specs.declared.command.Change.{Change}
use Rattle.channel_view_model.specs.declared.command.Change.TheVariants.{Nothing, Vault as OnVault, Day as OnDay}
use Rattle.channel_view_model.specs.declared.command.Change.TheVariants.{Airing as OnAiring}
use Rattle.channel_view_model.specs.declared.command.VaultChange.{VaultChange}
use Rattle.channel_view_model.specs.declared.command.VaultChange.TheVariants.{Tape as TapeRow, Clip as ClipRow}
use Rattle.channel_view_model.specs.declared.command.VaultChange.TheVariants.{Offer as OfferRow}
use Rattle.channel_view_model.specs.Tables.{rows_of}
use Rattle.channel_view_model.specs.TableText.{text_at, text_seen}
use Rattle.channel_view_model.specs.Seen.{sources_seen}
use Rattle.channel_view_model.specs.Days.{day_or, no_day}
use Rattle.channel_view_model.specs.Centre.{Centre, IsChangeOf, airing_changed, changed, day_changed, own_changed}
use Rattle.channel_view_model.specs.Centre.{plan_of, seen_by, view_at, view_of}
use Rattle.channel_view_model.specs.Rules.{KeepsRules, are_airings_of, has_sealed, is_sealed}
use Rattle.channel_view_model.proofs.TableLemmas.{rows_of-replace_same, rows_of-replace_other}
use Rattle.channel_view_model.proofs.RuleLemmas.{aired_in_order, change_keeps, days_in_order}
use Rattle.channel_view_model.proofs.AiringRuleLemmas.{sealed_found}
use Rattle.rows_at_hand.specs.declared.counts.ChannelCounts.{ChannelCounts}
use Rattle.channel_view_model.specs.Counts.{counts_of, counts_seen}
use Rattle.rows_at_hand.specs.Counted.{AreCounted, IsCounted, Learns, batches_in, batches_told, counts_in}
use Rattle.rows_at_hand.specs.Counted.{counts_text, days_counted, is_channel, left_beside, most_counted}
use Rattle.rows_at_hand.specs.Counted.{with_batches}
use Rattle.rows_at_hand.proofs.KnownLemmas.{found_past, found_replaced}

-- ---- the table

lines_told : (aired : List DayAsRun) (days : List Day)
    → flat_map counts_line (counts_of aired days) ≡ flat_map (day_line aired) days
lines_told aired [] = refl
lines_told aired (d ∷ ds) = ap (λ l. day_line aired d ++ l) (lines_told aired ds)

text_told : (aired : List DayAsRun) (days : List Day) → counts_text (counts_of aired days) ≡ days_text aired days
text_told aired days =
    ap₂ (λ l n. l ++ days_end n) (lines_told aired days)
    (length-map days (λ d. day_counts (batches_of aired d.number) d))

-- what is told of a channel's days is their table
pub table_told : (rows : Centre) (known : ChannelCounts) → IsCounted rows known
    → counts_text known.counts.items ≡ text_at Days (view_of known.channel rows)
unfolding view_of text_seen
table_told rows known is = by (plan_of known.channel rows) is.planned
  where
    c : ℕ
    c = known.channel

    by : (p : Option PlanRow) → is_some p ≡ true
        → counts_text known.counts.items ≡ text_at Days (option_map (view_at c rows) p)
    by None absent = absurd (cc)
    by (Some p) here = ap counts_text is.counts ∙ text_told (rows_of c rows.aired) (rows_of c rows.days)

-- and the channel is in the plan
pub is_there : (rows : Centre) (known : ChannelCounts) → IsCounted rows known
    → true ≡ is_some (view_of known.channel rows)
unfolding view_of
is_there rows known is = by (plan_of known.channel rows) is.planned
  where
    by : (p : Option PlanRow) → is_some p ≡ true → true ≡ is_some (option_map (view_at known.channel rows) p)
    by None absent = absurd (cc)
    by (Some p) here = refl

-- what a store below tells of a channel's days is known
pub told_below : (rows : Centre) (known : ChannelCounts) → KeepsRules rows
    → Some known.counts.items ≡ option_map counts_seen (view_of known.channel rows) → IsCounted rows known
unfolding view_of
told_below rows known rules told = by (plan_of known.channel rows) refl told
  where
    by : (p : Option PlanRow) → plan_of known.channel rows ≡ p
        → Some known.counts.items ≡ option_map counts_seen (option_map (view_at known.channel rows) p)
        → IsCounted rows known
    by None is never = absurd (cc)
    by (Some p) is said = record { rules = rules; planned = ap is_some is; counts = cc }

-- ---- what is told after a change

-- a day in its place
counts-replaced : (aired : List DayAsRun) (day : Day) (days : List Day)
    → counts_of aired (replaced (λ d. d.number) day days)
    ≡ replaced (λ k. k.number) (day_counts (batches_of aired day.number) day) (counts_of aired days)
counts-replaced aired day [] = refl
counts-replaced aired day (d ∷ ds) = by (d.number == day.number) (nat_lt day.number d.number) (counts-replaced aired day ds)
  where
    told : Day → DayCounts
    told x = day_counts (batches_of aired x.number) x

    by : (a b : Bool)
        → counts_of aired (replaced (λ x. x.number) day ds)
        ≡ replaced (λ k. k.number) (told day) (counts_of aired ds)
        → counts_of aired
        (if a then day ∷ ds else if b then day ∷ d ∷ ds else d ∷ replaced (λ x. x.number) day ds)
        ≡ (if a then told day ∷ counts_of aired ds else
        if b then told day ∷ told d ∷ counts_of aired ds else
        told d ∷ replaced (λ k. k.number) (told day) (counts_of aired ds))
    by true b rest = refl
    by false true rest = refl
    by false false rest = ap (λ l. told d ∷ l) rest

-- what is told of the day of a number
told_found : (aired : List DayAsRun) (n : ℕ) (days : List Day)
    → find (λ k. k.number == n) (counts_of aired days)
    ≡ option_map (λ d. day_counts (batches_of aired d.number) d) (find (λ d. d.number == n) days)
told_found aired n [] = refl
told_found aired n (d ∷ ds) = grind (arith, told_found aired n ds)

number_found : (n : ℕ) (days : List Day) (d : Day) → find (λ x. x.number == n) days ≡ Some d → d.number ≡ n
number_found n [] d is = absurd (cc)
number_found n (x ∷ xs) d is = grind (arith, nat_tests, is, number_found n xs d)

-- of a day that isn't there nothing was aired
none_aired : (plan : PlanRow) (n last : ℕ) (days : List Day) (aired : List DayAsRun)
    → are_airings_of plan days last aired ≡ true → has_sealed n days ≡ false → find (λ a. a.day == n) aired ≡ None
none_aired plan n last days [] are none = refl
none_aired plan n last days (a ∷ more) are none = by (a.day == n) refl (none_aired plan n a.day days more (grind (arith, are)) none)
  where
    by : (b : Bool) → (a.day == n) ≡ b → find (λ x. x.day == n) more ≡ None
        → find (λ x. x.day == n) (a ∷ more) ≡ None
    by true here rest =
        let same : a.day ≡ n = grind (arith, nat_tests, here) in
        let has : has_sealed a.day days ≡ true = grind (arith, are) in
        absurd (cc)
    by false other rest = rw other rest

-- so what is told of a day's batches is what was aired
batches_are : (rows : Centre) (c n : ℕ) (plan : PlanRow) → KeepsRules rows → plan_of c rows ≡ Some plan
    → batches_told (counts_in rows c) n ≡ batches_of (rows_of c rows.aired) n
batches_are rows c n plan rules planned =
    ap batches_in (told_found (rows_of c rows.aired) n (rows_of c rows.days))
    ∙ by (find (λ d. d.number == n) (rows_of c rows.days)) refl
  where
    aired : List DayAsRun
    aired = rows_of c rows.aired

    days : List Day
    days = rows_of c rows.days

    by : (o : Option Day) → find (λ d. d.number == n) days ≡ o
        → batches_in (option_map (λ d. day_counts (batches_of aired d.number) d) o) ≡ batches_of aired n
    by None is =
        let unsealed : has_sealed n days ≡ false =
        sealed_found plan (sources_seen (seen_by c plan rows)) n 0 days (rules.days.seen c plan planned)
        ∙ ap (λ o. is_sealed (day_or (no_day plan n) o).state) is in
        sym (ap batches_aired (none_aired plan n 0 days aired (rules.aired.sealed c plan planned) unsealed))
    by (Some d) is = ap (batches_of aired) (number_found n days d is)

-- of a channel's days after a change of one of them
counts_after_day : (rows : Centre) (c : ℕ) (plan : PlanRow) (day : Day) → KeepsRules rows → plan_of c rows ≡ Some plan
    → counts_in (day_changed c day rows) c
    ≡ replaced (λ k. k.number) (day_counts (batches_told (counts_in rows c) day.number) day) (counts_in rows c)
counts_after_day rows c plan day rules planned =
    let aired = rows_of c rows.aired in
    ap (counts_of aired) (rows_of-replace_same (λ d. d.number) c day rows.days (days_in_order rows rules))
    ∙ counts-replaced aired day (rows_of c rows.days)
    ∙ ap (λ n. replaced (λ k. k.number) (day_counts n day) (counts_in rows c))
    (sym (batches_are rows c day.number plan rules planned))

-- a list that was told so far, and one more
pub told_more : (f : DayCounts → DayCounts) (xs : List DayCounts) (i : ℕ) (d : DayCounts) (front all : List DayCounts)
    (y : DayCounts) → i < length xs → front ≡ map f (take i xs) → y ≡ f (get_or xs i d) → all ≡ front ++ y ∷ []
    → all ≡ map f (take (i + 1) xs)
told_more f xs i d front all y lt before now joined =
    let next : suc i ≡ i + 1 = omega arith in
    joined ∙ ap₂ (λ l z. l ++ z ∷ []) before now
    ∙ sym (map-append f (take i xs) (get_or xs i d ∷ [])) ∙ ap (map f) (sym (take-suc xs i d lt))
    ∙ ap (λ n. map f (take n xs)) next

-- what is told of one day where more was aired
batches-replaced : (airing : DayAsRun) (aired : List DayAsRun) (d : Day)
    → day_counts (batches_of (replaced (λ a. a.day) airing aired) d.number) d
    ≡ with_batches airing.day (length airing.aired.batches) (day_counts (batches_of aired d.number) d)
batches-replaced airing aired d = by (d.number == airing.day) refl
  where
    now : ℕ → ℕ
    now = batches_of (replaced (λ a. a.day) airing aired)

    by : (b : Bool) → (d.number == airing.day) ≡ b
        → day_counts (now d.number) d
        ≡ (if b then day_counts (length airing.aired.batches) d else day_counts (batches_of aired d.number) d)
    by true here =
        let same : d.number ≡ airing.day = grind (arith, nat_tests, here) in
        ap (λ n. day_counts n d) (ap now same ∙ ap batches_aired (found_replaced (λ a. a.day) airing aired))
    by false here =
        let other : (airing.day == d.number) ≡ false = grind (arith, nat_tests, here) in
        ap (λ n. day_counts n d) (ap batches_aired (found_past (λ a. a.day) airing d.number aired other))

counts-aired : (airing : DayAsRun) (aired : List DayAsRun) (days : List Day)
    → counts_of (replaced (λ a. a.day) airing aired) days
    ≡ map (with_batches airing.day (length airing.aired.batches)) (counts_of aired days)
counts-aired airing aired [] = refl
counts-aired airing aired (d ∷ ds) = ap₂ ◌∷◌ (batches-replaced airing aired d) (counts-aired airing aired ds)

counts_after_airing : (rows : Centre) (c : ℕ) (airing : DayAsRun) → KeepsRules rows
    → counts_in (airing_changed c airing rows) c
    ≡ map (with_batches airing.day (length airing.aired.batches)) (counts_in rows c)
counts_after_airing rows c airing rules =
    ap (λ aired. counts_of aired (rows_of c rows.days))
    (rows_of-replace_same (λ a. a.day) c airing rows.aired (aired_in_order rows rules))
    ∙ counts-aired airing (rows_of c rows.aired) (rows_of c rows.days)

-- ---- what is known after a change

-- what is told of a channel of which a change is not, it leaves told
still_counted : (rows : Centre) (c : ℕ) (change : Change) (k : ChannelCounts) → IsChangeOf c change rows
    → IsCounted rows k → is_some (plan_of k.channel (changed c change rows)) ≡ is_some (plan_of k.channel rows)
    → counts_in (changed c change rows) k.channel ≡ counts_in rows k.channel → IsCounted (changed c change rows) k
still_counted rows c change k is counted there same = record {
  rules = change_keeps rows c change counted.rules is;
  planned = there ∙ counted.planned;
  counts = counted.counts ∙ sym same;
}

-- no change, and one of own rows
pub counted_after_nothing : (rows : Centre) (c : ℕ) (channels : List ChannelCounts) → AreCounted rows channels
    → AreCounted (changed c Nothing rows) channels
unfolding changed
counted_after_nothing rows c channels counted = counted

own_there : (rows : Centre) (c b : ℕ) (own : VaultChange)
    → is_some (plan_of b (own_changed c own rows)) ≡ is_some (plan_of b rows)
own_there rows c b (TapeRow t) = refl
own_there rows c b (ClipRow k) = refl
own_there rows c b (OfferRow o) = refl

own_told : (rows : Centre) (c b : ℕ) (own : VaultChange) → counts_in (own_changed c own rows) b ≡ counts_in rows b
own_told rows c b (TapeRow t) = refl
own_told rows c b (ClipRow k) = refl
own_told rows c b (OfferRow o) = refl

pub counted_after_own : (rows : Centre) (c : ℕ) (put : Put) (own : VaultChange) (channels : List ChannelCounts)
    → IsChangeOf c (OnVault put own) rows → AreCounted rows channels
    → AreCounted (changed c (OnVault put own) rows) channels
unfolding changed
counted_after_own rows c put own channels is counted =
    All-weaker (IsCounted rows) (IsCounted (changed c (OnVault put own) rows))
    (λ k has. still_counted rows c (OnVault put own) k is has (own_there rows c k.channel own)
    (own_told rows c k.channel own)) channels counted

-- the others, after a change of a channel's day
pub others_after_day : (rows : Centre) (c : ℕ) (change : ChangedDay) (channels : List ChannelCounts)
    → IsChangeOf c (OnDay change) rows → AreCounted rows channels
    → AreCounted (changed c (OnDay change) rows) (filter (λ k. not (is_channel c k)) channels)
unfolding changed
others_after_day rows c change channels is counted =
    All-weaker (λ k. IsCounted rows k × (not (is_channel c k) ≡ true)) (IsCounted (changed c (OnDay change) rows))
    (λ k has.
    let differ : c ≢ k.channel = grind (arith, nat_tests, has.1) in
    still_counted rows c (OnDay change) k is has.0 refl
    (ap (counts_of (rows_of k.channel rows.aired))
    (rows_of-replace_other (λ d. d.number) c k.channel change.day rows.days differ)))
    (filter (λ k. not (is_channel c k)) channels)
    (λ i d within. (
      All-filter (λ k. not (is_channel c k)) (IsCounted rows) channels counted i d within,
      filter_passes (λ k. not (is_channel c k)) channels i d within,
    ))

pub others_after_airing : (rows : Centre) (c : ℕ) (airing : DayAsRun) (channels : List ChannelCounts)
    → IsChangeOf c (OnAiring airing) rows → AreCounted rows channels
    → AreCounted (changed c (OnAiring airing) rows) (filter (λ k. not (is_channel c k)) channels)
unfolding changed
others_after_airing rows c airing channels is counted =
    All-weaker (λ k. IsCounted rows k × (not (is_channel c k) ≡ true)) (IsCounted (changed c (OnAiring airing) rows))
    (λ k has.
    let differ : c ≢ k.channel = grind (arith, nat_tests, has.1) in
    still_counted rows c (OnAiring airing) k is has.0 refl
    (ap (λ aired. counts_of aired (rows_of k.channel rows.days))
    (rows_of-replace_other (λ a. a.day) c k.channel airing rows.aired differ)))
    (filter (λ k. not (is_channel c k)) channels)
    (λ i d within. (
      All-filter (λ k. not (is_channel c k)) (IsCounted rows) channels counted i d within,
      filter_passes (λ k. not (is_channel c k)) channels i d within,
    ))

-- and the channel itself
module _ (rows : Centre) (c : ℕ) (k now : ChannelCounts) (mine : k.channel ≡ c) (same : now.channel ≡ c)
    (counted : IsCounted rows k) where
  told : k.counts.items ≡ counts_in rows c
  told = counted.counts ∙ ap (counts_in rows) mine

  pub counted_with_day : (change : ChangedDay) → IsChangeOf c (OnDay change) rows
      → now.counts.items
      ≡ replaced (λ d. d.number) (day_counts (batches_told k.counts.items change.day.number) change.day)
      k.counts.items
      → IsCounted (changed c (OnDay change) rows) now
  unfolding changed
  counted_with_day change is put = record {
    rules = change_keeps rows c (OnDay change) counted.rules is;
    planned = ap (λ b. is_some (plan_of b rows)) same ∙ ap is_some is.2;
    counts =
        put
        ∙ ap (λ l. replaced (λ d. d.number) (day_counts (batches_told l change.day.number) change.day) l) told
        ∙ sym (counts_after_day rows c is.1 change.day counted.rules is.2)
        ∙ ap (counts_in (day_changed c change.day rows)) (sym same);
  }

  pub counted_with_airing : (airing : DayAsRun) → IsChangeOf c (OnAiring airing) rows
      → now.counts.items ≡ map (with_batches airing.day (length airing.aired.batches)) k.counts.items
      → IsCounted (changed c (OnAiring airing) rows) now
  unfolding changed
  counted_with_airing airing is set = record {
    rules = change_keeps rows c (OnAiring airing) counted.rules is;
    planned = ap (λ b. is_some (plan_of b rows)) same ∙ ap is_some is.2;
    counts =
        set ∙ ap (map (with_batches airing.day (length airing.aired.batches))) told
        ∙ sym (counts_after_airing rows c airing counted.rules)
        ∙ ap (counts_in (airing_changed c airing rows)) (sym same);
  }

-- ---- the channels that are known

-- a filter leaves no more days
pub filter_few : (p : ChannelCounts → Bool) (channels : List ChannelCounts)
    → days_counted (filter p channels) ≤ days_counted channels
filter_few p channels =
    omega (arith, sum_by-filter_both p (λ k. not (p k)) (λ k. refl) (λ k. length k.counts.items) channels)

-- those that are left where one comes
left_counted : (rows : Centre) (days : ℕ) (channels : List ChannelCounts) → AreCounted rows channels
    → AreCounted rows (left_beside days channels)
left_counted rows days channels counted = by (nat_le (days_counted channels + days) most_counted)
  where
    by : (b : Bool) → AreCounted rows (if b then channels else [])
    by true = counted
    by false = All-nil (IsCounted rows)

-- and the one that came
pub learned_counted : (rows : Centre) (known : ChannelCounts) (channels after : List ChannelCounts)
    → Learns known channels after → AreCounted rows channels → IsCounted rows known → AreCounted rows after
learned_counted rows known channels after (inl large) all new = subst (AreCounted rows) (sym large.1) all
learned_counted rows known channels after (inr it) all new = by it.1
  where
    left : List ChannelCounts
    left = left_beside (length known.counts.items) channels

    by : (after ≡ left) ⊎ (after ≡ left ++ known ∷ []) → AreCounted rows after
    by (inl is) = subst (AreCounted rows) (sym is) (left_counted rows (length known.counts.items) channels all)
    by (inr is) =
        subst (AreCounted rows) (sym is)
        (All-push (IsCounted rows) left known (left_counted rows (length known.counts.items) channels all) new)

-- their days stay few
pub learned_few : (known : ChannelCounts) (channels after : List ChannelCounts) → Learns known channels after
    → days_counted channels ≤ most_counted → days_counted after ≤ most_counted
learned_few known channels after (inl large) few = subst (λ ks. days_counted ks ≤ most_counted) (sym large.1) few
learned_few known channels after (inr it) few = by (nat_le (days_counted channels + days) most_counted) refl it.1
  where
    days : ℕ
    days = length known.counts.items

    by : (b : Bool) → nat_le (days_counted channels + days) most_counted ≡ b
        → (after ≡ (if b then channels else [])) ⊎ (after ≡ (if b then channels else []) ++ known ∷ [])
        → days_counted after ≤ most_counted
    by true fits (inl is) = subst (λ ks. days_counted ks ≤ most_counted) (sym is) few
    by true fits (inr is) =
        let sum : days_counted after ≡ days_counted channels + days =
        ap days_counted is ∙ sum_by_push (λ k. length k.counts.items) channels known in
        let le : days_counted channels + days ≤ most_counted = grind (arith, nat_tests, fits) in
        omega arith
    by false full (inl is) = subst (λ ks. days_counted ks ≤ most_counted) (sym is) (omega arith)
    by false full (inr is) =
        let sum : days_counted after ≡ 0 + days =
        ap days_counted is ∙ sum_by_push (λ k. length k.counts.items) [] known in
        omega (arith, it.0)

-- a channel that is found among them
pub known_here : (rows : Centre) (c : ℕ) (channels : List ChannelCounts) (known : ChannelCounts)
    → find (is_channel c) channels ≡ Some known → AreCounted rows channels
    → IsCounted rows known × (known.channel ≡ c)
known_here rows c [] known is counted = absurd (cc)
known_here rows c (k ∷ ks) known is counted = by (k.channel == c) refl (known_here rows c ks known)
  where
    by : (b : Bool) → (k.channel == c) ≡ b
        → (find (is_channel c) ks ≡ Some known → AreCounted rows ks
        → IsCounted rows known × (known.channel ≡ c))
        → IsCounted rows known × (known.channel ≡ c)
    by true here rest =
        let first : Some k ≡ Some known = sym (rw here refl) ∙ is in
        let same : k ≡ known = cc in (
          subst (IsCounted rows) same (All-head (IsCounted rows) k ks counted),
          ap (λ (x : ChannelCounts). x.channel) (sym same) ∙ grind (arith, nat_tests, here),
        )
    by false other rest = rest (sym (rw other refl) ∙ is) (All-tail (IsCounted rows) k ks counted)
