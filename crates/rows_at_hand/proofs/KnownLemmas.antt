-- What is known of rows, of a part of them, and after a change.
use Rattle.std.proofs.Common.{◌≡◌, ◌≢◌, ℕ, List, [], ◌∷◌, Bool, true, false, not, refl, sym, subst, ◌∙◌, ap, arith}
use Rattle.std.specs.Prelude.{◌==◌, find, filter, Option, Some, None, IfSome, Result, Ok, Err, IfOk}
use Rattle.std.specs.Result.{result_ok}
use Rattle.std.specs.Option.{option_map}
use Rattle.std.proofs.lemmas.Bool.Decides.{nat_tests}
use Rattle.std.proofs.lemmas.List.Elements.{All-nil, All-weaker, All-filter, filter_passes}
use Rattle.vault_core.specs.declared.command.Put.{Put}
use Rattle.vault_core.specs.Questions.{listed, replaced}
use Rattle.channel_plan.specs.declared.plan.PlanRow.{PlanRow}
use Rattle.playlist_core.specs.Day.{Day}
use Rattle.playlist_core.specs.Difference.{ChangedDay}
use Rattle.playlist_core.specs.declared.day.DayState.TheVariants.{NotThere}
use Rattle.asrun_match.specs.Aired.{Airing}
use Rattle.asrun_match.specs.declared.day.DayAsRun.{DayAsRun}
use Rattle.channel_view_model.specs.declared.need.Need.{Need}
use Rattle.channel_view_model.specs.declared.part.Part.{Part}
use Rattle.channel_view_model.specs.declared.command.Change.{Change}
use Rattle.channel_view_model.specs.declared.command.Change.TheVariants.{Nothing, Vault as OnVault, Day as OnDay}
use Rattle.channel_view_model.specs.declared.command.Change.TheVariants.{Airing as OnAiring}
use Rattle.channel_view_model.specs.declared.command.VaultChange.{VaultChange}
use Rattle.channel_view_model.specs.declared.command.VaultChange.TheVariants.{Tape as TapeRow, Clip as ClipRow}
use Rattle.channel_view_model.specs.declared.command.VaultChange.TheVariants.{Offer as OfferRow}
use Rattle.channel_view_model.specs.Tables.{Table, is_in_order, replace_row, rows_of}
use Rattle.channel_view_model.specs.Days.{day_at, day_or, no_day}
use Rattle.channel_view_model.specs.Airings.{airing_at, airing_or}
use Rattle.channel_view_model.specs.Centre.{Centre, IsChangeOf, plan_of, changed, own_changed, day_changed, view_at}
use Rattle.channel_view_model.specs.Centre.{airing_changed, view_of}
use Rattle.channel_view_model.specs.Need.{IsFetched, IsDayAnswer, AreSourceAnswers, names_asked}
use Rattle.channel_view_model.specs.Rules.{KeepsRules}
use Rattle.channel_view_model.proofs.TableLemmas.{rows_of-replace_same, rows_of-replace_other}
use Rattle.channel_view_model.proofs.RuleLemmas.{aired_in_order, change_keeps, days_in_order}
use Rattle.rows_at_hand.specs.declared.known.KnownDay.{KnownDay}
use Rattle.rows_at_hand.specs.Known.{AsksBeside, HasAiring, HasDay, IsKnown, AreKnown, airing_in, is_day_of}
use Rattle.rows_at_hand.specs.Known.{kept_beside, with_airing, with_day}

-- the day that an answer says is there is found among the rows
day_found : (plan : PlanRow) (days : List Day) (n : ℕ) (day : Day) (o : Option Day) → find (λ d. d.number == n) days ≡ o
    → day ≡ day_or (no_day plan n) o → day.state ≢ NotThere → find (λ d. d.number == day.number) days ≡ Some day
day_found plan days n day None is same there = absurd (there (ap (λ d. d.state) same))
day_found plan days n day (Some d) is same there =
    let numbered : d.number ≡ n = number_found days d is in
    ap (λ m. find (λ x. x.number == m) days) (ap (λ x. x.number) same ∙ numbered) ∙ is ∙ ap Some (sym same)
  where
    number_found : (ds : List Day) (d : Day) → find (λ x. x.number == n) ds ≡ Some d → d.number ≡ n
    number_found [] d e = absurd (cc)
    number_found (x ∷ xs) d e = grind (arith, nat_tests, e, number_found xs d)

pub part_has : (rows : Centre) (c : ℕ) (need : Need) (part : Part) (day : Day)
    → IsFetched need (view_of c rows) (Some part) → part.day ≡ Some day → day.state ≢ NotThere → HasDay rows c day
unfolding view_of
part_has rows c need part day fetched is there = by (plan_of c rows) fetched
  where
    by : (p : Option PlanRow) → IsFetched need (option_map (view_at c rows) p) (Some part) → HasDay rows c day
    by None f = absurd f
    by (Some p) f = asked need.day f.day
      where
        asked : (o : Option ℕ) → IsDayAnswer o p (listed (rows_of c rows.days)) part.day → HasDay rows c day
        asked None e = absurd (cc)
        asked (Some n) e =
            let same : day ≡ day_at p (listed (rows_of c rows.days)) n = cc in
            day_found p (rows_of c rows.days) n day (find (λ d. d.number == n) (rows_of c rows.days)) refl same there

-- and what was aired of the day for which this was asked
pub part_has_airing : (rows : Centre) (c : ℕ) (need : Need) (part : Part) (n : ℕ) (airing : Airing)
    → IsFetched need (view_of c rows) (Some part) → need.aired ≡ Some n → part.aired ≡ Some airing
    → HasAiring rows c n airing
unfolding view_of
part_has_airing rows c need part n airing fetched asked is = by (plan_of c rows) fetched
  where
    by : (p : Option PlanRow) → IsFetched need (option_map (view_at c rows) p) (Some part)
        → option_map (λ q. airing_at q (listed (rows_of c rows.aired)) n) p ≡ Some airing
    by None f = absurd f
    by (Some p) f =
        sym
        (sym is ∙ f.aired ∙ ap (option_map (airing_at p (listed (rows_of c rows.aired)))) asked)

-- a part of what is asked for beside the day, and the day that the rows have, are the part
pub part_with : (rows : Centre) (c : ℕ) (need beside : Need) (part : Option Part) (day : Day)
    → AsksBeside (Some day) need beside → IsFetched beside (view_of c rows) part → need.day ≡ Some day.number
    → HasDay rows c day → IsFetched need (view_of c rows) (with_day (Some day) part)
unfolding view_of
part_with rows c need beside part day asks fetched asked has =
    by (plan_of c rows) part
    (subst (λ n. IsFetched n (option_map (view_at c rows) (plan_of c rows)) part) asks.others fetched)
  where
    by : (p : Option PlanRow) (o : Option Part)
        → IsFetched (record need { day = None; items = beside.items }) (option_map (view_at c rows) p) o
        → IsFetched need (option_map (view_at c rows) p) (with_day (Some day) o)
    by None None f = f
    by None (Some it) f = absurd f
    by (Some p) None f = absurd f
    by (Some p) (Some it) f = record {
      plan = f.plan;
      tapes = f.tapes;
      clips = f.clips;
      offers = f.offers;
      day =
          ap Some (ap (day_or (no_day p day.number)) (sym has))
          ∙ ap (option_map (day_at p (listed (rows_of c rows.days)))) (sym asked);
      aired = f.aired;
      sources =
          subst
          (λ items. AreSourceAnswers need.sources items (names_asked need.named) (view_at c rows p).own.clips
          (view_at c rows p).lent
          it.sources.clips.items it.sources.grants.items) (asks.items it.day) f.sources;
    }

-- a part without what was aired, and what the rows have of it, are the part
pub part_with_airing : (rows : Centre) (c : ℕ) (need : Need) (part : Option Part) (n : ℕ) (airing : Airing)
    → IsFetched (record need { aired = None }) (view_of c rows) part → need.aired ≡ Some n
    → HasAiring rows c n airing → IsFetched need (view_of c rows) (with_airing (Some airing) part)
unfolding view_of
part_with_airing rows c need part n airing fetched asked has = by (plan_of c rows) part has fetched
  where
    by : (p : Option PlanRow) (o : Option Part)
        → option_map (λ q. airing_at q (listed (rows_of c rows.aired)) n) p ≡ Some airing
        → IsFetched (record need { aired = None }) (option_map (view_at c rows) p) o
        → IsFetched need (option_map (view_at c rows) p) (with_airing (Some airing) o)
    by None None is f = f
    by None (Some it) is f = absurd f
    by (Some p) None is f = absurd f
    by (Some p) (Some it) is f = record {
      plan = f.plan;
      tapes = f.tapes;
      clips = f.clips;
      offers = f.offers;
      day = f.day;
      aired = sym is ∙ ap (option_map (airing_at p (listed (rows_of c rows.aired)))) (sym asked);
      sources = f.sources;
    }

-- a change of own rows leaves the days, and what was aired
own_leaves : (c b : ℕ) (change : VaultChange) (rows : Centre)
    → rows_of c (own_changed b change rows).days ≡ rows_of c rows.days
own_leaves c b (TapeRow t) rows = refl
own_leaves c b (ClipRow k) rows = refl
own_leaves c b (OfferRow o) rows = refl

own_leaves_airings : (c b n : ℕ) (change : VaultChange) (rows : Centre)
    → airing_in (own_changed b change rows) c n ≡ airing_in rows c n
own_leaves_airings c b n (TapeRow t) rows = refl
own_leaves_airings c b n (ClipRow k) rows = refl
own_leaves_airings c b n (OfferRow o) rows = refl

-- a row in its place is found there, and the others as before
pub found_replaced : {A : Type 0} (key : A → ℕ) (x : A) (xs : List A)
    → find (λ d. key d == key x) (replaced key x xs) ≡ Some x
found_replaced key x [] = grind (arith, nat_tests)
found_replaced key x (d ∷ ds) = grind (arith, nat_tests, found_replaced key x ds)

pub found_past : {A : Type 0} (key : A → ℕ) (x : A) (n : ℕ) (xs : List A) → (key x == n) ≡ false
    → find (λ d. key d == n) (replaced key x xs) ≡ find (λ d. key d == n) xs
found_past key x n [] other = grind (arith, nat_tests, other)
found_past key x n (d ∷ ds) other = grind (arith, nat_tests, other, found_past key x n ds other)

-- what is known as the channel's day of a number is that
pub of_channel : (c n : ℕ) (k : KnownDay) → is_day_of c n k ≡ true → k.channel ≡ c
of_channel c n k is = grind (arith, nat_tests, is)

pub of_number : (c n : ℕ) (k : KnownDay) → is_day_of c n k ≡ true → k.day.number ≡ n
of_number c n k is = grind (arith, nat_tests, is)

-- so the rows have it, and what is known to be aired of it
pub known_has : (rows : Centre) (c n : ℕ) (k : KnownDay) → is_day_of c n k ≡ true → IsKnown rows k → HasDay rows c k.day
known_has rows c n k is known = subst (λ b. HasDay rows b k.day) (of_channel c n k is) known.has

pub known_has_airing : (rows : Centre) (c n : ℕ) (k : KnownDay) (airing : Airing) → is_day_of c n k ≡ true
    → k.aired ≡ Some airing → IsKnown rows k → HasAiring rows c n airing
known_has_airing rows c n k airing is aired known =
    subst (λ b. HasAiring rows b n airing) (of_channel c n k is)
    (subst (λ m. HasAiring rows k.channel m airing) (of_number c n k is)
    (subst (λ o. IfSome o (HasAiring rows k.channel k.day.number)) aired known.aired))

-- what of a channel's days a change leaves, it leaves known
still_known : (rows : Centre) (c : ℕ) (change : Change) (k : KnownDay) → IsChangeOf c change rows → IsKnown rows k
    → find (λ d. d.number == k.day.number) (rows_of k.channel (changed c change rows).days)
    ≡ find (λ d. d.number == k.day.number) (rows_of k.channel rows.days)
    → airing_in (changed c change rows) k.channel k.day.number ≡ airing_in rows k.channel k.day.number
    → IsKnown (changed c change rows) k
still_known rows c change k is known same aired = record {
  rules = change_keeps rows c change known.rules is;
  has = same ∙ known.has;
  aired = subst (λ o. IfSome k.aired (λ a. o ≡ Some a)) (sym aired) known.aired;
}

-- so all of them are after no change, and after one of own rows
pub known_after_nothing : (rows : Centre) (c : ℕ) (days : List KnownDay) → AreKnown rows days
    → AreKnown (changed c Nothing rows) days
unfolding changed
known_after_nothing rows c days known = known

pub known_after_own : (rows : Centre) (c : ℕ) (put : Put) (change : VaultChange) (days : List KnownDay)
    → IsChangeOf c (OnVault put change) rows → AreKnown rows days
    → AreKnown (changed c (OnVault put change) rows) days
unfolding changed
known_after_own rows c put change days is known =
    All-weaker (IsKnown rows) (IsKnown (changed c (OnVault put change) rows))
    (λ k has. still_known rows c (OnVault put change) k is has
    (ap (find (λ d. d.number == k.day.number)) (own_leaves k.channel c change rows))
    (own_leaves_airings k.channel c k.day.number change rows)) days known

-- a row of a day in the place of another leaves those of the other days that are known
other_left : {A : Type 0} (key : A → ℕ) (c : ℕ) (x : A) (table : Table A) (k : KnownDay) → is_in_order table ≡ true
    → is_day_of c (key x) k ≡ false
    → find (λ d. key d == k.day.number) (rows_of k.channel (replace_row key c x table))
    ≡ find (λ d. key d == k.day.number) (rows_of k.channel table)
other_left key c x table k order other = by (k.channel == c) refl
  where
    by : (b : Bool) → (k.channel == c) ≡ b
        → find (λ d. key d == k.day.number) (rows_of k.channel (replace_row key c x table))
        ≡ find (λ d. key d == k.day.number) (rows_of k.channel table)
    by true is =
        let same : k.channel ≡ c = grind (arith, nat_tests, is) in
        let past : (key x == k.day.number) ≡ false = grind (arith, nat_tests, is, other) in
        ap (λ b. find (λ d. key d == k.day.number) (rows_of b (replace_row key c x table))) same
        ∙ ap (find (λ d. key d == k.day.number)) (rows_of-replace_same key c x table order)
        ∙ found_past key x k.day.number (rows_of c table) past
        ∙ ap (λ b. find (λ d. key d == k.day.number) (rows_of b table)) (sym same)
    by false is =
        let differ : c ≢ k.channel = grind (arith, nat_tests, is) in
        ap (find (λ d. key d == k.day.number)) (rows_of-replace_other key c k.channel x table differ)

-- what is kept beside a change that days are about is known after it
pub known_after_day : (rows : Centre) (c : ℕ) (change : ChangedDay) (days : List KnownDay)
    → IsChangeOf c (OnDay change) rows → AreKnown rows days
    → AreKnown (changed c (OnDay change) rows) (kept_beside c (OnDay change) days)
unfolding changed
known_after_day rows c change days is known =
    All-weaker (λ k. IsKnown rows k × (not (is_day_of c change.day.number k) ≡ true))
    (IsKnown (changed c (OnDay change) rows))
    (λ k has. still_known rows c (OnDay change) k is has.0
    (other_left (λ d. d.number) c change.day rows.days k (days_in_order rows has.0.rules)
    (grind (arith, nat_tests, has.1))) refl)
    (filter (λ k. not (is_day_of c change.day.number k)) days)
    (λ i d within. (
      All-filter (λ k. not (is_day_of c change.day.number k)) (IsKnown rows) days known i d within,
      filter_passes (λ k. not (is_day_of c change.day.number k)) days i d within,
    ))

pub known_after_airing : (rows : Centre) (c : ℕ) (airing : DayAsRun) (days : List KnownDay)
    → IsChangeOf c (OnAiring airing) rows → AreKnown rows days
    → AreKnown (changed c (OnAiring airing) rows) (kept_beside c (OnAiring airing) days)
unfolding changed
known_after_airing rows c airing days is known =
    All-weaker (λ k. IsKnown rows k × (not (is_day_of c airing.day k) ≡ true))
    (IsKnown (changed c (OnAiring airing) rows))
    (λ k has. still_known rows c (OnAiring airing) k is has.0 refl
    (ap (λ o. option_map (λ p. airing_or p o) (plan_of k.channel rows))
    (other_left (λ a. a.day) c airing rows.aired k (aired_in_order rows has.0.rules)
    (grind (arith, nat_tests, has.1)))))
    (filter (λ k. not (is_day_of c airing.day k)) days)
    (λ i d within. (
      All-filter (λ k. not (is_day_of c airing.day k)) (IsKnown rows) days known i d within,
      filter_passes (λ k. not (is_day_of c airing.day k)) days i d within,
    ))

-- the day of a change is found among the rows after it
day_has : (rows : Centre) (c : ℕ) (day : Day) → KeepsRules rows → HasDay (day_changed c day rows) c day
day_has rows c day rules =
    ap (find (λ d. d.number == day.number))
    (rows_of-replace_same (λ d. d.number) c day rows.days (days_in_order rows rules))
    ∙ found_replaced (λ d. d.number) day (rows_of c rows.days)

-- and so is what was aired
airing_has : (rows : Centre) (c : ℕ) (airing : DayAsRun) (p : PlanRow) → KeepsRules rows → plan_of c rows ≡ Some p
    → HasAiring (airing_changed c airing rows) c airing.day airing.aired
airing_has rows c airing p rules planned =
    ap (option_map (λ q. airing_at q (listed (rows_of c (replace_row (λ a. a.day) c airing rows.aired))) airing.day))
    planned
    ∙ ap (λ o. Some (airing_or p o))
    (ap (find (λ a. a.day == airing.day))
    (rows_of-replace_same (λ a. a.day) c airing rows.aired (aired_in_order rows rules))
    ∙ found_replaced (λ a. a.day) airing (rows_of c rows.aired))

-- the day of a change is known after it, with what was aired of it as before
pub known_as_day : (rows : Centre) (c : ℕ) (change : ChangedDay) (k : KnownDay) → IsChangeOf c (OnDay change) rows
    → is_day_of c change.day.number k ≡ true → IsKnown rows k
    → IsKnown (changed c (OnDay change) rows) (record k { day = change.day })
unfolding changed
known_as_day rows c change k is mine known = record {
  rules = change_keeps rows c (OnDay change) known.rules is;
  has =
      subst (λ b. HasDay (day_changed c change.day rows) b change.day) (sym (of_channel c change.day.number k mine))
      (day_has rows c change.day known.rules);
  aired =
      subst (λ n. IfSome k.aired (HasAiring rows k.channel n)) (of_number c change.day.number k mine) known.aired;
}

-- and the day of which something was aired, with that, or with nothing known of it
pub known_as_airing : (rows : Centre) (c : ℕ) (airing : DayAsRun) (k : KnownDay) (aired : Option Airing)
    → IsChangeOf c (OnAiring airing) rows → is_day_of c airing.day k ≡ true → IsKnown rows k
    → IfSome aired (λ a. a ≡ airing.aired)
    → IsKnown (changed c (OnAiring airing) rows) (record k { aired = aired })
unfolding changed
known_as_airing rows c airing k aired is mine known same = record {
  rules = change_keeps rows c (OnAiring airing) known.rules is;
  has = known.has;
  aired = by aired same;
}
  where
    by : (o : Option Airing) → IfSome o (λ a. a ≡ airing.aired)
        → IfSome o (HasAiring (airing_changed c airing rows) k.channel k.day.number)
    by None h = h
    by (Some a) h =
        subst (HasAiring (airing_changed c airing rows) k.channel k.day.number) (sym h)
        (subst (λ n. HasAiring (airing_changed c airing rows) k.channel n airing.aired)
        (sym (of_number c airing.day k mine))
        (subst (λ b. HasAiring (airing_changed c airing rows) b airing.day airing.aired)
        (sym (of_channel c airing.day k mine)) (airing_has rows c airing is.1 known.rules is.2)))

-- what is kept beside a change is known of the rows before it
pub known_beside : (rows : Centre) (c : ℕ) (change : Change) (days : List KnownDay) → AreKnown rows days
    → AreKnown rows (kept_beside c change days)
known_beside rows c Nothing days known = known
known_beside rows c (OnVault put ch) days known = known
known_beside rows c (OnDay day) days known =
    All-filter (λ k. not (is_day_of c day.day.number k)) (IsKnown rows) days known
known_beside rows c (OnAiring airing) days known =
    All-filter (λ k. not (is_day_of c airing.day k)) (IsKnown rows) days known

-- the days without that of a change, as the code has them
pub left_beside : (c n : ℕ) (change : ChangedDay) (days left : List KnownDay) → n ≡ change.day.number
    → left ≡ filter (λ k. not (is_day_of c n k)) days → left ≡ kept_beside c (OnDay change) days
left_beside c n change days left numbered kept =
    kept ∙ ap (λ m. filter (λ k. not (is_day_of c m k)) days) numbered

-- what was aired of a day that is known, by a part
pub part_airing : (rows : Centre) (c : ℕ) (need : Need) (part : Part) (n : ℕ) (aired : Option Airing)
    → IsFetched need (view_of c rows) (Some part)
    → IfSome aired (λ a. (need.aired ≡ Some n) × (part.aired ≡ Some a)) → IfSome aired (HasAiring rows c n)
part_airing rows c need part n None fetched is = is
part_airing rows c need part n (Some a) fetched is = part_has_airing rows c need part n a fetched is.0 is.1

-- with that it is known
pub known_with_airing : (rows : Centre) (c n : ℕ) (k : KnownDay) (aired : Option Airing) → is_day_of c n k ≡ true
    → IsKnown rows k → IfSome aired (HasAiring rows c n) → IsKnown rows (record k { aired = aired })
known_with_airing rows c n k aired mine known has = record {
  rules = known.rules;
  has = known.has;
  aired =
      subst (λ b. IfSome aired (HasAiring rows b k.day.number)) (sym (of_channel c n k mine))
      (subst (λ m. IfSome aired (HasAiring rows c m)) (sym (of_number c n k mine)) has);
}

-- what a copy gave, where memory was there for it
pub copy_same : {A E : Type 0} (P : A → Type 0) (copied : Result A E) (o : Option A) → o ≡ result_ok copied
    → IfOk copied P → IfSome o P
copy_same P (Ok x) o is same = subst (λ p. IfSome p P) (sym is) same
copy_same P (Err e) o is same = subst (λ p. IfSome p P) (sym is) same

-- nothing is known of any rows
pub nothing_known : (rows : Centre) (days : List KnownDay) → days ≡ [] → AreKnown rows days
nothing_known rows days none = subst (AreKnown rows) (sym none) (All-nil (IsKnown rows))
