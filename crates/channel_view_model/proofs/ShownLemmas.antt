-- What items show stays there, whatever any channel changes of its own rows.
use Rattle.std.proofs.Common.{◌≡◌, ℕ, ◌<◌, List, [], ◌∷◌, Bool, true, false, ◌&&◌, inl, inr, refl, sym, subst, arith}
use Rattle.std.specs.Prelude.{◌==◌, nat_lt, find, Option, Some, None, if◌then◌else◌}
use Rattle.std.specs.List.{list_all}
use Rattle.std.specs.Option.{option_map}
use Rattle.std.proofs.lemmas.Bool.Decides.{nat_tests}
use Rattle.channel_plan.specs.declared.plan.PlanRow.{PlanRow}
use Rattle.vault_core.specs.declared.clip.Clip.{Clip}
use Rattle.vault_core.specs.declared.offer.Offer.{Offer}
use Rattle.vault_core.specs.declared.command.Put.{Put}
use Rattle.vault_core.specs.declared.command.Put.TheVariants.{Added, Changed}
use Rattle.vault_core.specs.Questions.{alter}
use Rattle.vault_core.specs.Rules.{KeepsOwnRules}
use Rattle.vault_core.specs.Command.{ClipMayBePut}
use Rattle.grant_core.specs.Command.{OfferMayBePut}
use Rattle.playlist_core.specs.declared.item.Item.{Item}
use Rattle.playlist_core.specs.declared.source.Source.{Source}
use Rattle.playlist_core.specs.declared.source.Source.TheVariants.{Black, Bars, Own as OwnClip, Lent as LentClip}
use Rattle.playlist_core.specs.Source.{SourcesSeen, of_clip, of_grant}
use Rattle.playlist_core.specs.Day.{Day}
use Rattle.channel_view_model.specs.declared.command.VaultChange.{VaultChange}
use Rattle.channel_view_model.specs.declared.command.VaultChange.TheVariants.{Tape as TapeRow, Clip as ClipRow}
use Rattle.channel_view_model.specs.declared.command.VaultChange.TheVariants.{Offer as OfferRow}
use Rattle.channel_view_model.specs.Tables.{Table, rows_of, add_row, replace_row, is_in_order}
use Rattle.channel_view_model.specs.Seen.{sources_seen, grant_of}
use Rattle.channel_view_model.specs.Centre.{Centre, own_of, own_changed, seen_by}
use Rattle.channel_view_model.specs.Rules.{row_holds, source_holds, are_days_of, KeepsDays}
use Rattle.channel_view_model.proofs.TableLemmas.{all_after}
use Rattle.channel_view_model.specs.Puts.{RowMayBePut}
use Rattle.channel_view_model.proofs.PutRowLemmas.{replace_adds, replace_alters}
use Rattle.channel_view_model.proofs.StepLemmas.{AreInOrder}

-- more that is shown
module _ (plan : PlanRow) (seen more : SourcesSeen)
    (still : (n : ℕ) (i : Item) (s : Source) → source_holds plan n seen i s ≡ true
    → source_holds plan n more i s ≡ true) where
  items_still : (n : ℕ) (items : List Item) → list_all (λ i. source_holds plan n seen i i.src) items ≡ true
      → list_all (λ i. source_holds plan n more i i.src) items ≡ true
  items_still n [] h = refl
  items_still n (i ∷ is) h = grind (arith, h, still n i i.src, items_still n is)

  pub days_still : (last : ℕ) (days : List Day) → are_days_of plan seen last days ≡ true
      → are_days_of plan more last days ≡ true
  days_still last [] h = refl
  days_still last (d ∷ days) h = grind (arith, h, items_still d.number d.items, days_still d.number days)

module _ {A : Type 0} (q : ℕ × A → Bool) where
  found_passes : (p : ℕ × A → Bool) (t : Table A) (r : ℕ × A) → list_all p t ≡ true → find q t ≡ Some r
      → (p r ≡ true) × (q r ≡ true)
  found_passes p [] r h is = absurd (cc)
  found_passes p (s ∷ ss) r h is = by (q s) refl (found_passes p ss r (grind (arith, h)))
    where
      by : (b : Bool) → q s ≡ b → (find q ss ≡ Some r → (p r ≡ true) × (q r ≡ true)) → (p r ≡ true) × (q r ≡ true)
      by true here rest =
          let same : s ≡ r = grind (arith, here, is) in
          (subst (λ (x : ℕ × A). p x ≡ true) same (grind (arith, h)), subst (λ (x : ℕ × A). q x ≡ true) same here)
      by false here rest = rest (grind (arith, here, is))

  -- a new row comes behind those of its channel
  pub found-add : (owner : ℕ) → ((r : ℕ × A) → q r ≡ true → r.0 ≡ owner) → (b : ℕ) (x : A) (t : Table A) (r : ℕ × A)
      → is_in_order t ≡ true → find q t ≡ Some r → find q (add_row b x t) ≡ Some r
  found-add owner its b x [] r order is = absurd (cc)
  found-add owner its b x (s ∷ ss) r order is =
      by (nat_lt b s.0) refl (found-add owner its b x ss r (grind (arith, order)))
    where
      by : (c : Bool) → nat_lt b s.0 ≡ c → (find q ss ≡ Some r → find q (add_row b x ss) ≡ Some r)
          → find q (if c then (b, x) ∷ s ∷ ss else s ∷ add_row b x ss) ≡ Some r
      by true lt rest = at (q (b, x)) refl
        where
          behind : list_all (λ z. nat_lt b z.0) (s ∷ ss) ≡ true
          behind =
              let later = all_after b s.0 ss (grind (arith, nat_tests, lt)) (grind (arith, order)) in
              grind (arith, lt, later)

          at : (c : Bool) → q (b, x) ≡ c → find q ((b, x) ∷ s ∷ ss) ≡ Some r
          at true mine =
              let there = found_passes (λ z. nat_lt b z.0) (s ∷ ss) r behind is in
              let one : b ≡ owner = its (b, x) mine in
              let two : r.0 ≡ owner = its r there.1 in
              let past : b < r.0 = grind (arith, nat_tests, there.0) in
              absurd (omega (arith, one, two, past))
          at false other = grind (arith, other, is)
      by false lt rest = at (q s) refl
        where
          at : (c : Bool) → q s ≡ c → find q (s ∷ add_row b x ss) ≡ Some r
          at true mine = grind (arith, mine, is)
          at false other = let later = rest (grind (arith, other, is)) in grind (arith, other, later)

  pub found-alter : (test : ℕ × A → Bool) (g : ℕ × A → ℕ × A) → ((r : ℕ × A) → q (g r) ≡ q r) → (t : Table A)
      → find q (alter test g t) ≡ option_map (λ r. if test r then g r else r) (find q t)
  found-alter test g keeps [] = refl
  found-alter test g keeps (s ∷ ss) = grind (arith, keeps s, found-alter test g keeps ss)

-- by what is found of the tables
module _ (plan : PlanRow) (day c : ℕ) (rows later : Centre) where
  abbrev is_clip : ℕ → ℕ × Clip → Bool
  is_clip n r = r.0 == c && r.1.n == n

  abbrev is_grant : ℕ → ℕ → ℕ × Offer → Bool
  is_grant owner n r = r.1.grantee == c && ((grant_of r).owner == owner && (grant_of r).offer.n == n)

  abbrev Still : Type 0
  Still =
      (i : Item) (s : Source) → source_holds plan day (sources_seen (seen_by c plan rows)) i s ≡ true
      → source_holds plan day (sources_seen (seen_by c plan later)) i s ≡ true

  by_tables : ((i : Item) (n : ℕ)
      → row_holds plan day i (of_clip (option_map (λ r. r.1) (find (is_clip n) rows.clips))) ≡ true
      → row_holds plan day i (of_clip (option_map (λ r. r.1) (find (is_clip n) later.clips))) ≡ true)
      → ((i : Item) (owner n : ℕ)
      → row_holds plan day i (of_grant (option_map grant_of (find (is_grant owner n) rows.offers))) ≡ true
      → row_holds plan day i (of_grant (option_map grant_of (find (is_grant owner n) later.offers))) ≡ true)
      → Still
  by_tables clips grants i Black h = refl
  by_tables clips grants i Bars h = refl
  by_tables clips grants i (OwnClip n) h = clips i n h
  by_tables clips grants i (LentClip owner n) h = grants i owner n h

module _ (plan : PlanRow) (day c b : ℕ) (rows : Centre) (order : AreInOrder rows) where
  owner_of_clip : (n : ℕ) (r : ℕ × Clip) → is_clip plan day c rows rows n r ≡ true → r.0 ≡ c
  owner_of_clip n r h = grind (arith, nat_tests, h)

  owner_of_grant : (owner n : ℕ) (r : ℕ × Offer) → is_grant plan day c rows rows owner n r ≡ true → r.0 ≡ owner
  owner_of_grant owner n r h = grind (arith, nat_tests, h)

  clip_added : (k : Clip) (i : Item) (n : ℕ) (o : Option (ℕ × Clip))
      → find (is_clip plan day c rows rows n) rows.clips ≡ o
      → row_holds plan day i (of_clip (option_map (λ r. r.1) o)) ≡ true
      → row_holds plan day i
      (of_clip (option_map (λ r. r.1) (find (is_clip plan day c rows rows n) (add_row b k rows.clips)))) ≡ true
  clip_added k i n None is h = absurd (cc)
  clip_added k i n (Some r) is h =
      subst (λ (o : Option (ℕ × Clip)). row_holds plan day i (of_clip (option_map (λ r. r.1) o)) ≡ true)
      (sym (found-add (is_clip plan day c rows rows n) c (owner_of_clip n) b k rows.clips r order.1 is)) h

  grant_added : (x : Offer) (i : Item) (owner n : ℕ) (o : Option (ℕ × Offer))
      → find (is_grant plan day c rows rows owner n) rows.offers ≡ o
      → row_holds plan day i (of_grant (option_map grant_of o)) ≡ true
      → row_holds plan day i
      (of_grant (option_map grant_of (find (is_grant plan day c rows rows owner n) (add_row b x rows.offers)))) ≡ true
  grant_added x i owner n None is h = absurd (cc)
  grant_added x i owner n (Some r) is h =
      subst (λ (o : Option (ℕ × Offer)). row_holds plan day i (of_grant (option_map grant_of o)) ≡ true)
      (sym
      (found-add (is_grant plan day c rows rows owner n) owner (owner_of_grant owner n) b x rows.offers r order.2 is)) h

  clip_altered : (test : ℕ × Clip → Bool) (i : Item) (o : Option (ℕ × Clip))
      → row_holds plan day i (of_clip (option_map (λ r. r.1) o)) ≡ true
      → row_holds plan day i
      (of_clip (option_map (λ r. r.1) (option_map (λ r. if test r then (r.0, record r.1 { retired = true }) else r) o)))
      ≡ true
  clip_altered test i None h = absurd (cc)
  clip_altered test i (Some r) h =
      elim (test r)
      as (λ v. row_holds plan day i (Some (inl (if v then (r.0, record r.1 { retired = true }) else r).1)) ≡ true)
      [ true ↦ h | false ↦ h ]

  grant_altered : (test : ℕ × Offer → Bool) (i : Item) (o : Option (ℕ × Offer))
      → row_holds plan day i (of_grant (option_map grant_of o)) ≡ true
      → row_holds plan day i
      (of_grant
      (option_map grant_of (option_map (λ r. if test r then (r.0, record r.1 { withdrawn = true }) else r) o))) ≡ true
  grant_altered test i None h = absurd (cc)
  grant_altered test i (Some r) h =
      elim (test r)
      as (λ v. row_holds plan day i (Some (inr (grant_of (if v then (r.0, record r.1 { withdrawn = true }) else r))))
      ≡ true) [ true ↦ h | false ↦ h ]

  module _ (mine : PlanRow) (rules : KeepsOwnRules (own_of b mine rows)) where
    clip_put : (put : Put) (k : Clip) → ClipMayBePut put k (own_of b mine rows) → (i : Item) (n : ℕ)
        → row_holds plan day i (of_clip (option_map (λ r. r.1) (find (is_clip plan day c rows rows n) rows.clips)))
        ≡ true
        → row_holds plan day i
        (of_clip
        (option_map (λ r. r.1)
        (find (is_clip plan day c rows rows n) (replace_row (λ (u : Clip). u.n) b k rows.clips)))) ≡ true
    clip_put Added k may i n h =
        subst
        (λ t. row_holds plan day i (of_clip (option_map (λ r. r.1) (find (is_clip plan day c rows rows n) t)))
        ≡ true)
        (sym (replace_adds (λ (u : Clip). u.n) b 1 k rows.clips rules.clips.numbers may))
        (clip_added k i n (find (is_clip plan day c rows rows n) rows.clips) refl h)
    clip_put Changed k may i n h =
        subst
        (λ t. row_holds plan day i (of_clip (option_map (λ r. r.1) (find (is_clip plan day c rows rows n) t)))
        ≡ true)
        (sym (replace_alters (λ (u : Clip). u.n) b (λ u. record u { retired = true }) 1 k may.0 rows.clips order.1
        rules.clips.numbers may.1 may.2))
        (subst (λ (o : Option (ℕ × Clip)). row_holds plan day i (of_clip (option_map (λ r. r.1) o)) ≡ true)
        (sym (found-alter (is_clip plan day c rows rows n) (λ r. r.0 == b && r.1.n == k.n)
        (λ r. (r.0, record r.1 { retired = true })) (λ r. refl) rows.clips))
        (clip_altered (λ r. r.0 == b && r.1.n == k.n) i (find (is_clip plan day c rows rows n) rows.clips) h))

    grant_put : (put : Put) (x : Offer) → OfferMayBePut put x (own_of b mine rows) → (i : Item) (owner n : ℕ)
        → row_holds plan day i
        (of_grant (option_map grant_of (find (is_grant plan day c rows rows owner n) rows.offers))) ≡ true
        → row_holds plan day i
        (of_grant
        (option_map grant_of
        (find (is_grant plan day c rows rows owner n) (replace_row (λ (u : Offer). u.n) b x rows.offers)))) ≡ true
    grant_put Added x may i owner n h =
        subst
        (λ t. row_holds plan day i (of_grant (option_map grant_of (find (is_grant plan day c rows rows owner n) t)))
        ≡ true)
        (sym (replace_adds (λ (u : Offer). u.n) b 1 x rows.offers rules.offers.numbers may.0))
        (grant_added x i owner n (find (is_grant plan day c rows rows owner n) rows.offers) refl h)
    grant_put Changed x may i owner n h =
        subst
        (λ t. row_holds plan day i (of_grant (option_map grant_of (find (is_grant plan day c rows rows owner n) t)))
        ≡ true)
        (sym (replace_alters (λ (u : Offer). u.n) b (λ u. record u { withdrawn = true }) 1 x may.0 rows.offers order.2
        rules.offers.numbers may.1 may.2))
        (subst (λ (o : Option (ℕ × Offer)). row_holds plan day i (of_grant (option_map grant_of o)) ≡ true)
        (sym (found-alter (is_grant plan day c rows rows owner n) (λ r. r.0 == b && r.1.n == x.n)
        (λ r. (r.0, record r.1 { withdrawn = true })) (λ r. refl) rows.offers))
        (grant_altered (λ r. r.0 == b && r.1.n == x.n) i (find (is_grant plan day c rows rows owner n) rows.offers) h))

    pub still_shown : (put : Put) (ch : VaultChange) → RowMayBePut put ch (own_of b mine rows)
        → Still plan day c rows (own_changed b ch rows)
    still_shown put (TapeRow t) may = λ i s h. h
    still_shown put (ClipRow k) may =
        by_tables plan day c rows (own_changed b (ClipRow k) rows) (λ i n h. clip_put put k may i n h)
        (λ i owner n h. h)
    still_shown put (OfferRow o) may =
        by_tables plan day c rows (own_changed b (OfferRow o) rows) (λ i n h. h)
        (λ i owner n h. grant_put put o may i owner n h)

-- the days keep their rules whatever is changed of own rows
pub days-changed_own : (rows : Centre) (b : ℕ) (mine : PlanRow) (put : Put) (ch : VaultChange) → AreInOrder rows
    → KeepsOwnRules (own_of b mine rows) → RowMayBePut put ch (own_of b mine rows) → KeepsDays rows
    → KeepsDays (own_changed b ch rows)
days-changed_own rows b mine put (TapeRow t) order rules may days =
    record { table = days.table; each = days.each; seen = days.seen }
days-changed_own rows b mine put (ClipRow k) order rules may days =
    record {
      table = days.table;
      each = days.each;
      seen =
          λ c p known. days_still p (sources_seen (seen_by c p rows))
          (sources_seen (seen_by c p (own_changed b (ClipRow k) rows)))
          (λ day. still_shown p day c b rows order mine rules put (ClipRow k) may) 0 (rows_of c rows.days)
          (days.seen c p known);
    }
days-changed_own rows b mine put (OfferRow o) order rules may days =
    record {
      table = days.table;
      each = days.each;
      seen =
          λ c p known. days_still p (sources_seen (seen_by c p rows))
          (sources_seen (seen_by c p (own_changed b (OfferRow o) rows)))
          (λ day. still_shown p day c b rows order mine rules put (OfferRow o) may) 0 (rows_of c rows.days)
          (days.seen c p known);
    }
