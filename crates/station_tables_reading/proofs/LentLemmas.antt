-- The lent clip of an owner's offer, among all that are lent to a channel.
use Rattle.std.proofs.Common.{◌≡◌, ℕ, Bool, true, false, cond, ◌&&◌, List, [], ◌∷◌, map, filter, Option, Some, None}
use Rattle.std.proofs.Common.{Less, refl, sym, ap, ◌∙◌, arith}
use Rattle.std.specs.Prelude.{◌==◌, find, if◌then◌else◌}
use Rattle.std.specs.List.{AllByRecursion}
use Rattle.std.specs.Option.{option_map}
use Rattle.std.proofs.lemmas.Bool.Decides.{nat_tests}
use Rattle.sqlite.specs.State.{State}
use Rattle.vault_core.specs.declared.offer.Offer.{Offer}
use Rattle.grant_core.specs.declared.grant.Grant.{Grant}
use Rattle.channel_view_model.specs.Seen.{grant_of, grants_to}
use Rattle.station_tables_records.specs.declared.offer_rows.SpanRow.{SpanRow}
use Rattle.station_tables_records.specs.MadeDays.{Rise}
use Rattle.station_tables_records.specs.MadeOffers.{offer_made}
use Rattle.station_tables_records.specs.OfferRows.{offer_cmp}
use Rattle.station_tables_records.specs.OfferRows.{offer_table}
use Rattle.station_tables_records.specs.TablePairs.{offer_rows_in}
use Rattle.station_tables_statements.specs.Rows.{offers_in}
use Rattle.station_tables_records.specs.Table.{IsTypedIn}
use Rattle.station_tables_reading.specs.Lent.{lent_to}
use Rattle.station_tables_records.proofs.OfferRowLemmas.{offer_table_is}
use Rattle.station_tables_records.proofs.DayLemmas.{rows_rise}

module _ (c owner n : ℕ) where
  abbrev mine : ℕ × Offer → Bool
  mine r = r.0 == owner && r.1.n == n

  abbrev of_mine : Grant → Bool
  of_mine g = g.owner == owner && g.offer.n == n

  none_to : (rs : List (ℕ × Offer)) → AllByRecursion (λ s. mine s ≡ false) rs → find of_mine (grants_to c rs) ≡ None
  none_to [] none = refl
  none_to (r ∷ rs) none = by (r.1.grantee == c) (none_to rs none.1)
    where
      by : (b : Bool) → find of_mine (grants_to c rs) ≡ None
          → find of_mine
          (map grant_of (cond b (r ∷ filter (λ s. s.1.grantee == c) rs) (filter (λ s. s.1.grantee == c) rs))) ≡ None
      by true rest = ap (λ m. cond m (Some (grant_of r)) (find of_mine (grants_to c rs))) none.0 ∙ rest
      by false rest = rest

  none_after : (r : ℕ × Offer) (rs : List (ℕ × Offer)) → mine r ≡ true → AllByRecursion (λ s. offer_cmp r s ≡ Less) rs
      → AllByRecursion (λ s. mine s ≡ false) rs
  none_after r [] here below = tt
  none_after r (s ∷ rs) here below =
      (let less = below.0 in grind (arith, nat_tests, here, less), none_after r rs here below.1)

  -- keys differ, so it is the owner's offer of this number, if that is to the channel
  pub lent_found : (offers : List (ℕ × Offer)) → Rise offer_cmp offers
      → find of_mine (grants_to c offers) ≡ lent_to c (find mine offers)
  lent_found [] rise = refl
  lent_found (r ∷ rs) rise = by (mine r) (r.1.grantee == c) refl refl (lent_found rs rise.1)
    where
      after : mine r ≡ true → AllByRecursion (λ s. mine s ≡ false) rs
      after here = none_after r rs here rise.0

      by : (m q : Bool) → mine r ≡ m → (r.1.grantee == c) ≡ q → find of_mine (grants_to c rs) ≡ lent_to c (find mine rs)
          → find of_mine
          (map grant_of (cond q (r ∷ filter (λ s. s.1.grantee == c) rs) (filter (λ s. s.1.grantee == c) rs)))
          ≡ lent_to c (cond m (Some r) (find mine rs))
      by true true here to rest =
          ap (λ b. cond b (Some (grant_of r)) (find of_mine (grants_to c rs))) here
          ∙ sym (ap (λ b. if b then Some (grant_of r) else None) to)
      by true false here to rest = none_to rs (after here) ∙ sym (ap (λ b. if b then Some (grant_of r) else None) to)
      by false true other to rest = ap (λ b. cond b (Some (grant_of r)) (find of_mine (grants_to c rs))) other ∙ rest
      by false false other to rest = rest

  passes : (offers : List (ℕ × Offer)) (r : ℕ × Offer) → find mine offers ≡ Some r → mine r ≡ true
  passes [] r found = absurd (cc)
  passes (o ∷ os) r found = by (mine o) refl (passes os r) found
    where
      by : (b : Bool) → mine o ≡ b → (find mine os ≡ Some r → mine r ≡ true) → cond b (Some o) (find mine os) ≡ Some r
          → mine r ≡ true
      by true here rest is = let same : o ≡ r = cc in ap mine (sym same) ∙ here
      by false other rest is = rest is

  -- the offer that is found, beside its owner again
  pub lent_is : (offers : List (ℕ × Offer)) → Rise offer_cmp offers
      → lent_to c (option_map (λ (o : Offer). (owner, o)) (option_map (λ (r : ℕ × Offer). r.1) (find mine offers)))
      ≡ find of_mine (grants_to c offers)
  lent_is offers rise = keyed (find mine offers) refl ∙ sym (lent_found offers rise)
    where
      keyed : (o : Option (ℕ × Offer)) → find mine offers ≡ o
          → lent_to c (option_map (λ (x : Offer). (owner, x)) (option_map (λ (r : ℕ × Offer). r.1) o)) ≡ lent_to c o
      keyed None is = refl
      keyed (Some r) is =
          let here : mine r ≡ true = passes offers r is in
          let ch : r.0 ≡ owner = grind (arith, nat_tests, here) in
          ap (λ k. lent_to c (Some (k, r.1))) (sym ch)

below_made : (spans : List (ℕ × SpanRow)) (o : ℕ × Offer) (os : List (ℕ × Offer))
    → AllByRecursion (λ s. offer_cmp o s ≡ Less) os
    → AllByRecursion (λ s. offer_cmp (offer_made spans o) s ≡ Less) (map (offer_made spans) os)
below_made spans o [] below = tt
below_made spans o (s ∷ os) below = (below.0, below_made spans o os below.1)

made_rise : (spans : List (ℕ × SpanRow)) (os : List (ℕ × Offer)) → Rise offer_cmp os
    → Rise offer_cmp (map (offer_made spans) os)
made_rise spans [] rise = tt
made_rise spans (o ∷ os) rise = (below_made spans o os rise.0, made_rise spans os rise.1)

pub offers_rise : (s : State) → IsTypedIn offer_table s.now.trees → Rise offer_cmp (offers_in s.now.trees)
offers_rise s typed =
    made_rise (offer_rows_in s.now.trees).spans (offer_rows_in s.now.trees).offers
    (rows_rise offer_table offer_table_is s.now.trees typed)
