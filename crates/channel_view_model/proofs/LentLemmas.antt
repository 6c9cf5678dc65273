-- What a change of one channel's offers does to the clips that are lent to each channel.
use Rattle.std.proofs.Common.{◌≡◌, ℕ, List, [], ◌∷◌, ◌++◌, Bool, true, false, not, ◌&&◌, ◌+◌, refl, sym, ◌∙◌, ap, subst}
use Rattle.std.proofs.Common.{arith}
use Rattle.std.specs.Prelude.{map, filter, find, length, count_by, ◌==◌, nat_lt, if◌then◌else◌}
use Rattle.std.specs.List.{list_any, list_all, flat_map}
use Rattle.std.proofs.lemmas.Bool.Decides.{nat_tests}
use Rattle.std.proofs.lemmas.List.{append-nil, length-map}
use Rattle.std.proofs.lemmas.List.Sums.{length-filter}
use Rattle.channel_plan.specs.declared.plan.PlanRow.{PlanRow}
use Rattle.vault_core.specs.declared.clip.Clip.{Clip}
use Rattle.vault_core.specs.declared.offer.Offer.{Offer}
use Rattle.vault_core.specs.Questions.{alter, replaced}
use Rattle.vault_core.specs.declared.command.Put.{Put}
use Rattle.vault_core.specs.declared.command.Put.TheVariants.{Added, Changed}
use Rattle.vault_core.specs.Own.{Own}
use Rattle.vault_core.specs.Rules.{is_numbered_from, is_offer, KeepsOwnRules}
use Rattle.grant_core.specs.declared.grant.Grant.{Grant}
use Rattle.grant_core.specs.Command.{OfferMayBePut}
use Rattle.report_texts.specs.Lent.{lent_line}
use Rattle.channel_view_model.specs.declared.command.VaultChange.{VaultChange}
use Rattle.channel_view_model.specs.declared.command.VaultChange.TheVariants.{Tape as TapeRow, Clip as ClipRow}
use Rattle.channel_view_model.specs.declared.command.VaultChange.TheVariants.{Offer as OfferRow}
use Rattle.channel_view_model.specs.Tables.{Table, rows_of, put, add_row, alter_row, replace_row, is_in_order}
use Rattle.channel_view_model.specs.Seen.{grant_of, grants_to, grant_lines}
use Rattle.channel_view_model.specs.Decide.{own_after}
use Rattle.channel_view_model.specs.Centre.{Centre, own_of, own_changed}
use Rattle.channel_view_model.specs.Solo.{Granted, Withdrawn, lent_after, event_of_offer}
use Rattle.channel_view_model.specs.Puts.{RowMayBePut}
use Rattle.channel_view_model.proofs.PutRowLemmas.{replace_adds, replace_alters, any_numbered, put_holds}
use Rattle.channel_view_model.proofs.TableLemmas.{upward, filter-put_in, filter-put_out, map-put, filter-alter}
use Rattle.channel_view_model.proofs.TableLemmas.{map-alter, alter_nothing}

-- another channel's offer to c comes in its place
pub grants_to-add_in : (c b : ℕ) (o : Offer) (t : Table Offer) → is_in_order t ≡ true → (o.grantee == c) ≡ true
    → grants_to c (add_row b o t) ≡ put (λ h. nat_lt b h.owner) (record { owner = b; offer = o }) (grants_to c t)
grants_to-add_in c b o t order to =
    ap (map grant_of) (filter-put_in (λ r. nat_lt b r.0) (λ r. r.1.grantee == c) (b, o) to t (upward b t order))
    ∙ map-put (λ r. nat_lt b r.0) (λ h. nat_lt b h.owner) grant_of (λ r. refl) (b, o) (filter (λ r. r.1.grantee == c) t)

-- one to another channel leaves them
pub grants_to-add_out : (c b : ℕ) (o : Offer) (t : Table Offer) → (o.grantee == c) ≡ false
    → grants_to c (add_row b o t) ≡ grants_to c t
grants_to-add_out c b o t to =
    ap (map grant_of) (filter-put_out (λ r. nat_lt b r.0) (λ r. r.1.grantee == c) (b, o) to t)

abbrev pub taken_back : Offer → Offer
taken_back o = record o { withdrawn = true }

abbrev pub is_grant : ℕ → ℕ → Grant → Bool
is_grant b n g = g.owner == b && g.offer.n == n

abbrev pub grant_taken_back : Grant → Grant
grant_taken_back g = record g { offer = taken_back g.offer }

-- a withdrawal
pub grants_to-withdraw : (c b n : ℕ) (t : Table Offer)
    → grants_to c (alter_row b (λ o. o.n == n) taken_back t) ≡ alter (is_grant b n) grant_taken_back (grants_to c t)
grants_to-withdraw c b n t =
    ap (map grant_of)
    (filter-alter (λ r. r.1.grantee == c) (λ r. r.0 == b && r.1.n == n) (λ r. (r.0, taken_back r.1)) (λ r. refl) t)
    ∙ map-alter (λ r. r.0 == b && r.1.n == n) (λ r. (r.0, taken_back r.1)) grant_of (is_grant b n) grant_taken_back
    (λ r. refl) (λ r. refl) (filter (λ r. r.1.grantee == c) t)

-- whether it is of a clip that is lent to c can be seen in the owner's rows
is_grant-rows_of : (c b n : ℕ) (t : Table Offer)
    → list_any (is_grant b n) (grants_to c t) ≡ list_any (λ o. o.n == n && o.grantee == c) (rows_of b t)
is_grant-rows_of c b n [] = refl
is_grant-rows_of c b n (r ∷ rs) = grind (arith, nat_tests, is_grant-rows_of c b n rs)

pub grants_to-withdraw_out : (c b n : ℕ) (t : Table Offer)
    → list_any (λ o. o.n == n && o.grantee == c) (rows_of b t) ≡ false
    → grants_to c (alter_row b (λ o. o.n == n) taken_back t) ≡ grants_to c t
grants_to-withdraw_out c b n t none =
    grants_to-withdraw c b n t
    ∙ alter_nothing (is_grant b n) grant_taken_back (grants_to c t) (is_grant-rows_of c b n t ∙ none)

-- none of a channel's own offers is to itself
abbrev is_to_other : ℕ → Offer → Bool
is_to_other c o = not (o.grantee == c)

others : (c : ℕ) (plan : PlanRow) (ks : List Clip) (os : List Offer) → plan.ch ≡ c
    → list_all (is_offer plan ks) os ≡ true → list_all (is_to_other c) os ≡ true
others c plan ks [] is h = refl
others c plan ks (o ∷ os) is h =
    let one : (o.grantee == plan.ch) ≡ false = grind (arith, h) in
    let here : is_to_other c o ≡ true = ap (λ k. not (o.grantee == k)) (sym is) ∙ ap not one in
    grind (arith, here, others c plan ks os is (grind (arith, h)))

-- what another channel's row of an offer does to the clips that are lent to c, once it is put
module _ (c b : ℕ) (o : Offer) (own : Own) (t : Table Offer) (order : is_in_order t ≡ true)
    (theirs : own.offers ≡ rows_of b t) (numbers : is_numbered_from (λ (x : Offer). x.n) 1 own.offers ≡ true) where
  numbered : is_numbered_from (λ (x : Offer). x.n) 1 (rows_of b t) ≡ true
  numbered = subst (λ os. is_numbered_from (λ (x : Offer). x.n) 1 os ≡ true) theirs numbers

  adds : OfferMayBePut Added o own → replace_row (λ (x : Offer). x.n) b o t ≡ add_row b o t
  adds may = replace_adds (λ (x : Offer). x.n) b 1 o t numbered (may.0 ∙ ap (λ os. length os + 1) theirs)

  withdraws : OfferMayBePut Changed o own
      → replace_row (λ (x : Offer). x.n) b o t ≡ alter_row b (λ x. x.n == o.n) taken_back t
  withdraws may =
      replace_alters (λ (x : Offer). x.n) b taken_back 1 o may.0 t order numbered
      (ap (find (λ (x : Offer). x.n == o.n)) (sym theirs) ∙ may.1) may.2

  -- it is withdrawn
  is_withdrawn : OfferMayBePut Changed o own → o.withdrawn ≡ true
  is_withdrawn may = ap (λ (x : Offer). x.withdrawn) (sym may.2)

  -- one to c comes as the offer or the withdrawal that it is
  pub grants_to-put_in : (put : Put) → OfferMayBePut put o own → (o.grantee == c) ≡ true
      → grants_to c (replace_row (λ (x : Offer). x.n) b o t) ≡ lent_after (event_of_offer b o) (grants_to c t)
  unfolding lent_after
  grants_to-put_in Added may to =
      ap (grants_to c) (adds may) ∙ grants_to-add_in c b o t order to
      ∙ ap
      (λ w. lent_after (if w then Withdrawn b o.n else Granted (record { owner = b; offer = o })) (grants_to c t))
      (sym may.1)
  grants_to-put_in Changed may to =
      ap (grants_to c) (withdraws may) ∙ grants_to-withdraw c b o.n t
      ∙ ap
      (λ w. lent_after (if w then Withdrawn b o.n else Granted (record { owner = b; offer = o })) (grants_to c t))
      (sym (is_withdrawn may))

  -- one to another channel leaves them
  pub grants_to-put_out : (put : Put) → OfferMayBePut put o own → (o.grantee == c) ≡ false
      → grants_to c (replace_row (λ (x : Offer). x.n) b o t) ≡ grants_to c t
  grants_to-put_out Added may to = ap (grants_to c) (adds may) ∙ grants_to-add_out c b o t to
  grants_to-put_out Changed may to =
      let before : (may.0.grantee == c) ≡ false = ap (λ (x : Offer). x.grantee == c) may.2 ∙ to in
      ap (grants_to c) (withdraws may)
      ∙ grants_to-withdraw_out c b o.n t
      (any_numbered (λ (x : Offer). x.n) (λ x. x.grantee == c) (rows_of b t) 1 o.n may.0 numbered
      (ap (find (λ (x : Offer). x.n == o.n)) (sym theirs) ∙ may.1) ∙ before)

-- a channel's own change leaves what is lent to it
pub grants_to-changed_own : (c : ℕ) (p : PlanRow) (put : Put) (ch : VaultChange) (rows : Centre) → p.ch ≡ c
    → is_in_order rows.offers ≡ true → KeepsOwnRules (own_of c p rows) → RowMayBePut put ch (own_of c p rows)
    → KeepsOwnRules (own_after ch (own_of c p rows))
    → grants_to c (own_changed c ch rows).offers ≡ grants_to c rows.offers
grants_to-changed_own c p put (TapeRow t) rows is order before may kept = refl
grants_to-changed_own c p put (ClipRow k) rows is order before may kept = refl
grants_to-changed_own c p put (OfferRow o) rows is order before may kept =
    let other : is_to_other c o ≡ true =
    put_holds (λ (x : Offer). x.n) (is_to_other c) o (rows_of c rows.offers)
    (others c p (rows_of c rows.clips) (replaced (λ (x : Offer). x.n) o (rows_of c rows.offers)) is
    kept.offers.fields) in
    grants_to-put_out c c o (own_of c p rows) rows.offers order refl before.offers.numbers put may
    (grind (arith, other))

-- the lines of the offers that are to c are those of its lent table
pub lines_of_grants : (c : ℕ) (t : Table Offer) → flat_map (grant_lines c) t ≡ flat_map lent_line (grants_to c t)
lines_of_grants c [] = refl
lines_of_grants c (r ∷ rs) =
    elim (r.1.grantee == c)
    as (λ b. flat_map lent_line (map grant_of (if b then r ∷ [] else [])) ++ flat_map (grant_lines c) rs
    ≡ flat_map lent_line
    (map grant_of (if b then r ∷ filter (λ s. s.1.grantee == c) rs else filter (λ s. s.1.grantee == c) rs))) [
      | true ↦ ap (λ l. l ++ flat_map (grant_lines c) rs) (append-nil (lent_line (grant_of r)))
          ∙ ap (λ l. lent_line (grant_of r) ++ l) (lines_of_grants c rs)
      | false ↦ lines_of_grants c rs
    ]

pub grants_counted : (c : ℕ) (t : Table Offer) → count_by (λ r. r.1.grantee == c) t ≡ length (grants_to c t)
grants_counted c t =
    sym (length-map (filter (λ r. r.1.grantee == c) t) grant_of ∙ length-filter (λ r. r.1.grantee == c) t)
