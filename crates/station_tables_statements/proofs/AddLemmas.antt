-- A row that a command puts: the number of one more is new in its channel, and above the others; one in the place of
-- another changes that alone.
use Rattle.std.proofs.Common.{◌≡◌, ℕ, ◌∷◌, [], ◌++◌, true, sym, ◌∙◌, ap, subst}
use Rattle.std.specs.Prelude.{◌==◌}
use Rattle.sqlite_keyed.specs.Lists.{insert_sorted}
use Rattle.vault_core.specs.declared.tape.Tape.{Tape}
use Rattle.vault_core.specs.declared.clip.Clip.{Clip}
use Rattle.vault_core.specs.declared.offer.Offer.{Offer}
use Rattle.vault_core.specs.declared.command.Put.{Put}
use Rattle.vault_core.specs.declared.command.Put.TheVariants.{Added, Changed}
use Rattle.vault_core.specs.Rules.{is_numbered_from, KeepsOwnRules}
use Rattle.vault_core.proofs.AgainLemmas.{has_its_number}
use Rattle.vault_core.proofs.PutLemmas.{put_last}
use Rattle.channel_view_model.specs.declared.command.Change.TheVariants.{Vault as OnVault}
use Rattle.channel_view_model.specs.declared.command.VaultChange.{VaultChange}
use Rattle.channel_view_model.specs.declared.command.VaultChange.TheVariants.{Tape as TapeRow, Clip as ClipRow}
use Rattle.channel_view_model.specs.declared.command.VaultChange.TheVariants.{Offer as OfferRow}
use Rattle.channel_view_model.specs.Puts.{RowMayBePut}
use Rattle.channel_view_model.specs.Tables.{rows_of, alter_row}
use Rattle.channel_view_model.specs.Decide.{own_after}
use Rattle.channel_view_model.specs.Centre.{Centre, own_of, changed, IsChangeOf}
use Rattle.channel_view_model.specs.Rules.{KeepsRules}
use Rattle.channel_view_model.proofs.PutRowLemmas.{replace_adds, replace_alters}
use Rattle.channel_view_model.proofs.RuleLemmas.{in_order, own_left}
use Rattle.station_tables_records.specs.TapeRows.{tape_cmp, LacksTape}
use Rattle.station_tables_records.specs.ClipRows.{clip_cmp, LacksClip}
use Rattle.station_tables_records.specs.OfferRows.{offer_cmp, LacksOffer}
use Rattle.station_tables_statements.specs.Rows.{on_tapes, on_clips, on_offers}
use Rattle.station_tables_statements.proofs.ViewLemmas.{added_is_new, add_is_insert}

-- what a command's change is, and what it leaves
module _ (c : ℕ) (put : Put) (change : VaultChange) (rows : Centre) (rules : KeepsRules rows)
    (is : IsChangeOf c (OnVault put change) rows) where
  left : KeepsOwnRules (own_after change (own_of c is.1 rows)) × RowMayBePut put change (own_of c is.1 rows)
  left = own_left rows c (OnVault put change) rules is

  before : KeepsOwnRules (own_of c is.1 rows)
  before = rules.own c is.1 is.2

module _ (c : ℕ) (t : Tape) (rows : Centre) (rules : KeepsRules rows)
    (is : IsChangeOf c (OnVault Added (TapeRow t)) rows) where
  numbered_tapes : is_numbered_from (λ (u : Tape). u.n) 1 (rows_of c rows.tapes ++ t ∷ []) ≡ true
  numbered_tapes =
      subst (λ l. is_numbered_from (λ (u : Tape). u.n) 1 l ≡ true)
      (put_last (λ (u : Tape). u.n) (rows_of c rows.tapes) 1 t (before c Added (TapeRow t) rows rules is).numbers
      (left c Added (TapeRow t) rows rules is).1)
      (left c Added (TapeRow t) rows rules is).0.numbers

  -- no tape of the channel has its number
  pub is_new : LacksTape c t.n rows.tapes
  is_new = added_is_new (λ (t : Tape). t.n) c t rows.tapes numbered_tapes

  -- the set after the change is the one with the tape's row put in its place
  pub adds_in_order : on_tapes (insert_sorted tape_cmp (c, t)) rows ≡ changed c (OnVault Added (TapeRow t)) rows
  unfolding changed
  adds_in_order = λ i. record rows {
    tapes = (add_is_insert (λ (t : Tape). t.n) c t rows.tapes numbered_tapes
        ∙ sym
        (replace_adds (λ (t : Tape). t.n) c 1 t rows.tapes (before c Added (TapeRow t) rows rules is).numbers
        (left c Added (TapeRow t) rows rules is).1)) i;
  }

pub tape_in_place : (c : ℕ) (t : Tape) (rows : Centre) → KeepsRules rows
    → IsChangeOf c (OnVault Changed (TapeRow t)) rows
    → on_tapes (alter_row c (λ u. u.n == t.n) (λ u. record t { n = u.n })) rows
    ≡ changed c (OnVault Changed (TapeRow t)) rows
unfolding changed
tape_in_place c t rows rules is =
    let may = (left c Changed (TapeRow t) rows rules is).1 in
    let same : record t { n = may.0.n } ≡ t =
    ap (λ m. record t { n = m }) (has_its_number (λ (u : Tape). u.n) t.n (rows_of c rows.tapes) may.0 may.1) in
    λ i. record rows {
      tapes =
          sym
          (replace_alters (λ (u : Tape). u.n) c (λ u. record t { n = u.n }) 1 t may.0 rows.tapes (in_order rows rules).0
          (before c Changed (TapeRow t) rows rules is).numbers may.1 same) i;
    }

module _ (c : ℕ) (k : Clip) (rows : Centre) (rules : KeepsRules rows)
    (is : IsChangeOf c (OnVault Added (ClipRow k)) rows) where
  numbered_clips : is_numbered_from (λ (u : Clip). u.n) 1 (rows_of c rows.clips ++ k ∷ []) ≡ true
  numbered_clips =
      subst (λ l. is_numbered_from (λ (u : Clip). u.n) 1 l ≡ true)
      (put_last (λ (u : Clip). u.n) (rows_of c rows.clips) 1 k (before c Added (ClipRow k) rows rules is).clips.numbers
      (left c Added (ClipRow k) rows rules is).1)
      (left c Added (ClipRow k) rows rules is).0.clips.numbers

  pub clip_is_new : LacksClip c k.n rows.clips
  clip_is_new = added_is_new (λ (k : Clip). k.n) c k rows.clips numbered_clips

  pub clip_adds_in_order : on_clips (insert_sorted clip_cmp (c, k)) rows ≡ changed c (OnVault Added (ClipRow k)) rows
  unfolding changed
  clip_adds_in_order = λ i. record rows {
    clips = (add_is_insert (λ (k : Clip). k.n) c k rows.clips numbered_clips
        ∙ sym
        (replace_adds (λ (k : Clip). k.n) c 1 k rows.clips (before c Added (ClipRow k) rows rules is).clips.numbers
        (left c Added (ClipRow k) rows rules is).1)) i;
  }

pub clip_in_place : (c : ℕ) (k : Clip) (rows : Centre) → KeepsRules rows
    → IsChangeOf c (OnVault Changed (ClipRow k)) rows
    → on_clips (alter_row c (λ u. u.n == k.n) (λ u. record u { retired = true })) rows
    ≡ changed c (OnVault Changed (ClipRow k)) rows
unfolding changed
clip_in_place c k rows rules is =
    let may = (left c Changed (ClipRow k) rows rules is).1 in
    λ i. record rows {
      clips =
          sym
          (replace_alters (λ (u : Clip). u.n) c (λ u. record u { retired = true }) 1 k may.0 rows.clips
          (in_order rows rules).1 (before c Changed (ClipRow k) rows rules is).clips.numbers may.1 may.2) i;
    }

module _ (c : ℕ) (o : Offer) (rows : Centre) (rules : KeepsRules rows)
    (is : IsChangeOf c (OnVault Added (OfferRow o)) rows) where
  numbered_offers : is_numbered_from (λ (u : Offer). u.n) 1 (rows_of c rows.offers ++ o ∷ []) ≡ true
  numbered_offers =
      subst (λ l. is_numbered_from (λ (u : Offer). u.n) 1 l ≡ true)
      (put_last (λ (u : Offer). u.n) (rows_of c rows.offers) 1 o
      (before c Added (OfferRow o) rows rules is).offers.numbers (left c Added (OfferRow o) rows rules is).1.0)
      (left c Added (OfferRow o) rows rules is).0.offers.numbers

  pub offer_is_new : LacksOffer c o.n rows.offers
  offer_is_new = added_is_new (λ (o : Offer). o.n) c o rows.offers numbered_offers

  pub offer_adds_in_order : on_offers (insert_sorted offer_cmp (c, o)) rows
      ≡ changed c (OnVault Added (OfferRow o)) rows
  unfolding changed
  offer_adds_in_order = λ i. record rows {
    offers = (add_is_insert (λ (o : Offer). o.n) c o rows.offers numbered_offers
        ∙ sym
        (replace_adds (λ (o : Offer). o.n) c 1 o rows.offers (before c Added (OfferRow o) rows rules is).offers.numbers
        (left c Added (OfferRow o) rows rules is).1.0)) i;
  }

pub offer_in_place : (c : ℕ) (o : Offer) (rows : Centre) → KeepsRules rows
    → IsChangeOf c (OnVault Changed (OfferRow o)) rows
    → on_offers (alter_row c (λ u. u.n == o.n) (λ u. record u { withdrawn = true })) rows
    ≡ changed c (OnVault Changed (OfferRow o)) rows
unfolding changed
offer_in_place c o rows rules is =
    let may = (left c Changed (OfferRow o) rows rules is).1 in
    λ i. record rows {
      offers =
          sym
          (replace_alters (λ (u : Offer). u.n) c (λ u. record u { withdrawn = true }) 1 o may.0 rows.offers
          (in_order rows rules).2 (before c Changed (OfferRow o) rows rules is).offers.numbers may.1 may.2) i;
    }
