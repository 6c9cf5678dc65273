-- What is at hand of rows: what is asked of it beside days, and what a change leaves of it.
use Rattle.std.proofs.Common.{◌≡◌, ◌≢◌, ℕ, false, Result, Ok, Err, OnOk, OnErr, refl, sym, ◌∙◌, subst}
use Rattle.std.specs.Prelude.{Option, Some, None, is_err, IfSome}
use Rattle.vault_core.specs.declared.command.Put.{Put}
use Rattle.channel_view_model.specs.declared.command.Change.{Change}
use Rattle.channel_view_model.specs.declared.command.Change.TheVariants.{Nothing, Vault as OnVault, Day as OnDay}
use Rattle.channel_view_model.specs.declared.command.Change.TheVariants.{Airing as OnAiring}
use Rattle.channel_view_model.specs.declared.command.VaultChange.{VaultChange}
use Rattle.channel_view_model.specs.declared.need.Need.{Need}
use Rattle.channel_view_model.specs.declared.part.Part.{Part}
use Rattle.channel_view_model.specs.declared.view.View.{View}
use Rattle.channel_view_model.specs.Centre.{Centre, IsChangeOf, changed, view_of}
use Rattle.channel_view_model.specs.Need.{IsFetched, AreSourceAnswers, names_asked}
use Rattle.channel_view_model.proofs.RuleLemmas.{change_keeps}
use Rattle.rows_at_hand.specs.declared.vaults.Vaults.{Vaults}
use Rattle.rows_at_hand.specs.Known.{AsksBeside, with_airing, with_day}
use Rattle.rows_at_hand.specs.Vaults.{vaults_in}
use Rattle.rows_at_hand.specs.AtHand.{AreVaultsOf, of_days}

-- what is known of what is at hand is known of the rows
pub rules_at_hand : (rows : Centre) (o : Option Vaults) (vaults : Vaults) → o ≡ Some vaults
    → IfSome o (AreVaultsOf rows) → AreVaultsOf rows vaults
rules_at_hand rows o vaults is at = subst (λ v. IfSome v (AreVaultsOf rows)) is at

-- what follows from a success, and from a failure
pub ok_so : {X E P : Type 0} (r : Result X E) → P → OnOk r P
ok_so (Ok x) p = p
ok_so (Err e) p = tt

pub err_never : {X E : Type 0} (r : Result X E) (P : Type 0) → is_err r ≡ false → OnErr r P
err_never (Ok x) P is = tt
err_never (Err e) P is = absurd (cc)

pub ok_both : {X E P Q R : Type 0} (r : Result X E) → (P → Q → R) → OnOk r P → OnOk r Q → OnOk r R
ok_both (Ok x) so p q = so p q
ok_both (Err e) so p q = tt

pub err_both : {X E P Q R : Type 0} (r : Result X E) → (P → Q → R) → OnErr r P → OnErr r Q → OnErr r R
err_both (Ok x) so p q = tt
err_both (Err e) so p q = so p q

-- ---- what is asked

-- a part of days, and a part of the vaults that has what is asked for beside these, are the part of both
pub both_parts : (rows : Centre) (c : ℕ) (need beside : Need) (days : Part) (part : Option Part)
    → IsFetched (of_days need) (view_of c rows) (Some days) → AsksBeside days.day need beside
    → IsFetched (record beside { aired = None }) (view_of c rows) part
    → IsFetched need (view_of c rows) (with_airing days.aired (with_day days.day part))
both_parts rows c need beside days part of asks fetched =
    by (view_of c rows) part of
    (subst (λ n. IsFetched (record n { aired = None }) (view_of c rows) part) asks.others fetched)
  where
    by : (v : Option View) (o : Option Part) → IsFetched (of_days need) v (Some days)
        → IsFetched (record need { day = None; items = beside.items; aired = None }) v o
        → IsFetched need v (with_airing days.aired (with_day days.day o))
    by None o d f = absurd d
    by (Some v) None d f = absurd f
    by (Some v) (Some it) d f = record {
      plan = f.plan;
      tapes = f.tapes;
      clips = f.clips;
      offers = f.offers;
      day = d.day;
      aired = d.aired;
      sources =
          subst
          (λ items. AreSourceAnswers need.sources items (names_asked need.named) v.own.clips v.lent
          it.sources.clips.items it.sources.grants.items) (asks.items it.day) f.sources;
    }

-- where the store below has no part, there is none
pub none_of_both : (view : Option View) (need other : Need) → IsFetched other view None → IsFetched need view None
none_of_both None need other fetched = fetched
none_of_both (Some v) need other fetched = absurd fetched

-- ---- what a change makes of it

-- one of another kind leaves the vaults
vaults_stay : (rows : Centre) (c : ℕ) (change : Change) → ((put : Put) (own : VaultChange) → change ≢ OnVault put own)
    → vaults_in (changed c change rows) ≡ vaults_in rows
unfolding changed
vaults_stay rows c Nothing other = refl
vaults_stay rows c (OnVault put own) other = absurd (other put own refl)
vaults_stay rows c (OnDay day) other = refl
vaults_stay rows c (OnAiring airing) other = refl

pub others_followed : (rows : Centre) (vaults : Vaults) (c : ℕ) (change : Change)
    → ((put : Put) (own : VaultChange) → change ≢ OnVault put own) → AreVaultsOf rows vaults → IsChangeOf c change rows
    → AreVaultsOf (changed c change rows) vaults
others_followed rows vaults c change other at is =
    record { rules = change_keeps rows c change at.rules is; are = at.are ∙ sym (vaults_stay rows c change other) }
