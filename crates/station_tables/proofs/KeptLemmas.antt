-- The plan that a store keeps of the rows that it stands for.
use Rattle.std.proofs.Common.{◌≡◌, ℕ, List, Option, find, Result, Ok, Err, IfOk, OnErr, refl, sym, ap, ◌∙◌}
use Rattle.std.specs.Prelude.{◌==◌}
use Rattle.channel_plan.specs.declared.plan.PlanRow.{PlanRow}
use Rattle.channel_view_model.specs.Centre.{Centre, changed, plan_of}
use Rattle.channel_view_model.specs.declared.command.Change.{Change}
use Rattle.channel_view_model.specs.declared.command.Change.TheVariants.{Nothing, Vault as OnVault, Day as OnDay}
use Rattle.channel_view_model.specs.declared.command.Change.TheVariants.{Airing as OnAiring}
use Rattle.channel_view_model.specs.declared.command.VaultChange.TheVariants.{Tape as TapeRow, Clip as ClipRow}
use Rattle.channel_view_model.specs.declared.command.VaultChange.TheVariants.{Offer as OfferRow}

-- no change is one of the plan
pub channels-changed : (c : ℕ) (change : Change) (rows : Centre) → (changed c change rows).channels ≡ rows.channels
unfolding changed
channels-changed c Nothing rows = refl
channels-changed c (OnVault put (TapeRow t)) rows = refl
channels-changed c (OnVault put (ClipRow k)) rows = refl
channels-changed c (OnVault put (OfferRow o)) rows = refl
channels-changed c (OnDay change) rows = refl
channels-changed c (OnAiring airing) rows = refl

-- the row that is found in the plan that is kept is the channel's row of the plan
pub kept_row : (c : ℕ) (rows : Centre) (kept read : List PlanRow) (found : Option PlanRow) → rows.channels ≡ kept
    → read ≡ kept → found ≡ find (λ p. p.ch == c) read → plan_of c rows ≡ found
kept_row c rows kept read found same is row = ap (λ plan. find (λ p. p.ch == c) plan) (same ∙ sym is) ∙ sym row

-- what two clauses say of a success
pub ok_both : {X E : Type 0} (r : Result X E) {P Q R : X → Type 0} → ((x : X) → P x → Q x → R x) → IfOk r P → IfOk r Q
    → IfOk r R
ok_both (Ok x) joins p q = joins x p q
ok_both (Err e) joins p q = tt

-- what follows from a failure
pub on_err_so : {X E : Type 0} (r : Result X E) {Q P : Type 0} → OnErr r Q → (Q → P) → OnErr r P
on_err_so (Ok x) is says = tt
on_err_so (Err e) is says = says is
