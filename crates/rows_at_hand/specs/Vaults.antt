-- The vaults of a set of rows: of each channel of the plan its row there, its tapes, its clips and its offers.
use Rattle.std.specs.Prelude.{◌≡◌, ◌==◌, ℕ, List, [], Bool, true, false, Option, Some, None, map, filter, find}
use Rattle.std.specs.List.{flat_map}
use Rattle.channel_plan.specs.declared.plan.PlanRow.{PlanRow}
use Rattle.vault_core.specs.declared.clip.Clip.{Clip}
use Rattle.grant_core.specs.declared.grant.Grant.{Grant}
use Rattle.playlist_core.specs.declared.source.SourcesFound.{SourcesFound}
use Rattle.channel_view_model.specs.declared.need.Need.{Need}
use Rattle.channel_view_model.specs.declared.part.Part.{Part}
use Rattle.channel_view_model.specs.declared.table.Table.{Table}
use Rattle.channel_view_model.specs.declared.table.Table.TheVariants.{Vault as VaultTable, Clips, Offers, Lent, Days}
use Rattle.channel_view_model.specs.Tables.{rows_alone}
use Rattle.channel_view_model.specs.Seen.{grants_to}
use Rattle.channel_view_model.specs.Centre.{Centre, plan_of}
use Rattle.channel_view_model.specs.Rules.{KeepsRules}
use Rattle.channel_view.specs.Walks.{walks_far}
use Rattle.rows_at_hand.specs.declared.vaults.Vault.{Vault}

-- of a set the rows of channel c alone, without its days and what was aired of them
abbrev pub own_rows : ℕ → Centre → Centre
own_rows c rows =
    record {
      channels = filter (λ p. p.ch == c) rows.channels;
      tapes = filter (λ r. r.0 == c) rows.tapes;
      clips = filter (λ r. r.0 == c) rows.clips;
      offers = filter (λ r. r.0 == c) rows.offers;
      days = [];
      aired = [];
    }

abbrev pub vault_of : ℕ → Centre → Vault
vault_of c rows = record { channel = c; rows = own_rows c rows }

-- the vault of each channel of the plan
abbrev pub vaults_in : Centre → List Vault
vaults_in rows = map (λ p. vault_of p.ch rows) rows.channels

-- the rows keep the rules, and these are their vaults
pub record AreVaults (rows : Centre) (vaults : List Vault) : Type 0 where
  pub rules : KeepsRules rows
  pub are : vaults ≡ vaults_in rows

-- the vaults are those of a plan that has channel c
abbrev pub HasChannel : ℕ → List Vault → Type 0
HasChannel c vaults = (rows : Centre) × (p : PlanRow) × AreVaults rows vaults × (plan_of c rows ≡ Some p)

-- the vault of channel c, if it has one
abbrev pub vault_at : ℕ → List Vault → Option Vault
vault_at c vaults = find (λ v. v.channel == c) vaults

-- its clips
abbrev pub vault_clips : Option Vault → List Clip
vault_clips None = []
vault_clips (Some vault) = rows_alone vault.rows.clips

-- the offers in all vaults that are to channel c
abbrev pub lent_in : ℕ → List Vault → List Grant
lent_in c vaults = flat_map (λ v. grants_to c v.rows.offers) vaults

-- what is asked for walks over many of the vault's rows
abbrev pub walks_far_in : ℕ → Need → Option Vault → Bool
walks_far_in c need None = false
walks_far_in c need (Some vault) = walks_far c need vault.rows

-- a part with these in it as what sources name
abbrev pub with_sources : SourcesFound → Option Part → Option Part
with_sources sources None = None
with_sources sources (Some part) = Some (record part { sources = sources })

-- a table of vaults alone
abbrev pub is_at_hand : Table → Bool
is_at_hand VaultTable = true
is_at_hand Clips = true
is_at_hand Offers = true
is_at_hand Lent = true
is_at_hand Days = false
