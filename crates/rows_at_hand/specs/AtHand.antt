-- What is at hand of a set of rows beside its days: its vaults.
use Rattle.vault_core.specs.Asked.{nothing_asked, no_clips_asked}
use Rattle.grant_core.specs.Asked.{no_offers_asked}
use Rattle.channel_view_model.specs.declared.need.Need.{Need}
use Rattle.channel_view_model.specs.Centre.{Centre}
use Rattle.channel_view_model.specs.Need.{of_own}
use Rattle.rows_at_hand.specs.declared.vaults.Vaults.{Vaults}
use Rattle.rows_at_hand.specs.Vaults.{AreVaults}

-- the rows keep the rules, and these are their vaults
abbrev pub AreVaultsOf : Centre → Vaults → Type 0
AreVaultsOf rows vaults = AreVaults rows vaults.each.items

-- what a need asks for of days, and nothing beside it
abbrev pub of_days : Need → Need
of_days need = record (of_own nothing_asked no_clips_asked no_offers_asked) { day = need.day; aired = need.aired }
