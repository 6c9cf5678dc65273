-- How a row may be put among a channel's own rows.
use Rattle.std.specs.Prelude.{ℕ, List}
use Rattle.std.specs.Bool.{⊤}
use Rattle.vault_core.specs.declared.command.Put.{Put}
use Rattle.vault_core.specs.Own.{Own}
use Rattle.vault_core.specs.Command.{MayBePut, TapeMayBePut, ClipMayBePut}
use Rattle.grant_core.specs.Command.{OfferMayBePut}
use Rattle.channel_view_model.specs.declared.command.VaultChange.{VaultChange}
use Rattle.channel_view_model.specs.declared.command.VaultChange.TheVariants.{Tape as TapeRow, Clip as ClipRow}
use Rattle.channel_view_model.specs.declared.command.VaultChange.TheVariants.{Offer as OfferRow}

-- as each command puts it
abbrev pub RowMayBePut : Put → VaultChange → Own → Type 0
RowMayBePut put (TapeRow t) own = TapeMayBePut put t own
RowMayBePut put (ClipRow k) own = ClipMayBePut put k own
RowMayBePut put (OfferRow o) own = OfferMayBePut put o own

-- by its number alone
abbrev pub IsPutAmong : {R : Type 0} → (R → ℕ) → Put → R → List R → Type 0
IsPutAmong number put row rows = MayBePut number (λ before after. ⊤) put row rows
