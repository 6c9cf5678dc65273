-- `Vaults::vault`: the channel's vault, if it has one.
use Rattle.std.proofs.Common.{◌∙◌, ap, sym}
use Rattle.std.specs.Prelude.{◌==◌, slice_get}
use Rattle.channel_view_rules.proofs.BisectLemmas.{first_found}
use Rattle.rows_at_hand.specs.Vaults.{vault_at}
use Rattle.rows_at_hand.proofs.vaults.Vaults.vault.Goals as goal

pub returns : goal.returns
returns c =
    c.first.ensures.value ∙ ap (λ l. slice_get l 0) c.channel_rows.ensures
    ∙ sym (first_found (λ v. v.channel == c.args.channel) c.deref.result.now)
    ∙ ap (vault_at c.args.channel) c.deref.ensures.value
