-- A command on own rows that is sent again, right after it was done: it is refused, as done already.
use Rattle.std.proofs.Common.{◌≡◌, ◌⊎◌, refl, ap, inl, inr}
use Rattle.std.specs.Prelude.{Result, Ok, Err}
use Rattle.channel_plan.specs.declared.refusal.Refusal.{Refusal}
use Rattle.channel_plan.specs.Refusal.{refused}
use Rattle.vault_core.specs.declared.tape.Tape.{Tape}
use Rattle.vault_core.specs.declared.clip.Clip.{Clip}
use Rattle.vault_core.specs.declared.offer.Offer.{Offer}
use Rattle.vault_core.specs.Own.{Own, own_seen}
use Rattle.vault_core.specs.Rules.{KeepsOwnRules}
use Rattle.vault_core.specs.Command.{tape_decided, tape_is_put, clip_decided, clip_is_put}
use Rattle.vault_core.proofs.CommandLemmas.{tape_once, clip_once}
use Rattle.grant_core.specs.Command.{offer_decided, offer_is_put}
use Rattle.grant_core.proofs.CommandLemmas.{offer_once}
use Rattle.channel_view_model.specs.declared.command.VaultCommand.{VaultCommand}
use Rattle.channel_view_model.specs.declared.command.VaultCommand.TheVariants as asks
use Rattle.channel_view_model.specs.declared.command.Reply.TheVariants as replies
use Rattle.channel_view_model.specs.declared.command.Change.TheVariants.{Nothing, Vault as OnVault}
use Rattle.channel_view_model.specs.declared.command.VaultChange.TheVariants.{Tape as TapeRow, Clip as ClipRow}
use Rattle.channel_view_model.specs.declared.command.VaultChange.TheVariants.{Offer as OfferRow}
use Rattle.channel_view_model.specs.Decide.{Decided, answered, vault_decision}
use Rattle.channel_view_model.specs.Solo.{changed_own}
use Rattle.channel_view_laws.specs.Again.{own_done}

-- what comes of a command that is done again: it changed nothing, or it is refused as done
abbrev pub OwnAgain : VaultCommand → Decided → Own → Type 0
OwnAgain q d own =
    (d.1 ≡ Nothing)
    ⊎ (vault_decision (own_seen (changed_own d.1 own)) q ≡ (replies.Refused (refused (own_done q)), Nothing))

pub own_again : (own : Own) (q : VaultCommand) → KeepsOwnRules own → OwnAgain q (vault_decision (own_seen own) q) own
unfolding vault_decision
own_again own (asks.Tape q) rules = by (tape_decided (own_seen own) q) refl
  where
    by : (r : Result Tape Refusal) → tape_decided (own_seen own) q ≡ r
        → OwnAgain (asks.Tape q) (answered (λ t. (replies.Tape t.n, OnVault (tape_is_put q) (TapeRow t))) r) own
    by (Ok t) is =
        inr (ap (answered (λ t. (replies.Tape t.n, OnVault (tape_is_put q) (TapeRow t)))) (tape_once own q t rules is))
    by (Err e) is = inl refl
own_again own (asks.Clip q) rules = by (clip_decided (own_seen own) q) refl
  where
    by : (r : Result Clip Refusal) → clip_decided (own_seen own) q ≡ r
        → OwnAgain (asks.Clip q) (answered (λ k. (replies.Clip k.n, OnVault (clip_is_put q) (ClipRow k))) r) own
    by (Ok k) is =
        inr (ap (answered (λ k. (replies.Clip k.n, OnVault (clip_is_put q) (ClipRow k)))) (clip_once own q k rules is))
    by (Err e) is = inl refl
own_again own (asks.Offer q) rules = by (offer_decided (own_seen own) q) refl
  where
    by : (r : Result Offer Refusal) → offer_decided (own_seen own) q ≡ r
        → OwnAgain (asks.Offer q) (answered (λ o. (replies.Offer o.n, OnVault (offer_is_put q) (OfferRow o))) r) own
    by (Ok o) is =
        inr
        (ap (answered (λ o. (replies.Offer o.n, OnVault (offer_is_put q) (OfferRow o)))) (offer_once own q o rules is))
    by (Err e) is = inl refl
