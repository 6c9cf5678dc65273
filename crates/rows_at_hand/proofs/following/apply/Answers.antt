-- `apply`: knows of each day what it is after a change of the channel.
use Rattle.std.proofs.Common.{inl, refl, subst, sym}
use Rattle.channel_view_model.specs.Centre.{IsChangeOf, changed}
use Rattle.rows_at_hand.specs.Known.{AreKnown, KeepsOthers, kept_beside}
use Rattle.rows_at_hand.proofs.KnownLemmas.{known_after_nothing, known_after_own}
use Rattle.rows_at_hand.proofs.following.apply.Goals as goal

pub returns-in-Day-clause-known : goal.returns-in-Day-clause-known
returns-in-Day-clause-known c = λ rows known is.
    subst (λ ch. AreKnown (changed c.args.channel ch rows) c.follow_day.new.days.items) (sym c.in-Day.is)
    (c.follow_day.ensures.known rows known (subst (λ ch. IsChangeOf c.args.channel ch rows) c.in-Day.is is))

pub returns-in-Airing-clause-known : goal.returns-in-Airing-clause-known
returns-in-Airing-clause-known c = λ rows known is.
    subst (λ ch. AreKnown (changed c.args.channel ch rows) c.follow_airing.new.days.items) (sym c.in-Airing.is)
    (c.follow_airing.ensures.known rows known (subst (λ ch. IsChangeOf c.args.channel ch rows) c.in-Airing.is is))

pub returns-in-Nothing-clause-known : goal.returns-in-Nothing-clause-known
returns-in-Nothing-clause-known c = λ rows known is.
    let days = c.args.days.now.items in
    subst (λ ch. AreKnown (changed c.args.channel ch rows) days) (sym c.in-Nothing.is)
    (known_after_nothing rows c.args.channel days known)

pub returns-in-Vault-clause-known : goal.returns-in-Vault-clause-known
returns-in-Vault-clause-known c = λ rows known is.
    let days = c.args.days.now.items in
    subst (λ ch. AreKnown (changed c.args.channel ch rows) days) (sym c.in-Vault.is)
    (known_after_own rows c.args.channel c.in-Vault.field-0 c.in-Vault.field-1 days
    (subst (λ ch. IsChangeOf c.args.channel ch rows) c.in-Vault.is is) known)

pub returns-in-Day-clause-others : goal.returns-in-Day-clause-others
returns-in-Day-clause-others c =
    subst (λ ch. KeepsOthers (kept_beside c.args.channel ch c.args.days.now.items) c.follow_day.new.days.items)
    (sym c.in-Day.is) c.follow_day.ensures.others

pub returns-in-Airing-clause-others : goal.returns-in-Airing-clause-others
returns-in-Airing-clause-others c =
    subst (λ ch. KeepsOthers (kept_beside c.args.channel ch c.args.days.now.items) c.follow_airing.new.days.items)
    (sym c.in-Airing.is) c.follow_airing.ensures.others

pub returns-in-Nothing-clause-others : goal.returns-in-Nothing-clause-others
returns-in-Nothing-clause-others c =
    subst (λ ch. KeepsOthers (kept_beside c.args.channel ch c.args.days.now.items) c.args.days.now.items)
    (sym c.in-Nothing.is) (inl refl)

pub returns-in-Vault-clause-others : goal.returns-in-Vault-clause-others
returns-in-Vault-clause-others c =
    subst (λ ch. KeepsOthers (kept_beside c.args.channel ch c.args.days.now.items) c.args.days.now.items)
    (sym c.in-Vault.is) (inl refl)
