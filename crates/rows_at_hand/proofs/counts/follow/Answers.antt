-- `follow`: what is told of each channel's days after a change.
use Rattle.std.proofs.Common.{subst, sym}
use Rattle.channel_view_model.specs.Centre.{IsChangeOf, changed}
use Rattle.rows_at_hand.specs.Counted.{AreCounted}
use Rattle.rows_at_hand.proofs.CountedLemmas.{counted_after_nothing, counted_after_own}
use Rattle.rows_at_hand.proofs.counts.follow.Goals as goal

pub returns-in-Day-clause-counted : goal.returns-in-Day-clause-counted
returns-in-Day-clause-counted c = λ rows counted is.
    subst (λ ch. AreCounted (changed c.args.channel ch rows) c.follow_day.new.channels.items) (sym c.in-Day.is)
    (c.follow_day.ensures.counted rows counted (subst (λ ch. IsChangeOf c.args.channel ch rows) c.in-Day.is is))

pub returns-in-Airing-clause-counted : goal.returns-in-Airing-clause-counted
returns-in-Airing-clause-counted c = λ rows counted is.
    subst (λ ch. AreCounted (changed c.args.channel ch rows) c.follow_airing.new.channels.items) (sym c.in-Airing.is)
    (c.follow_airing.ensures.counted rows counted
    (subst (λ ch. IsChangeOf c.args.channel ch rows) c.in-Airing.is is))

pub returns-in-Nothing-clause-counted : goal.returns-in-Nothing-clause-counted
returns-in-Nothing-clause-counted c = λ rows counted is.
    let channels = c.args.channels.now.items in
    subst (λ ch. AreCounted (changed c.args.channel ch rows) channels) (sym c.in-Nothing.is)
    (counted_after_nothing rows c.args.channel channels counted)

pub returns-in-Vault-clause-counted : goal.returns-in-Vault-clause-counted
returns-in-Vault-clause-counted c = λ rows counted is.
    let channels = c.args.channels.now.items in
    subst (λ ch. AreCounted (changed c.args.channel ch rows) channels) (sym c.in-Vault.is)
    (counted_after_own rows c.args.channel c.in-Vault.field-0 c.in-Vault.field-1 channels
    (subst (λ ch. IsChangeOf c.args.channel ch rows) c.in-Vault.is is) counted)
