-- `MemRows::commit`: a change is made in the rows, and in no other channel's.
use Rattle.std.proofs.Common.{◌∙◌, sym, ap, subst}
use Rattle.std.specs.Prelude.{Result, Ok, Err, OnOk}
use Rattle.vault_core.specs.Rules.{KeepsOwnRules}
use Rattle.channel_view_model.specs.Puts.{RowMayBePut}
use Rattle.channel_view_model.specs.Centre.{own_of, own_changed, day_changed, airing_changed, changed}
use Rattle.channel_view_model.proofs.OwnRuleLemmas.{own_stays_so}
use Rattle.channel_view_model.proofs.RuleLemmas.{change_keeps, own_left}
use Rattle.channel_view.proofs.mem.MemRowsRowStore.commit.Goals as goal

pub invariant_of-self : goal.invariant_of-self
invariant_of-self c = c.change_own.ensures.order

on_ok : {T E P Q : Type 0} (r : Result T E) → (P → Q) → OnOk r P → OnOk r Q
on_ok (Ok x) f p = f p
on_ok (Err e) f p = tt

pub returns-in-Vault-clause-ok : goal.returns-in-Vault-clause-ok
unfolding changed
returns-in-Vault-clause-ok c = λ _ rows stands change.
    let same = c.self.view_is ∙ stands.0 in
    on_ok c.change_own.result
    (λ e. (
      e ∙ ap (own_changed c.args.channel c.in-Vault.change) same
          ∙ ap (λ ch. changed c.args.channel ch rows) (sym c.in-Vault.is),
      change_keeps rows c.args.channel
          c.args.change.now stands.1 change,
    ))
    (c.change_own.ensures.ok change.1
    (subst (λ m. KeepsOwnRules (own_of c.args.channel change.1 m)) (sym same)
    (stands.1.own c.args.channel change.1 change.2))
    (subst (λ m. RowMayBePut c.in-Vault.put c.in-Vault.change (own_of c.args.channel change.1 m)) (sym same)
    (subst (λ ch. own_stays_so ch (own_of c.args.channel change.1 rows)) c.in-Vault.is
    (own_left rows c.args.channel c.args.change.now stands.1 change)).1))

pub returns-in-Day-clause-ok : goal.returns-in-Day-clause-ok
unfolding changed
returns-in-Day-clause-ok c = λ _ rows stands change.
    let same = c.self.view_is ∙ stands.0 in
    on_ok c.change_day.result
    (λ e. (
      e ∙ ap (day_changed c.args.channel c.day.result.now) same
          ∙ ap (λ d. day_changed c.args.channel d rows) c.day.ensures
          ∙ ap (λ ch. changed c.args.channel ch rows) (sym c.in-Day.is),
      change_keeps rows c.args.channel
          c.args.change.now stands.1 change,
    ))
    c.change_day.ensures.ok

pub returns-in-Airing-clause-ok : goal.returns-in-Airing-clause-ok
unfolding changed
returns-in-Airing-clause-ok c = λ _ rows stands change.
    let same = c.self.view_is ∙ stands.0 in
    on_ok c.change_airing.result
    (λ e. (
      e ∙ ap (airing_changed c.args.channel c.in-Airing.airing) same
          ∙ ap (λ ch. changed c.args.channel ch rows) (sym c.in-Airing.is),
      change_keeps rows c.args.channel
          c.args.change.now stands.1 change,
    ))
    c.change_airing.ensures.ok
