-- `after_commit`: what is at hand once the store below made a change.
use Rattle.std.proofs.Common.{◌∙◌, sym}
use Rattle.rows_at_hand.proofs.AtHandLemmas.{err_never, ok_so, rules_at_hand, others_followed}
use Rattle.rows_at_hand.proofs.at_hand.after_commit.Goals as goal

pub returns-in_default : goal.returns-in_default
returns-in_default c =
    record {
      made =
          ok_so c.args.made.now
          (λ rows at is.
          others_followed rows c.in_ok-vaults.vaults c.args.channel c.args.change.now c.in_default.not-Vault
          (rules_at_hand rows c.args.vaults c.in_ok-vaults.vaults c.in_ok-vaults.was at) is);
      failed = err_never c.args.made.now _ (sym c.is_err.ensures.value ∙ c.if-is_err.false);
    }

pub returns-in-Ok-clause-made : goal.returns-in-Ok-clause-made
returns-in-Ok-clause-made c =
    ok_so c.args.made.now
    (λ rows at is.
    c.in-Ok.ensures rows c.in-Vault.field-0 c.in-Vault.field-1 c.in-Vault.is
    (rules_at_hand rows c.args.vaults c.in_ok-vaults.vaults c.in_ok-vaults.was at) is)
