-- `OwnRows::keep_the_rules`: own rows keep the integrity rules.
use Rattle.std.proofs.Common.{subst}
use Rattle.vault_core.specs.Rules.{KeepsOwnRules}
use Rattle.vault_core.proofs.own.OwnRows.keep_the_rules.Goals as goal

pub returns : goal.returns
returns c = subst KeepsOwnRules c.self.view_is c.self.invariant
