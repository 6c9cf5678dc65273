-- `decide_tape`: a command on tapes.
use Rattle.std.proofs.Common.{◌∙◌, ap₂, sym}
use Rattle.std.specs.Prelude.{Result}
use Rattle.channel_plan.specs.declared.refusal.Refusal.{Refusal}
use Rattle.vault_core.specs.declared.command.Put.{Put}
use Rattle.vault_core.specs.declared.tape.Tape.{Tape}
use Rattle.vault_core.specs.Own.{own_seen}
use Rattle.vault_core.proofs.ReadingLemmas.{listed_is_consistent}
use Rattle.channel_view_model.specs.declared.command.Reply.TheVariants as replies
use Rattle.channel_view_model.specs.declared.command.Change.TheVariants.{Vault}
use Rattle.channel_view_model.specs.declared.command.VaultChange.TheVariants as rows
use Rattle.channel_view_model.specs.Decide.{Decided, answered, vault_decision}
use Rattle.channel_view_decisions.proofs.decisions.decide_tape.Goals as goal

-- the reply and the change of the row that is put so
so : Put → Result Tape Refusal → Decided
so put made = answered (λ x. (replies.Tape x.n, Vault put (rows.Tape x))) made

pub returns : goal.returns
unfolding vault_decision so
returns c =
    λ view part. c.tape_put.ensures
    ∙ ap₂ so c.is_put.ensures
    (c.decided.ensures (own_seen view.own) (sym part.plan) (listed_is_consistent view.own.tapes) part.tapes)
