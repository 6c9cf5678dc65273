-- `prepare`: the reply and the change of a command, or `None` where the channel isn't in the plan.
use Rattle.std.proofs.Common.{◌≡◌, sym, subst}
use Rattle.std.specs.Prelude.{IfOk}
use Rattle.std.specs.Option.{option_map}
use Rattle.channel_view_model.specs.Seen.{seen_in}
use Rattle.channel_view_model.specs.Decide.{decision}
use Rattle.channel_view_model.specs.Centre.{view_of}
use Rattle.channel_view_laws.proofs.ServingLemmas.{prepared}
use Rattle.channel_view_requests.proofs.requests.prepare.Goals as goal

pub returns-in-Vault-clause-prepared : goal.returns-in-Vault-clause-prepared
returns-in-Vault-clause-prepared g c = λ clean rows stands.
    prepared c.args.channel c.args.command.now rows c.prepare_by_part.result
    (c.prepare_by_part.ensures.decided clean rows stands)

pub returns-in-Table-clause-prepared : goal.returns-in-Table-clause-prepared
returns-in-Table-clause-prepared g c = λ clean rows stands.
    prepared c.args.channel c.args.command.now rows c.prepare_table.result
    (subst
    (λ q. IfOk c.prepare_table.result
    (λ d. d ≡ option_map (λ v. decision (seen_in v) q) (view_of c.args.channel rows))) (sym c.in-Table.is)
    (c.prepare_table.ensures.decided clean rows stands))
