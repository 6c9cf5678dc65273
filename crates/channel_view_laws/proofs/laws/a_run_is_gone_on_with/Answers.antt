-- `a_run_is_gone_on_with`: a run that was cut short ends as it would have.
use Rattle.channel_view_laws.proofs.AgainLemmas.{resumed, resumed_after_stop}
use Rattle.channel_view_laws.proofs.laws.a_run_is_gone_on_with.Goals as goal

pub returns-clause-found : goal.returns-clause-found
returns-clause-found c = λ rows rules known rest found may. resumed rows rules known rest found may

pub returns-clause-stopped : goal.returns-clause-stopped
returns-clause-stopped c =
    λ rows rules known rest in_doubt next left may one. resumed_after_stop rows rules known next rest in_doubt left may
    one
