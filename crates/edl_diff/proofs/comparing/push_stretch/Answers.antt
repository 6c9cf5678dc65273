-- `push_stretch`: adds a stretch over which each list shows one event or none: as a whole.
use Rattle.std.proofs.Common.{◌≡◌, ◌∙◌, ◌++◌, ◌-◌, List, ap, sym, arith}
use Rattle.std.specs.Prelude.{replicate, true}
use Rattle.edl_diff.specs.declared.status.Status.{Status}
use Rattle.edl_diff.specs.Layers.{event_shown}
use Rattle.edl_diff.specs.Runs.{spelled}
use Rattle.edl_diff.proofs.SweepLemmas.{on_ok, steady_list}
use Rattle.edl_diff.proofs.comparing.push_stretch.Goals as goal

pub returns-clause-spelled : goal.returns-clause-spelled
returns-clause-spelled c =
    let one : c.goes_evenly.result ≡ true = grind arith in
    let other : c.goes_evenly-else-not-goes_evenly.result ≡ true = grind arith in
    let old = spelled c.args.runs.now.items in
    on_ok _ _ c.push.result c.push.ensures.spelled (λ is.
    is
    ∙ ap (λ (s : Status). old ++ replicate (c.args.end - c.args.at) s) c.status_at-status.ensures
    ∙ ap (λ (list : List Status). old ++ list)
    (sym (steady_list c.args.day c.args.at c.args.end (event_shown c.args.one) (event_shown c.args.other) (omega arith)
    (omega arith) c.requires.one c.requires.other
    (c.goes_evenly.ensures one) (c.goes_evenly-else-not-goes_evenly.ensures other))))
