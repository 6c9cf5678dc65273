-- What is written of a port.
use Rattle.playout_cli.proofs.ServingLemmas.{says_line}
use Rattle.playout_cli.proofs.serve.serve_at_once.Goals as goal

pub returns-clause-says : goal.returns-clause-says
returns-clause-says g c =
    let served = c.serve_door.ensures in
    says_line c.args.asked.port c.in_ok-found.found.1 _ _ c.serve_door.result c.in_ok-found.ensures.port served.said
    served.part served.err
