-- `read_file`: all of a file.
use Rattle.playout_lists.proofs.FileLemmas.{unread}
use Rattle.playout_lists.proofs.named.read_file.Goals as goal

pub returns-clause-err : goal.returns-clause-err
returns-clause-err g c =
    unread (g.M.Lists.gives c.args.machine.now) c.args.file.now _ _ c.in-Err.fault c.in_ok-opened.ensures.gives
    c.in-Err.ensures.err
