-- `file_status`: says the fault of a file, and gives the exit status for it.
use Rattle.std.proofs.Common.{subst, inr}
use Rattle.playout_lists.specs.declared.fault.Fault.{Fault}
use Rattle.playout_lists.specs.Fault.{line_of}
use Rattle.playout_lists.specs.Telling.{Told, Tells, has_told}
use Rattle.playout_lists.proofs.comparing.file_status.Goals as goal

pub returns-in-Err-clause-told : goal.returns-in-Err-clause-told
returns-in-Err-clause-told g c =
    let new = has_told g.E.Write.contents c.exit_status.new.faults in
    inr (subst (λ (fault : Fault). Tells (has_told g.E.Write.contents c.args.faults.now) new (line_of fault))
    c.in-Err.ensures.err.0
    (subst (λ (told : Told). Tells told new (line_of c.in-Err.fault)) c.in-Err.ensures.err.1 c.exit_status.ensures.1))
