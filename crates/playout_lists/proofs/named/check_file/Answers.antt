-- `check_file`: what the list in a file holds, or the fault of the file.
use Rattle.std.proofs.Common.{◌++◌, [], ◌∷◌, List, ℕ, subst}
use Rattle.playout_lists.specs.Checking.{ListTells}
use Rattle.playout_lists.specs.Counts.{text_of_counts}
use Rattle.playout_lists.specs.declared.checking.Counts.{Counts}
use Rattle.edl.specs.Faults.{first_fault}
use Rattle.playout_lists.proofs.FileLemmas.{no_list, tells_of, fault_in}
use Rattle.playout_lists.proofs.named.check_file.Goals as goal

pub returns-in-Err : goal.returns-in-Err
returns-in-Err g c = c.in-Err.ensures.err c.args.rate

pub returns-in-Ok-counts_in : goal.returns-in-Ok-counts_in
returns-in-Ok-counts_in g c = (
  c.in-Ok.text.items,
  c.in-Ok.ensures.ok,
  tells_of c.args.rate c.in-Ok.text.items c.deref.result.now
      (text_of_counts c.in-Ok-counts_in.counts ++ 10 ∷ []) c.deref.ensures.value c.in-Ok-counts_in.ensures.ok,
)

pub returns : goal.returns
returns g c =
    no_list (g.M.Lists.gives c.args.machine.now) c.args.rate c.args.file.now c.in-Ok.text.items c.in-Err-counts_in.fault
    c.in-Ok.ensures.ok
    (fault_in c.args.rate c.in-Ok.text.items c.deref.result.now c.in-Err-counts_in.fault c.deref.ensures.value
    c.in-Err-counts_in.ensures.err)
