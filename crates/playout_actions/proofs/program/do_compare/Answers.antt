-- `do_compare`: compares the lists in two files, and says what differs.
use Rattle.std.specs.Prelude.{None}
use Rattle.playout_lists.specs.Telling.{has_told}
use Rattle.playout_actions.proofs.OfficeLemmas.{does_compare, quiet_status, small_status}
use Rattle.playout_actions.proofs.program.do_compare.Goals as goal

pub returns-clause-status : goal.returns-clause-status
returns-clause-status g c =
    small_status c.compared_status.result _ _ c.compare_files-done.result c.compared_status.ensures

pub returns-clause-quiet : goal.returns-clause-quiet
returns-clause-quiet g c =
    quiet_status c.compared_status.result _ _ c.compare_files-done.result c.compared_status.ensures

pub returns-clause-does : goal.returns-clause-does
returns-clause-does g c =
    does_compare (g.M.Lists.gives c.args.machine.now) (record {
      readable_old = None;
      readable_new = None;
      written_old = g.W.Write.contents c.args.output.now;
      written_new = g.W.Write.contents c.compare_files-done.new.output;
      told_old = has_told g.E.Write.contents c.args.faults.now;
      told_new = has_told g.E.Write.contents c.compared_status.new.faults;
      status = c.compared_status.result;
    }) c.args.rate c.args.one.now c.args.other.now c.compare_files-done.result
    c.compare_files-done.ensures.ok c.compare_files-done.ensures.err c.compared_status.ensures
