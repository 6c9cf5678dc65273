-- `do_files`: does what is asked of lists in files.
use Rattle.std.specs.Prelude.{None}
use Rattle.edl.specs.Texts.{texts_of}
use Rattle.playout_lists.specs.Telling.{has_told}
use Rattle.playout_actions.proofs.OfficeLemmas.{does_files, quiet_files}
use Rattle.playout_actions.proofs.program.do_files.Goals as goal

pub returns-clause-quiet : goal.returns-clause-quiet
returns-clause-quiet g c =
    let told = c.served_status.ensures in
    quiet_files c.served_status.result (has_told g.E.Write.contents c.args.faults.now)
    (has_told g.E.Write.contents c.check_files-done.new.faults)
    (has_told g.E.Write.contents c.served_status.new.faults) c.check_files-done.result
    c.check_files-done.ensures.quiet told.value told.fault told.kept

pub returns-clause-does : goal.returns-clause-does
returns-clause-does g c =
    let told = c.served_status.ensures in
    does_files (g.M.Lists.gives c.args.machine.now) (record {
      readable_old = None;
      readable_new = None;
      written_old = g.W.Write.contents c.args.output.now;
      written_new = g.W.Write.contents c.check_files-done.new.output;
      told_old = has_told g.E.Write.contents c.args.faults.now;
      told_new = has_told g.E.Write.contents c.served_status.new.faults;
      status = c.served_status.result;
    }) c.args.rate (texts_of c.args.files.now) (has_told g.E.Write.contents c.check_files-done.new.faults)
    c.check_files-done.result
    c.check_files-done.ensures.done c.check_files-done.ensures.err c.check_files-done.ensures.quiet told.value
    told.fault told.kept
