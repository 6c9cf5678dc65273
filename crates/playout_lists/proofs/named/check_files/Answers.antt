-- `check_files`: checks the lists in these files, one after another: what each holds goes to the output as one line.
use Rattle.std.proofs.Common.{◌≡◌, ◌∙◌, ◌<◌, ◌&&◌, Bool, true, length, refl, sym, arith}
use Rattle.std.proofs.lemmas.Bool.{and_parts}
use Rattle.playout_lists.specs.Telling.{has_told}
use Rattle.playout_lists.proofs.FileLemmas.{files_first, files_more, files_stop}
use Rattle.playout_lists.proofs.named.check_files.Goals as goal

pub loop-file-init : goal.loop-file-init
loop-file-init g c = record {
  so_far =
      files_first (g.M.Lists.gives c.args.machine.now) c.args.rate (g.W.Write.contents c.args.output.now)
      (has_told g.E.Write.contents c.args.faults.now);
  untold = λ yes. refl;
}

pub returns-in-Err-clause-err : goal.returns-in-Err-clause-err
returns-in-Err-clause-err g c =
    files_stop (g.M.Lists.gives c.args.machine.now) c.args.rate c.args.files.now c.loop-file.file-index _ _ _ _ _ _ _
    c.loop-file.quiet c.in-Err.fault (omega arith)
    c.loop-file.invariant.so_far c.in-Err.ensures.err

pub loop-file-preserved : goal.loop-file-preserved
loop-file-preserved g c = record {
  so_far =
      files_more (g.M.Lists.gives c.args.machine.now) c.args.rate c.args.files.now c.loop-file.file-index _ _ _ _ _ _ _
      c.loop-file.quiet c.in-Ok.fine c.both-quiet.result (omega arith)
      c.loop-file.invariant.so_far c.in-Ok.ensures.ok c.both-quiet.ensures;
  untold = λ yes.
      let parts = and_parts c.loop-file.quiet c.in-Ok.fine (sym c.both-quiet.ensures ∙ yes) in
      c.in-Ok.ensures.ok.2.3 parts.1 ∙ c.loop-file.invariant.untold parts.0;
}
