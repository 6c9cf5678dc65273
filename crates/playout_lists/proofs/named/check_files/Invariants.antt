-- The loops of `check_files` (checks the lists in these files, one after another).
use Rattle.std.proofs.Common.{◌≡◌, true, take}
use Rattle.edl.specs.Texts.{texts_of}
use Rattle.playout_lists.specs.Named.{ChecksFiles}
use Rattle.playout_lists.specs.Telling.{has_told}
use Rattle.playout_lists.proofs.named.check_files.Given as goal

-- the files so far were checked
abbrev pub invariant-loop-file : goal.invariant-loop-file
invariant-loop-file g l = record {
  so_far : ChecksFiles (g.M.Lists.gives l.machine) l.rate (texts_of (take l.file-index l.files))
      (g.W.Write.contents l.initial.output) (g.W.Write.contents l.output) (has_told g.E.Write.contents l.initial.faults)
      (has_told g.E.Write.contents l.faults) l.quiet;
  untold : l.quiet ≡ true → has_told g.E.Write.contents l.faults ≡ has_told g.E.Write.contents l.initial.faults;
}
