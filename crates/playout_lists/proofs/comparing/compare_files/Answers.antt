-- `compare_files`: compares the lists in two files frame by frame.
use Rattle.std.proofs.Common.{List, ℕ, rules, subst}
use Rattle.std.specs.Io.KnownBytes.{Appends}
use Rattle.report_texts.specs.Output.{AppendsPart}
use Rattle.std.proofs.lemmas.Result.{IfErr-weaker}
use Rattle.playout_lists.specs.Comparing.{CompareHas}
use Rattle.playout_lists.proofs.FileLemmas.{unwritten}
use Rattle.playout_lists.proofs.comparing.compare_files.Goals as goal

pub returns-in_err-lines-clause-err : goal.returns-in_err-lines-clause-err
returns-in_err-lines-clause-err g c =
    IfErr-weaker c.from_residual.result
    (CompareHas (g.M.Lists.gives c.args.machine.now) c.args.rate c.args.one.now c.args.other.now) _
    (λ fault has. unwritten (g.M.Lists.gives c.args.machine.now) c.args.rate c.args.one.now c.args.other.now _ fault
    has) (search rules)

pub returns-in-Ok-clause-ok : goal.returns-in-Ok-clause-ok
returns-in-Ok-clause-ok g c = (
  c.in_ok-lines.lines.items,
  c.in_ok-lines.ensures.ok,
  subst
      (λ (text : List ℕ). Appends (g.W.Write.contents c.args.output.now) (g.W.Write.contents c.send.new.output) text)
      c.deref.ensures.value c.in-Ok.ensures.ok,
)

pub returns-clause-err : goal.returns-clause-err
returns-clause-err g c = (
  c.in_ok-lines.lines.items,
  c.in_ok-lines.ensures.ok,
  subst
      (λ (text : List ℕ). AppendsPart (g.W.Write.contents c.args.output.now) (g.W.Write.contents c.send.new.output)
      text)
      c.deref.ensures.value c.in-Err.ensures.err,
)
