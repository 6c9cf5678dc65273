-- `push`: adds a stretch behind the runs: to the last, where that has its status.
use Rattle.std.proofs.Common.{◌∙◌, ◌-◌, sym, ap, subst, arith, rules}
use denote.Enum.Bare.{same_true, same_false}
use Rattle.asrun_match.specs.contracts.status.Status.{the_type}
use Rattle.asrun_match.specs.declared.status.Run.{Run}
use Rattle.asrun_match.specs.Runs.{LieInRow}
use Rattle.asrun_match.proofs.RunLemmas.{read_twice, spelled_after, row_after, row_behind, row_first}
use Rattle.asrun_match.proofs.runs.push.Goals as goal
use Rattle.asrun_match.proofs.runs.push.Goals.{else-len-gt0-via-then-len-gt0+else-eq, else-len-gt0-via-else-len-gt0}

pub returns-then-eq-clause-spelled : goal.returns-then-eq-clause-spelled
returns-then-eq-clause-spelled c =
    spelled_after c.args.runs.now.items (c.len-len.result - 1) c.index_mut.result.now (omega arith)
    c.index_mut.ensures.value c.args.next.frames c.args.next.status
    (ap (λ (run : Run). run.status)
    (read_twice c.args.runs.now.items (c.len-len.result - 1) c.index_mut.result.now c.index.result.now (omega arith)
    c.index_mut.ensures.value c.index.ensures)
    ∙ same_true the_type (search rules) c.index.result.now.status c.args.next.status (sym c.eq.ensures ∙ c.if-eq.true))

pub returns-then-eq-clause-runs : goal.returns-then-eq-clause-runs
returns-then-eq-clause-runs c =
    row_after c.args.runs.now.items (c.len-len.result - 1) c.index_mut.result.now (omega arith)
    c.index_mut.ensures.value c.args.next.frames c.requires.runs

pub returns-clause-runs : goal.returns-clause-runs
returns-clause-runs c =
    subst (LieInRow 0) (sym c.in-Ok.ensures.items)
    (elim c.else-len-gt0.branch [
      | else-len-gt0-via-then-len-gt0+else-eq w ↦ row_behind c.args.runs.now.items (c.len-len.result - 1)
          w.index.result.now (omega arith) w.index.ensures c.args.next c.requires.runs
          (same_false the_type w.index.result.now.status c.args.next.status (sym w.eq.ensures ∙ w.if-eq.false))
          c.requires.behind c.requires.some
      | else-len-gt0-via-else-len-gt0 w ↦ row_first c.args.runs.now.items c.args.next (omega arith) c.requires.behind
          c.requires.some
    ])
