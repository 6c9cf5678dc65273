-- `print_line`: writes a text and the line's end.
use Rattle.std.proofs.Common.{[], ◌∷◌, ◌++◌, ap, subst}
use Rattle.std.proofs.lemmas.List.{append-nil}
use Rattle.std.proofs.lemmas.Result.{on_err_weaker}
use Rattle.report_texts.specs.Output.{AppendsPart}
use Rattle.report_texts.proofs.PartLemmas.{nothing_yet, on_err, part_behind}
use Rattle.report_texts.proofs.output.print_line.Goals as goal

pub returns-in_err-send-clause-err : goal.returns-in_err-send-clause-err
returns-in_err-send-clause-err g c =
    on_err c.from_residual.result
    (part_behind _ _ _ [] c.args.text.now (10 ∷ []) (nothing_yet (g.W.Write.contents c.args.output.now))
    c.in_err-send.ensures.err)

pub returns-clause-err : goal.returns-clause-err
returns-clause-err g c =
    on_err_weaker c.send-2.result
    (λ part. subst (AppendsPart (g.W.Write.contents c.args.output.now) (g.W.Write.contents c.send-2.new.output))
    (ap (λ end. c.args.text.now ++ end) (append-nil (10 ∷ [])))
    (part_behind _ _ _ c.args.text.now (10 ∷ []) [] c.in_ok-send.ensures.ok part))
    c.send-2.ensures.err
