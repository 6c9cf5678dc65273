-- `announce`: says where connections are served, in one line.
use Rattle.std.proofs.Common.{[], ◌∷◌, ◌++◌, ◌∙◌, subst}
use Rattle.std.specs.Prelude.{OnOk, OnErr}
use Rattle.std.specs.Io.KnownBytes.{Appends}
use Rattle.report_texts.specs.Output.{AppendsPart}
use Rattle.playout_cli.proofs.serve.announce.Goals as goal

pub returns-clause-ok : goal.returns-clause-ok
returns-clause-ok g c =
    subst
    (λ text. OnOk c.print_line.result
    (Appends (g.W.Write.contents c.args.output.now) (g.W.Write.contents c.print_line.new.output) (text ++ 10 ∷ [])))
    (c.as_slice.ensures.value ∙ c.text_of_serving.ensures) c.print_line.ensures.ok

pub returns-clause-err : goal.returns-clause-err
returns-clause-err g c =
    subst
    (λ text. OnErr c.print_line.result
    (AppendsPart (g.W.Write.contents c.args.output.now) (g.W.Write.contents c.print_line.new.output) (text ++ 10 ∷ [])))
    (c.as_slice.ensures.value ∙ c.text_of_serving.ensures) c.print_line.ensures.err
