-- `with`: the command with this subcommand behind its others, where there was memory for both.
use Rattle.std.proofs.Common.{◌∙◌, ap}
use Rattle.std.proofs.lemmas.Result.{IfOk-weaker}
use Rattle.clap.specs.Words.{app_of, with_subcommand}
use Rattle.playout_args.proofs.words.with.Goals as goal

pub returns : goal.returns
returns c =
    IfOk-weaker c.subcommand.result _ _ (λ r added shape is.
    let is = rw (c.branch-subcommand.ensures, c.in_ok-subcommand.is) at is in
    added.shape is.1 ∙ ap (with_subcommand (app_of c.args.command)) is.0) c.subcommand.ensures
