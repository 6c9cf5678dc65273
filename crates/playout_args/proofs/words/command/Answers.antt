-- `command`: the command as `clap` is told of it.
use Rattle.std.proofs.Common.{◌∙◌, ap}
use Rattle.std.proofs.lemmas.Result.{IfOk-weaker}
use Rattle.clap.specs.Words.{App, with_subcommand}
use Rattle.playout_args.specs.Words.{program, answer_words, check_words, diff_words, list_words, serve_words}
use Rattle.playout_args.specs.Words.{table_words, timecode_words}
use Rattle.playout_args.proofs.words.command.Goals as goal

-- each subcommand stands behind those in front of it
pub returns : goal.returns
unfolding program
returns c =
    let one =
    c.in_ok-command.ensures answer_words c.answer_command.ensures
    ∙ ap (λ (a : App). with_subcommand a answer_words) c.bare_command.ensures in
    let two =
    c.in_ok-command-2.ensures check_words c.check_command.ensures
    ∙ ap (λ (a : App). with_subcommand a check_words) one in
    let three =
    c.in_ok-command-3.ensures diff_words c.diff_command.ensures
    ∙ ap (λ (a : App). with_subcommand a diff_words) two in
    let four =
    c.in_ok-command-4.ensures list_words c.list_command.ensures
    ∙ ap (λ (a : App). with_subcommand a list_words) three in
    let five =
    c.in_ok-command-5.ensures serve_words c.serve_command.ensures
    ∙ ap (λ (a : App). with_subcommand a serve_words) four in
    let six =
    c.in_ok-command-6.ensures table_words c.table_command.ensures
    ∙ ap (λ (a : App). with_subcommand a table_words) five in
    IfOk-weaker c.with-7.result _ _
    (λ r added. added timecode_words c.timecode_command.ensures
    ∙ ap (λ (a : App). with_subcommand a timecode_words) six) c.with-7.ensures
