-- What was done of the words.
use Rattle.std.proofs.Common.{sym, subst}
use Rattle.std.specs.Prelude.{Ok, map, string_bytes}
use Rattle.playout_args.specs.Words.{AreRead}
use Rattle.playout_actions.specs.Office.{DoesAsked, office_of}
use Rattle.playout_cli.proofs.ActingLemmas.{does_over, does_without, does_none}
use Rattle.playout_cli.proofs.acting.program.Goals as goal

pub returns-in-Some-clause-does : goal.returns-in-Some-clause-does
returns-in-Some-clause-does g c = (
  Ok c.in-Ok.action,
  subst (AreRead (map string_bytes c.args.words.now)) c.in-Ok.is c.read_words-asked.ensures,
  does_over _ (g.M.Files.holds c.args.machine.now) (g.M.Lists.gives c.args.machine.now)
      (office_of g.R.Read.remaining g.W.Write.contents g.E.Write.contents c.args.input.now c.act_over.new.input
      c.args.output.now c.act_over.new.output c.args.faults.now c.act_over.new.faults c.act_over.result) c.in-Ok.action
      c.in-Some.file.now (sym c.in-Some.ensures) c.act_over.ensures.does,
)

pub returns-in-Ok-clause-does : goal.returns-in-Ok-clause-does
returns-in-Ok-clause-does g c =
    let o =
    office_of g.R.Read.remaining g.W.Write.contents g.E.Write.contents c.args.input.now c.do_asked.new.input
    c.args.output.now c.do_asked.new.output c.args.faults.now c.do_asked.new.faults c.do_asked.result in (
      Ok c.in-Ok.action,
      subst (AreRead (map string_bytes c.args.words.now)) c.in-Ok.is c.read_words-asked.ensures,
      does_without _ (g.M.Files.holds c.args.machine.now) (g.M.Lists.gives c.args.machine.now) o c.in-Ok.action
          (sym c.in-None.ensures)
          (subst (DoesAsked (g.M.Lists.gives c.args.machine.now) o) c.in-Ok.is c.do_asked.ensures.does),
    )

pub returns-clause-does : goal.returns-clause-does
returns-clause-does g c = (
  c.read_words-asked.result,
  c.read_words-asked.ensures,
  does_none _ (g.M.Files.holds c.args.machine.now) (g.M.Lists.gives c.args.machine.now)
      (office_of g.R.Read.remaining g.W.Write.contents g.E.Write.contents c.args.input.now c.do_asked-in-Err.new.input
      c.args.output.now c.do_asked-in-Err.new.output c.args.faults.now c.do_asked-in-Err.new.faults
      c.do_asked-in-Err.result) c.read_words-asked.result c.in-Err.field-0 c.in-Err.is c.do_asked-in-Err.ensures.does,
)
