-- `do_asked`: does what was asked without a database, or says why nothing was, and gives the exit status.
use Rattle.std.proofs.Common.{◌≡◌, ◌∙◌, List, Ok, Result, ap, subst, sym}
use Rattle.std.specs.Borrow.{Bor}
use Rattle.std.specs.Prelude.{ℕ}
use Rattle.std.proofs.KnownBytes.{Keeps-refl}
use Rattle.edl.specs.Texts.{texts_of}
use Rattle.playout_args.specs.declared.words.Action.{Action}
use Rattle.playout_args.specs.declared.words.Action.TheVariants as asks
use Rattle.playout_args.specs.declared.words.NoAction.{NoAction}
use Rattle.playout_actions.specs.Office.{DoesAsked, DoesFiles, Office, office_of}
use Rattle.playout_actions.proofs.program.do_asked.Goals as goal

pub returns-in-Ok-CheckFiles-clause-does : goal.returns-in-Ok-CheckFiles-clause-does
unfolding DoesAsked
returns-in-Ok-CheckFiles-clause-does g c =
    let asked = c.in-Ok-CheckFiles in
    let action : asked.field-0 ≡ asks.CheckFiles asked.rate asked.files = rw asked.is at asked.field-0-is in
    let read : c.args.asked.now ≡ Ok (asks.CheckFiles asked.rate asked.files) =
    asked.is ∙ ap (λ (a : Action). Ok a) action in
    let office : Office =
    office_of g.R.Read.remaining g.W.Write.contents g.E.Write.contents c.args.input.now c.args.input.now
    c.args.output.now c.do_files.new.output c.args.faults.now c.do_files.new.faults c.do_files.result in
    subst (λ (words : Result Action NoAction). DoesAsked (g.M.Lists.gives c.args.machine.now) office words) (sym read) (
      Keeps-refl _,
      subst
          (λ (files : List (Bor (List ℕ))). DoesFiles (g.M.Lists.gives c.args.machine.now) office asked.rate
          (texts_of files)) c.deref-in-Ok-CheckFiles.ensures.value
          c.do_files.ensures.does,
    )

pub returns-in-Ok-Compare-clause-does : goal.returns-in-Ok-Compare-clause-does
unfolding DoesAsked
returns-in-Ok-Compare-clause-does g c =
    let asked = c.in-Ok-Compare in
    let action : asked.field-0 ≡ asks.Compare asked.rate asked.one asked.other = rw asked.is at asked.field-0-is in
    let read : c.args.asked.now ≡ Ok (asks.Compare asked.rate asked.one asked.other) =
    asked.is ∙ ap (λ (a : Action). Ok a) action in
    let office : Office =
    office_of g.R.Read.remaining g.W.Write.contents g.E.Write.contents c.args.input.now c.args.input.now
    c.args.output.now c.do_compare.new.output c.args.faults.now c.do_compare.new.faults c.do_compare.result in
    subst (λ (words : Result Action NoAction). DoesAsked (g.M.Lists.gives c.args.machine.now) office words) (sym read)
    (Keeps-refl _, c.do_compare.ensures.does)
