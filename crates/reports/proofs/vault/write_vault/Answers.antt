-- `write_vault`: writes the vault table of one channel: the line of each tape, by number, and the last line.
use Rattle.std.proofs.Common.{[], ◌++◌, length, ◌∙◌, ap, subst}
use Rattle.std.specs.List.{flat_map}
use Rattle.std.proofs.lemmas.List.{append-nil}
use Rattle.report_texts.specs.Output.{AppendsPart}
use Rattle.report_texts.proofs.PartLemmas.{nothing_yet, part_behind}
use Rattle.report_texts.specs.Vault.{tape_line, vault_end}
use Rattle.report_texts.proofs.LineLemmas.{on_err, map_err}
use Rattle.reports.proofs.vault.write_vault.Goals as goal

pub returns-in_err-write_tapes-clause-err : goal.returns-in_err-write_tapes-clause-err
returns-in_err-write_tapes-clause-err g c =
    on_err c.from_residual.result
    (part_behind _ _ _ [] (flat_map tape_line c.args.tapes.now) _
    (nothing_yet (g.W.Write.contents c.args.output.now)) c.in_err-write_tapes.ensures.err)

pub returns-clause-err : goal.returns-clause-err
returns-clause-err g c =
    let tapes = c.args.tapes.now in
    let slots = c.args.plan.now.slots in
    let end = vault_end (length tapes) c.count_shelved.result slots in
    map_err c.write_vault_end.result
    (λ part. subst
    (AppendsPart (g.W.Write.contents c.args.output.now) (g.W.Write.contents c.write_vault_end.new.output))
    (ap (λ l. flat_map tape_line tapes ++ l)
    (append-nil end ∙ ap (λ n. vault_end (length tapes) n slots) c.count_shelved.ensures))
    (part_behind _ _ _ (flat_map tape_line tapes) end [] c.in_ok-write_tapes.ensures.ok part))
    c.write_vault_end.ensures.err
