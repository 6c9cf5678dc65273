-- `write_vault_of`: the vault table.
use Rattle.std.proofs.Common.{[], ◌++◌, length, sym, ◌∙◌, ap, subst}
use Rattle.std.specs.List.{flat_map}
use Rattle.std.proofs.lemmas.List.{append-nil, length-map}
use Rattle.vault_core.specs.Rules.{slots_of}
use Rattle.report_texts.specs.Output.{AppendsPart}
use Rattle.report_texts.proofs.PartLemmas.{nothing_yet, part_behind}
use Rattle.report_texts.specs.Vault.{tape_line, vault_end}
use Rattle.report_texts.proofs.LineLemmas.{on_err, map_err}
use Rattle.channel_view_model.specs.Tables.{rows_alone}
use Rattle.channel_view_rules.proofs.row_tables.write_vault_of.Goals as goal

pub returns-in_err-write_tapes-clause-err : goal.returns-in_err-write_tapes-clause-err
returns-in_err-write_tapes-clause-err g c =
    on_err c.from_residual.result
    (part_behind _ _ _ [] (flat_map tape_line (rows_alone c.args.tapes.now)) _
    (nothing_yet (g.W.Write.contents c.args.output.now)) c.in_err-write_tapes.ensures.err)

pub returns-clause-err : goal.returns-clause-err
returns-clause-err g c =
    let tapes = rows_alone c.args.tapes.now in
    let slots = c.args.plan.now.slots in
    let end = vault_end (length c.args.tapes.now) c.shelved.result slots in
    map_err c.write_vault_end.result
    (λ part. subst
    (AppendsPart (g.W.Write.contents c.args.output.now) (g.W.Write.contents c.write_vault_end.new.output))
    (ap (λ l. flat_map tape_line tapes ++ l)
    (append-nil end ∙ ap (λ n. vault_end (length c.args.tapes.now) n slots) c.shelved.ensures
    ∙ ap (λ n. vault_end n (length (slots_of tapes)) slots) (sym (length-map c.args.tapes.now (λ r. r.1)))))
    (part_behind _ _ _ (flat_map tape_line tapes) end [] c.in_ok-write_tapes.ensures.ok part))
    c.write_vault_end.ensures.err
