-- `Vaults::write`: a table of the channel's own rows, or of what all vaults lend to it.
use Rattle.std.proofs.Common.{◌≡◌, ◌∙◌, sym, ap, subst}
use Rattle.std.specs.Prelude.{IfOk, OnOk, OnErr, is_some}
use Rattle.std.specs.Io.KnownBytes.{Appends}
use Rattle.report_texts.specs.Output.{AppendsPart}
use Rattle.report_texts.proofs.PartLemmas.{nothing_yet}
use Rattle.report_texts.proofs.LineLemmas.{on_err}
use Rattle.channel_view_model.specs.TableText.{text_at}
use Rattle.channel_view_model.specs.Centre.{view_of}
use Rattle.rows_at_hand.proofs.VaultLemmas.{absent, no_view, planned_alone, some_view, text_alone, text_lent, there}
use Rattle.rows_at_hand.proofs.VaultLemmas.{vault_is}
use Rattle.rows_at_hand.proofs.vaults.Vaults.write.Goals as goal

pub returns-in_default-clause-there : goal.returns-in_default-clause-there
returns-in_default-clause-there g c = λ rows at is.
    let vaults = c.args.self.now.each.items in
    ap is_some
    (sym
    (no_view rows c.args.channel
    (absent rows c.args.channel (c.in_default.ensures ∙ vault_is rows vaults c.args.channel at))))

pub returns-in_default-clause-ok : goal.returns-in_default-clause-ok
returns-in_default-clause-ok g c = λ rows at is.
    let vaults = c.args.self.now.each.items in
    subst
    (λ v. Appends (g.W.Write.contents c.args.output.now) (g.W.Write.contents c.args.output.now)
    (text_at c.args.table v))
    (sym
    (no_view rows c.args.channel
    (absent rows c.args.channel (c.in_default.ensures ∙ vault_is rows vaults c.args.channel at))))
    (nothing_yet (g.W.Write.contents c.args.output.now))

pub returns-in_err-write_lent_table-clause-err : goal.returns-in_err-write_lent_table-clause-err
returns-in_err-write_lent_table-clause-err g c = λ rows at is.
    let vaults = c.args.self.now.each.items in
    let channel = c.args.channel in
    let v = there rows channel c.in-Some.vault.now (c.in-Some.ensures ∙ vault_is rows vaults channel at) in
    on_err c.from_residual.result
    (subst (AppendsPart (g.W.Write.contents c.args.output.now) (g.W.Write.contents c.write_lent_table.new.output))
    (text_lent rows vaults channel v.row c.args.table at v.planned c.in-Lent.is)
    c.in_err-write_lent_table.ensures.err)

pub returns-clause-there : goal.returns-clause-there
returns-clause-there g c = λ rows at is.
    let vaults = c.args.self.now.each.items in
    let channel = c.args.channel in
    let v = there rows channel c.in-Some.vault.now (c.in-Some.ensures ∙ vault_is rows vaults channel at) in
    sym (some_view rows channel v.row v.planned)

pub returns-clause-ok : goal.returns-clause-ok
returns-clause-ok g c = λ rows at is.
    let vaults = c.args.self.now.each.items in
    let channel = c.args.channel in
    let v = there rows channel c.in-Some.vault.now (c.in-Some.ensures ∙ vault_is rows vaults channel at) in
    subst (Appends (g.W.Write.contents c.args.output.now) (g.W.Write.contents c.write_lent_table.new.output))
    (text_lent rows vaults channel v.row c.args.table at v.planned c.in-Lent.is)
    c.in_ok-write_lent_table.ensures.ok

pub returns-in_default-table : goal.returns-in_default-table
returns-in_default-table g c =
    let vaults = c.args.self.now.each.items in
    let channel = c.args.channel in
    let table = c.args.table in
    let start = g.W.Write.contents c.args.output.now in
    let end = g.W.Write.contents c.write.new.output in
    record {
      there = λ rows at is.
          let v = there rows channel c.in-Some.vault.now (c.in-Some.ensures ∙ vault_is rows vaults channel at) in
          subst (λ b. IfOk c.write.result (λ told. told ≡ b))
          (ap (λ w. is_some (view_of channel w.rows)) v.is ∙ planned_alone rows channel) c.write.ensures.there;
      ok = λ rows at is.
          let v = there rows channel c.in-Some.vault.now (c.in-Some.ensures ∙ vault_is rows vaults channel at) in
          subst (λ text. OnOk c.write.result (Appends start end text))
          (ap (λ w. text_at table (view_of channel w.rows)) v.is
          ∙ text_alone rows channel table is c.in_default-table.not-Lent) c.write.ensures.ok;
      err = λ rows at is.
          let v = there rows channel c.in-Some.vault.now (c.in-Some.ensures ∙ vault_is rows vaults channel at) in
          subst (λ text. OnErr c.write.result (AppendsPart start end text))
          (ap (λ w. text_at table (view_of channel w.rows)) v.is
          ∙ text_alone rows channel table is c.in_default-table.not-Lent) c.write.ensures.err;
    }
