-- `Vaults::source_at`: what a source names, in the vault of its holder.
use Rattle.std.proofs.Common.{◌≡◌, ◌∙◌, sym, ap}
use Rattle.rows_at_hand.proofs.VaultLemmas.{holder, status_holder, source_found, source_absent}
use Rattle.rows_at_hand.proofs.vaults.VaultsFindsSources.source_at.Goals.{in-Lent, in-Own, in-Black}
use Rattle.rows_at_hand.proofs.vaults.VaultsFindsSources.source_at.Goals as goal

pub returns-in-Some : goal.returns-in-Some
returns-in-Some c =
    let is : c.match-source.holder ≡ holder c.args.channel c.args.source = elim c.match-source.branch [
      | in-Lent w ↦ w.holder-is ∙ w.get-holder.ensures ∙ ap (holder c.args.channel) (sym w.in-Lent.is)
      | in-Own w ↦ w.holder-is ∙ ap (holder c.args.channel) (sym w.in-Own.is)
      | in-Black w ↦ w.holder-is ∙ status_holder c.args.channel c.args.source w.in-Black.is
    ] in
    let asked : c.match-source.source ≡ c.args.source = elim c.match-source.branch
    [ in-Lent w ↦ w.source-is ∙ sym w.in-Lent.is | in-Own w ↦ w.source-is ∙ sym w.in-Own.is | in-Black w ↦ w.source-is ]
    in
    source_found c.source_at.result c.args.channel c.match-source.holder c.args.source c.match-source.source
    c.args.self.now.each.items c.in-Some.vault.now is asked c.in-Some.ensures c.source_at.ensures

pub returns-in-None : goal.returns-in-None
returns-in-None c =
    let is : c.match-source.holder ≡ holder c.args.channel c.args.source = elim c.match-source.branch [
      | in-Lent w ↦ w.holder-is ∙ w.get-holder.ensures ∙ ap (holder c.args.channel) (sym w.in-Lent.is)
      | in-Own w ↦ w.holder-is ∙ ap (holder c.args.channel) (sym w.in-Own.is)
      | in-Black w ↦ w.holder-is ∙ status_holder c.args.channel c.args.source w.in-Black.is
    ] in
    source_absent c.args.channel c.match-source.holder c.args.source c.args.self.now.each.items
    c.nothing.result.clips.items c.nothing.result.grants.items is c.in-None.ensures c.nothing.ensures.clips
    c.nothing.ensures.grants
