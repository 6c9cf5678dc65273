-- `grant_numbered`: the owner's offer with this number, if it is to the channel.
use Rattle.std.proofs.Common.{◌∙◌, ◌&&◌, ℕ, ap, arith}
use Rattle.std.specs.Prelude.{◌==◌, find}
use Rattle.std.specs.Option.{option_map}
use Rattle.sqlite.specs.State.{HasCleanDisk, IsUnchanged}
use Rattle.vault_core.specs.declared.offer.Offer.{Offer}
use Rattle.station_tables_records.specs.Inside.{inside}
use Rattle.station_tables_statements.specs.Rows.{offers_in}
use Rattle.station_tables_reading.specs.Lent.{lent_to}
use Rattle.station_tables_reading.proofs.LentLemmas.{lent_is, offers_rise}
use Rattle.station_tables_reading.proofs.day_fetching.grant_numbered.Goals as goal

pub returns-clause-grant : goal.returns-clause-grant
returns-clause-grant g c centre clean =
    let old = inside g.S.Store c.args.tx.now in
    let ch = c.args.channel in
    let owner = c.args.owner in
    let same : IsUnchanged old (inside g.S.Store c.row_numbered.new.tx) = c.in_ok-offer.ensures.reads.same clean in
    let early : HasCleanDisk old = omega (arith, c.row_numbered.ensures.reads.survives.clean, clean) in
    let is = centre early same.0.was_open in
    c.grant_to.ensures
    ∙ ap (λ o. lent_to ch (option_map (λ (x : Offer). (owner, x)) o)) (c.in_ok-offer.ensures.row centre clean)
    ∙ ap
    (λ n. lent_to ch
    (option_map (λ (x : Offer). (owner, x))
    (option_map (λ (r : ℕ × Offer). r.1)
    (find (λ (r : ℕ × Offer). r.0 == owner && r.1.n == n) (offers_in old.now.trees))))) c.from.ensures
    ∙ lent_is ch owner c.args.number (offers_in old.now.trees) (offers_rise old is.offers)
