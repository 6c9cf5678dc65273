-- `all_made_offers`: the offers that their rows make, in tables of version 2 with those of windows.
use Rattle.std.proofs.Common.{◌≡◌, sym, subst, arith}
use Rattle.sqlite.specs.Effect.{Database}
use Rattle.sqlite.specs.State.{HasCleanDisk}
use Rattle.station_tables_records.specs.Inside.{inside}
use Rattle.station_tables_records.specs.Table.{IsTypedIn, HoldsRows}
use Rattle.station_tables_records.specs.OfferRows.{offer_table}
use Rattle.station_tables_records.specs.SpanRows.{span_table}
use Rattle.station_tables_statements.specs.Calls.{HasCentreSchema}
use Rattle.station_tables_statements.proofs.SameLemmas.{tables_after}
use Rattle.station_tables_opening.specs.Opening.{HasTablesOf, OwnsWindows, offers_at}
use Rattle.station_tables_opening.specs.declared.finding.Version.TheVariants.{Second}
use Rattle.station_tables_opening.proofs.FindLemmas.{answered, first_after, known_of, makes_offers}
use Rattle.station_tables_opening.proofs.finding.all_made_offers.Goals as goal

pub returns-in_ok-spans-in-Second-clause-offers : goal.returns-in_ok-spans-in-Second-clause-offers
returns-in_ok-spans-in-Second-clause-offers g c has clean =
    let old = inside g.S.Store c.args.tx.now in
    let mid = inside g.S.Store c.all_rows.new.tx in
    let clean_mid : HasCleanDisk mid = omega (arith, clean, c.all_rows-in-Second.ensures.reads.survives.clean) in
    let early : HasCleanDisk old = omega (arith, clean_mid, c.all_rows.ensures.reads.survives.clean) in
    let same = c.in_ok-offers.ensures.reads.same clean_mid in
    let second : c.args.version ≡ Second = c.in-Second.is in
    let centre : HasCentreSchema old = subst (λ v. HasTablesOf v old) second has in
    let rows = c.in_ok-offers.ensures.list (known_of c.args.version old has) clean_mid in
    let listed = c.in_ok-spans-in-Second.ensures.list (tables_after old mid same early centre) clean in
    let seen = subst (λ l. HoldsRows span_table l mid.now.trees) (sym c.deref.ensures.value) listed in
    let windows = subst (λ (d : Database). HoldsRows span_table c.deref.result.now d.trees) same.0.now_is seen in
    answered c.offers_of.result
    (λ offers all are. subst
    (λ v. IsTypedIn offer_table old.now.trees × OwnsWindows v old.now.trees
    × (offers.items ≡ offers_at v old.now.trees)) (sym second)
    (makes_offers old.now.trees c.in_ok-offers.offers.items c.deref.result.now rows windows offers.items all are))
    c.offers_of.ensures.owned c.offers_of.ensures.offers

pub returns-in_ok-spans-in-Second-clause-missing : goal.returns-in_ok-spans-in-Second-clause-missing
returns-in_ok-spans-in-Second-clause-missing g c first clean =
    let old = inside g.S.Store c.args.tx.now in
    let mid = inside g.S.Store c.all_rows.new.tx in
    let clean_mid : HasCleanDisk mid = omega (arith, clean, c.all_rows-in-Second.ensures.reads.survives.clean) in
    let early : HasCleanDisk old = omega (arith, clean_mid, c.all_rows.ensures.reads.survives.clean) in
    let same = c.in_ok-offers.ensures.reads.same clean_mid in
    absurd (c.in_ok-spans-in-Second.ensures.missing (first_after old mid same early first) clean)
