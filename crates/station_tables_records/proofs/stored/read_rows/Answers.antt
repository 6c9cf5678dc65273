-- `read_rows`: what these rows of a table stand for, in the order in which they stand, or `None`.
use Rattle.std.proofs.Common.{◌∙◌, sym, true≢false, rules}
use Rattle.std.proofs.lemmas.Fn.{always_returns_same}
use Rattle.station_tables_records.proofs.KeyLemmas.{found_as, none_as}
use Rattle.station_tables_records.proofs.stored.read_rows.Goals as goal

pub returns-clause-some : goal.returns-clause-some
returns-clause-some g c =
    found_as g.T.StoredRow.table g.met.T.StoredRow.is_table (λ row value reads. search rules)
    (always_returns_same _ _ _ (λ a r f called. search rules))
    (λ v. v.items) c.args.rows.now c.read_in_order.result c.read_in_order.ensures.each

pub returns-clause-none : goal.returns-clause-none
returns-clause-none g c =
    none_as g.T.StoredRow.table g.met.T.StoredRow.is_table (λ row value reads. search rules)
    (always_returns_same _ _ _ (λ a r f called. search rules))
    g.T.StoredRow.fits (λ row is fits reads. true≢false (sym fits ∙ search rules)) c.args.rows.now
    c.read_in_order.result c.read_in_order.ensures.none
