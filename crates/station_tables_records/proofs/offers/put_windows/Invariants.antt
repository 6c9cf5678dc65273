-- The loops of `put_windows` (puts its window into each offer).
use Rattle.std.proofs.Common.{◌≡◌, map}
use Rattle.station_tables_records.specs.MadeOffers.{offer_made}
use Rattle.station_tables_records.proofs.OfferLemmas.{so_far}
use Rattle.station_tables_records.proofs.offers.put_windows.Given as goal

abbrev pub invariant-loop-row : goal.invariant-loop-row
invariant-loop-row l = so_far l.spans l.row-index l.offers ≡ map (offer_made l.spans) l.fn.offers
