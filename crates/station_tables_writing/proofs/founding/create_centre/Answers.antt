-- `create_centre`: makes the ten tables, the version and the channels of this plan, which the caller has tested.
use Rattle.std.proofs.Common.{rules}
use Rattle.sqlite.specs.State.{HasCleanDisk}
use Rattle.sqlite.specs.Held.{state}
use Rattle.station_tables_writing.proofs.StandLemmas.{mapped_err}
use Rattle.station_tables_writing.proofs.founding.create_centre.Goals as goal

pub returns-clause-err : goal.returns-clause-err
returns-clause-err g c clean =
    let done : HasCleanDisk (state g.S.Store c.commit.new.self.0) = search (rules, clean) in
    mapped_err c.commit.result c.map_err.result _ _ c.map_err.ensures.cases (c.commit.ensures.err done)
    (λ e fails. search (rules, fails))
