-- The loop of `each_named` (what each source names, one after another).
use Rattle.std.proofs.Common.{◌≡◌, take, Ok}
use Rattle.playlist_core.specs.declared.source.SourcesFound.{SourcesFound}
use Rattle.timecode.specs.declared.faults.Unavailable.{Unavailable}
use Rattle.channel_view_model.specs.Tables.{rows_of}
use Rattle.channel_view_model.specs.Seen.{grants_to}
use Rattle.channel_view_model.proofs.NamedLemmas.{clips_named, grants_named}
use Rattle.station_tables_records.specs.Inside.{inside, Looks}
use Rattle.station_tables_statements.specs.Calls.{WhileCleanCentre, set_in}
use Rattle.station_tables_reading.proofs.day_fetching.each_named.Given as goal

-- what the sources in front name was found
abbrev pub invariant-loop-source : goal.invariant-loop-source
invariant-loop-source g l = record {
  looks : Looks {X = SourcesFound} {E = Unavailable} g.S.Store l.initial.tx l.tx (Ok l.found);
  clips : WhileCleanCentre g.S.Store l.initial.tx l.tx
      (l.found.clips.items ≡ clips_named (rows_of l.channel (set_in (inside g.S.Store l.initial.tx)).clips)
      (grants_to l.channel (set_in (inside g.S.Store l.initial.tx)).offers) (take l.source-index l.sources));
  grants : WhileCleanCentre g.S.Store l.initial.tx l.tx
      (l.found.grants.items ≡ grants_named (rows_of l.channel (set_in (inside g.S.Store l.initial.tx)).clips)
      (grants_to l.channel (set_in (inside g.S.Store l.initial.tx)).offers) (take l.source-index l.sources));
}
