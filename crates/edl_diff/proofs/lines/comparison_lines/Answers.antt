-- `comparison_lines`: the lines of the runs of all tracks, one track behind the other: of each run its track.
use Rattle.std.proofs.Common.{ℕ, List, ◌<◌, ◌∙◌, ◌++◌, length, get_or, ap, arith}
use Rattle.std.proofs.lemmas.List.{get_or_default}
use Rattle.edl.specs.EntryShown.{entries_of}
use Rattle.edl_diff.specs.declared.track.Track.{Track}
use Rattle.edl_diff.specs.declared.track.Track.TheVariants.{Picture}
use Rattle.edl_diff.specs.declared.status.Run.{Run}
use Rattle.edl_diff.specs.Lines.{track_lines}
use Rattle.edl_diff.specs.Track.{all_tracks}
use Rattle.edl_diff.proofs.LineLemmas.{compared_more}
use Rattle.edl_diff.proofs.lines.comparison_lines.Goals as goal

pub loop-track-preserved : goal.loop-track-preserved
loop-track-preserved c =
    let i = c.loop-track.track-index in
    let track : Track = get_or all_tracks i Picture in
    let lt : i < length all_tracks = omega arith in
    compared_more c.args.rate (entries_of c.args.one.now) (entries_of c.args.other.now) all_tracks i track
    c.loop-track.out.items c.push_runs.new.out.items c.in_ok-runs.runs.items
    lt (get_or_default all_tracks i Picture track lt) c.loop-track.invariant c.in_ok-runs.ensures
    (c.in_ok-push_runs.ensures
    ∙ ap (λ (runs : List Run). c.loop-track.out.items ++ track_lines c.args.rate track runs) c.deref.ensures.value)
