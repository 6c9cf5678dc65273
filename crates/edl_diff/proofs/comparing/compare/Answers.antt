-- `compare`: the runs of a track of two lists, in the order of their positions: of all frames of the day.
use Rattle.std.proofs.Common.{ℕ, ◌-◌, ◌++◌, ◌∙◌, length, max, ap, sym, subst, arith}
use Rattle.edl.specs.EntryShown.{entries_of}
use Rattle.edl_diff.specs.Layers.{IsPlaced, cell_in, event_shown}
use Rattle.edl_diff.specs.Runs.{AreRunsOf, spelled}
use Rattle.edl_diff.specs.Status.{from_frame, status_of, statuses}
use Rattle.edl_diff.proofs.LayerLemmas.{next_fewer, next_shown}
use Rattle.edl_diff.proofs.SweepLemmas.{all_placed, shows_from, swept_all, swept_length, swept_next}
use Rattle.edl_diff.proofs.comparing.compare.Goals as goal

pub take_stretch-requires-clause-one : goal.take_stretch-requires-clause-one
take_stretch-requires-clause-one c =
    let swept = c.loop-stretch.invariant in
    shows_from c.day_frames-day.result c.args.track (entries_of c.args.one.now) c.as_slice-ones.result.now
    c.loop-stretch.ones.now c.loop-stretch.at c.min-end.result c.in-Some.stretch.one
    (event_shown c.event_numbered-shown.result)
    swept.tops swept.left (let end = c.min-end.ensures in omega arith)
    (λ f lt.
    (next_shown c.loop-stretch.ones.now c.loop-stretch.others.now c.in-Some.stretch (sym c.in-Some.ensures) f
    (let end = c.min-end.ensures in omega arith)).0)
    c.event_numbered-shown.ensures
    (all_placed c.args.rate c.day_frames-day.result (entries_of c.args.one.now) c.day_frames-day.ensures.value
    c.requires.one)

pub take_stretch-requires-clause-other : goal.take_stretch-requires-clause-other
take_stretch-requires-clause-other c =
    let swept = c.loop-stretch.invariant in
    shows_from c.day_frames-day.result c.args.track (entries_of c.args.other.now) c.as_slice-others.result.now
    c.loop-stretch.others.now c.loop-stretch.at c.min-end.result c.in-Some.stretch.other
    (event_shown c.event_numbered-shown_other.result)
    swept.other_tops swept.other_left (let end = c.min-end.ensures in omega arith)
    (λ f lt.
    (next_shown c.loop-stretch.ones.now c.loop-stretch.others.now c.in-Some.stretch (sym c.in-Some.ensures) f
    (let end = c.min-end.ensures in omega arith)).1)
    c.event_numbered-shown_other.ensures
    (all_placed c.args.rate c.day_frames-day.result (entries_of c.args.other.now) c.day_frames-day.ensures.value
    c.requires.other)

pub take_stretch-requires-clause-behind : goal.take_stretch-requires-clause-behind
take_stretch-requires-clause-behind c =
    swept_length c.day_frames-day.result c.args.track (entries_of c.args.one.now) (entries_of c.args.other.now)
    c.as_slice-ones.result.now c.as_slice-others.result.now c.loop-stretch.ones.now c.loop-stretch.others.now
    c.loop-stretch.runs.items c.loop-stretch.at c.loop-stretch.invariant

pub loop-stretch-preserved : goal.loop-stretch-preserved
loop-stretch-preserved c =
    swept_next c.day_frames-day.result c.args.track (entries_of c.args.one.now) (entries_of c.args.other.now)
    c.as_slice-ones.result.now c.as_slice-others.result.now c.loop-stretch.ones.now c.loop-stretch.others.now
    c.loop-stretch.runs.items c.take_stretch.new.runs.items c.loop-stretch.at c.in-Some.stretch
    c.loop-stretch.invariant (sym c.in-Some.ensures)
    (event_shown c.event_numbered-shown.result) (event_shown c.event_numbered-shown_other.result)
    c.event_numbered-shown.ensures c.event_numbered-shown_other.ensures
    (c.in_ok-at.ensures.spelled
    ∙ ap
    (λ (end : ℕ). spelled c.loop-stretch.runs.items
    ++ from_frame
    (λ f. status_of (cell_in c.day_frames-day.result (event_shown c.event_numbered-shown.result) f)
    (cell_in c.day_frames-day.result (event_shown c.event_numbered-shown_other.result) f)) c.loop-stretch.at
    (end - c.loop-stretch.at)) c.min-end.ensures)
    c.behind-ones.result.now c.behind-others.result.now c.in_ok-at.at c.behind-ones.ensures c.behind-others.ensures
    (c.in_ok-at.ensures.next ∙ ap (max c.loop-stretch.at) c.min-end.ensures) c.in_ok-at.ensures.runs

pub returns : goal.returns
returns c =
    subst
    (λ (day : ℕ). AreRunsOf (statuses day c.args.track (entries_of c.args.one.now) (entries_of c.args.other.now))
    c.loop-stretch.runs.items) c.day_frames-day.ensures.value
    (swept_all c.day_frames-day.result c.args.track (entries_of c.args.one.now) (entries_of c.args.other.now)
    c.as_slice-ones.result.now c.as_slice-others.result.now c.loop-stretch.ones.now c.loop-stretch.others.now
    c.loop-stretch.runs.items c.loop-stretch.at c.loop-stretch.invariant (sym c.in_default.ensures))

pub loop-stretch-smaller : goal.loop-stretch-smaller
loop-stretch-smaller c =
    let fewer =
    next_fewer c.loop-stretch.ones.now c.loop-stretch.others.now c.in-Some.stretch (sym c.in-Some.ensures) in
    let one = ap length c.behind-ones.ensures in
    let other = ap length c.behind-others.ensures in
    omega (arith, fewer, one, other)
