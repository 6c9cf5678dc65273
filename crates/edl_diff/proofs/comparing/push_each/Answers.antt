-- `push_each`: adds the frames of a stretch, one by one.
use Rattle.std.proofs.Common.{◌∙◌, ◌++◌, ap, arith}
use Rattle.std.specs.Prelude.{replicate}
use Rattle.edl_diff.specs.declared.status.Status.{Status}
use Rattle.edl_diff.specs.Layers.{cell_in, event_shown}
use Rattle.edl_diff.specs.Runs.{spelled}
use Rattle.edl_diff.specs.Status.{status_of}
use Rattle.edl_diff.proofs.SweepLemmas.{length_so_far, none_more, one_more, shows_one}
use Rattle.edl_diff.proofs.comparing.push_each.Goals as goal

pub status_at-status-requires-clause-one : goal.status_at-status-requires-clause-one
status_at-status-requires-clause-one c =
    shows_one c.args.day c.args.at c.args.end c.loop-frame.frame (event_shown c.args.one) (omega arith) (omega arith)
    c.requires.one

pub status_at-status-requires-clause-other : goal.status_at-status-requires-clause-other
status_at-status-requires-clause-other c =
    shows_one c.args.day c.args.at c.args.end c.loop-frame.frame (event_shown c.args.other) (omega arith) (omega arith)
    c.requires.other

pub push-requires-clause-behind : goal.push-requires-clause-behind
push-requires-clause-behind c =
    length_so_far
    (λ f. status_of (cell_in c.args.day (event_shown c.args.one) f)
    (cell_in c.args.day (event_shown c.args.other) f)) (spelled c.args.runs.now.items)
    (spelled c.loop-frame.runs.items) c.args.at c.loop-frame.frame
    (omega arith) c.requires.behind c.loop-frame.invariant.list

pub push-requires-clause-runs : goal.push-requires-clause-runs
push-requires-clause-runs c = c.loop-frame.invariant.row

pub loop-frame-init : goal.loop-frame-init
loop-frame-init c = record {
  list =
      none_more
      (λ f. status_of (cell_in c.args.day (event_shown c.args.one) f) (cell_in c.args.day (event_shown c.args.other) f))
      (spelled c.args.runs.now.items) c.args.at c.args.at (omega arith);
  row = c.requires.runs;
}

pub loop-frame-preserved : goal.loop-frame-preserved
loop-frame-preserved c = record {
  list =
      one_more
      (λ f. status_of (cell_in c.args.day (event_shown c.args.one) f)
      (cell_in c.args.day (event_shown c.args.other) f)) (spelled c.args.runs.now.items)
      (spelled c.loop-frame.runs.items) (spelled c.push.new.runs.items) c.args.at c.loop-frame.frame
      (omega arith) c.loop-frame.invariant.list
      (c.in_ok-push.ensures.spelled
      ∙ ap (λ (s : Status). spelled c.loop-frame.runs.items ++ replicate 1 s) c.status_at-status.ensures);
  row = c.in_ok-push.ensures.runs;
}
