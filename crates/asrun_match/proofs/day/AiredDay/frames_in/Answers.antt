-- `AiredDay::frames_in`: the frames of the batch that is there.
use Rattle.std.proofs.Common.{rules, ap, arith, ◌<◌, ◌-◌, length}
use Rattle.asrun_match.specs.Batches.{batch_frames}
use Rattle.asrun_match.proofs.BatchLemmas.{batch_within}
use Rattle.asrun_match.proofs.day.AiredDay.frames_in.Goals as goal

pub frames_of-requires : goal.frames_of-requires
frames_of-requires c =
    let there : c.args.number - 1 < length c.self.inside.batches.items = search rules in
    omega (
      arith,
      ap batch_frames c.as_slice.ensures,
      c.keep_apart.ensures.small,
      batch_within c.self.inside.batches.items c.self.inside.rows (c.args.number - 1) c.index.result.now there
          c.index.ensures c.self.invariant.0 c.keep_apart.ensures.apart,
    )
