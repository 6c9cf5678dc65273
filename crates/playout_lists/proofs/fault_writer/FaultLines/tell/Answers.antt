-- `FaultLines::tell`: says a text.
use Rattle.std.proofs.Common.{refl}
use Rattle.playout_lists.proofs.TellingLemmas.{tells_whole}
use Rattle.playout_lists.proofs.fault_writer.FaultLines.tell.Goals as goal

pub returns-in_default : goal.returns-in_default
returns-in_default g c = tells_whole _ _ c.args.text.now refl c.in_default.ensures.ok
