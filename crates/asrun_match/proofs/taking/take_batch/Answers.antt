-- `take_batch`: takes the text of a batch, and gives the batch's frames.
use Rattle.std.proofs.Common.{refl, sym, inr}
use Rattle.std.proofs.lemmas.Result.{err_from_is_err_and}
use Rattle.asrun_match.proofs.BatchLemmas.{not_sealed}
use Rattle.asrun_match.proofs.taking.take_batch.Goals as goal

pub returns-in_err-check_sealed-clause-refused : goal.returns-in_err-check_sealed-clause-refused
returns-in_err-check_sealed-clause-refused c =
    let p = err_from_is_err_and c.from_residual.result c.from_residual.ensures.1 in
    rw (p.1, p.2) (refl, inr (not_sealed c.args.day.now.state _ _ (sym c.in_err-check_sealed.ensures.reply)))
