-- `comparison`: the lines of what differs between the lists in two files.
use Rattle.std.proofs.Common.{ap, arith, length}
use Rattle.std.proofs.lemmas.Result.{IfErr-weaker, IfOk-weaker}
use Rattle.playout_lists.proofs.FileLemmas.{files_compare_as, files_have_as}
use Rattle.playout_lists.proofs.comparing.comparison.Goals as goal

pub returns-clause-ok : goal.returns-clause-ok
returns-clause-ok g c =
    IfOk-weaker c.compare_texts.result _ _
    (λ lines done. files_compare_as (g.M.Lists.gives c.args.machine.now) c.args.rate c.args.one.now c.args.other.now
    c.in_ok-text.text.items c.in_ok-text.other_text.items c.deref.result.now c.deref-2.result.now lines.items
    c.deref.ensures.value c.deref-2.ensures.value c.in_ok-text.ensures.ok.0 c.in_ok-text.ensures.ok.1 done)
    c.compare_texts.ensures.ok

pub returns-clause-err : goal.returns-clause-err
returns-clause-err g c =
    IfErr-weaker c.compare_texts.result _ _
    (λ fault has. files_have_as (g.M.Lists.gives c.args.machine.now) c.args.rate c.args.one.now c.args.other.now
    c.in_ok-text.text.items c.in_ok-text.other_text.items c.deref.result.now c.deref-2.result.now fault
    c.deref.ensures.value c.deref-2.ensures.value c.in_ok-text.ensures.ok.0 c.in_ok-text.ensures.ok.1 has)
    c.compare_texts.ensures.err

pub compare_texts-requires-clause-one : goal.compare_texts-requires-clause-one
compare_texts-requires-clause-one g c =
    let fits = c.in_ok-text.ensures.ok.0.3.fits in let size = ap length c.deref.ensures.value in
    omega (arith, fits, size)

pub compare_texts-requires-clause-other : goal.compare_texts-requires-clause-other
compare_texts-requires-clause-other g c =
    let fits = c.in_ok-text.ensures.ok.1.3.fits in let size = ap length c.deref-2.ensures.value in
    omega (arith, fits, size)
