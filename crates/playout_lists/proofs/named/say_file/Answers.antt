-- `say_file`: says what a file holds, or its fault, and whether it holds a list.
use Rattle.std.proofs.Common.{◌≡◌, true, false, refl, sym, ◌∙◌, inr}
use Rattle.std.proofs.KnownBytes.{Appends-nil}
use Rattle.std.proofs.lemmas.Result.{IfErr-weaker, IfOk-weaker}
use Rattle.playout_lists.proofs.TellingLemmas.{tells_nothing}
use Rattle.playout_lists.proofs.named.say_file.Goals as goal

pub returns-in-Ok-clause-ok : goal.returns-in-Ok-clause-ok
returns-in-Ok-clause-ok g c =
    rw c.in-Ok.is
    (IfOk-weaker c.print_file.result _ _ (λ fine done. (done.1, tells_nothing _, done.0, λ yes. refl))
    c.print_file.ensures.ok)

pub returns-in-Ok-clause-err : goal.returns-in-Ok-clause-err
returns-in-Ok-clause-err g c =
    rw c.in-Ok.is (IfErr-weaker c.print_file.result _ _ (λ fault stop. (stop.0, stop.1, refl)) c.print_file.ensures.err)

pub returns-in-Err-clause-ok : goal.returns-in-Err-clause-ok
returns-in-Err-clause-ok g c =
    rw c.in-Err.is
    (IfOk-weaker c.tell_none.result _ _
    (λ fine done.
    (Appends-nil _, done.1.all, done.0, λ yes. absurd (let no : false ≡ true = sym done.0 ∙ yes in cc)))
    c.tell_none.ensures.ok)

pub returns-in-Err-clause-err : goal.returns-in-Err-clause-err
returns-in-Err-clause-err g c =
    rw c.in-Err.is
    (IfErr-weaker c.tell_none.result _ _ (λ fault stop. (inr stop.0, (0, Appends-nil _), stop.1))
    c.tell_none.ensures.err)
