-- `take_file`: checks a file, and says what it holds, or its fault.
use Rattle.std.proofs.lemmas.Result.{IfErr-weaker, IfOk-weaker}
use Rattle.playout_lists.specs.Named.{said_of}
use Rattle.playout_lists.proofs.named.take_file.Goals as goal

pub returns-clause-ok : goal.returns-clause-ok
returns-clause-ok g c =
    IfOk-weaker c.say_file.result _ _ (λ fine says. (said_of c.check_file-said.result, c.check_file-said.ensures, says))
    c.say_file.ensures.ok

pub returns-clause-err : goal.returns-clause-err
returns-clause-err g c =
    IfErr-weaker c.say_file.result _ _
    (λ fault stops. (said_of c.check_file-said.result, c.check_file-said.ensures, stops)) c.say_file.ensures.err
