-- `json_in`: the value of a JSON text.
use Rattle.std.proofs.Common.{ap, sym}
use Rattle.std.specs.Prelude.{ok_or}
use Rattle.http_office_requests.proofs.RouteLemmas.{json_read, json_refused}
use Rattle.http_office_requests.proofs.body.json_in.Goals as goal

pub returns-in-Ok : goal.returns-in-Ok
returns-in-Ok c =
    ap (λ o. ok_or o 400) (sym (json_read c.args.content.now _ c.in-Ok.ensures.ok.0 c.in-Ok.ensures.ok.1))

pub returns-in-Err-2 : goal.returns-in-Err-2
returns-in-Err-2 c =
    ap (λ o. ok_or o 400)
    (sym
    (json_refused c.args.content.now
    (c.in-Err.ensures.err (λ m. let t = c.is_memory.ensures.1 m in let f = c.if-is_memory.false in cc))))
