-- `ask_message`: what a method, a path and a body ask.
use Rattle.std.proofs.Common.{◌≡◌, true, false, codes, refl, sym, subst, rules}
use Rattle.std.specs.Prelude.{bytes_eq, IfOk}
use Rattle.http_office_requests.specs.Request.{asked, asked_in}
use Rattle.http_office_requests.specs.Found.{IsAsked, HasPlainTexts}
use Rattle.http_office_requests.proofs.TableLemmas.{post_is_plain, get_is_plain}
use Rattle.http_office_requests.proofs.request.ask_message.Goals as goal

pub ask_routes-requires : goal.ask_routes-requires
ask_routes-requires c = subst HasPlainTexts (sym c.args.routes.now.post_is) post_is_plain

pub ask_routes-requires-then-eq-2 : goal.ask_routes-requires-then-eq-2
ask_routes-requires-then-eq-2 c = subst HasPlainTexts (sym c.args.routes.now.get_is) get_is_plain

pub returns-then-eq : goal.returns-then-eq
unfolding asked
returns-then-eq c =
    let post : bytes_eq c.args.method.now (codes "POST") ≡ true = search rules in
    rw post
    (subst (λ r. IfOk c.ask_routes.result (IsAsked (asked_in r c.args.path.now c.args.content.now)))
    c.args.routes.now.post_is c.ask_routes.ensures)

pub returns-then-eq-2 : goal.returns-then-eq-2
unfolding asked
returns-then-eq-2 c =
    let post : bytes_eq c.args.method.now (codes "POST") ≡ false = search rules in
    let get : bytes_eq c.args.method.now (codes "GET") ≡ true = search rules in
    rw (post, get)
    (subst (λ r. IfOk c.ask_routes-then-eq-2.result (IsAsked (asked_in r c.args.path.now c.args.content.now)))
    c.args.routes.now.get_is c.ask_routes-then-eq-2.ensures)

pub returns-else-eq-2 : goal.returns-else-eq-2
unfolding asked
returns-else-eq-2 c =
    let post : bytes_eq c.args.method.now (codes "POST") ≡ false = search rules in
    let get : bytes_eq c.args.method.now (codes "GET") ≡ false = search rules in
    rw (post, get) refl
