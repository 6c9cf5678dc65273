-- `ask_routes`: what a path and a body ask of the routes of a method.
use Rattle.std.proofs.Common.{◌∙◌, sym}
use Rattle.http_office_requests.proofs.RouteLemmas.{plain_text}
use Rattle.http_office_requests.proofs.request.ask_routes.Goals as goal

pub returns-in_default : goal.returns-in_default
returns-in_default c =
    absurd
    (c.in_default.ensures.cases.0 (plain_text c.args.path.now (sym c.is_plain.ensures ∙ c.if-not-is_plain.false)))
