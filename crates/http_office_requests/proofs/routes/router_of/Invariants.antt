-- The loops of `router_of` (the router of these routes).
use Rattle.std.proofs.Common.{◌≡◌, [], drop, map}
use Rattle.http_office_requests.specs.Request.{with_routes}
use Rattle.http_office_requests.proofs.routes.router_of.Given as goal

-- those so far, and then the others, are all
abbrev pub invariant-loop-route : goal.invariant-loop-route
invariant-loop-route l =
    with_routes (map (λ r. (r.0.now, r.1)) (drop l.route-index l.routes)) l.router
    ≡ with_routes (map (λ r. (r.0.now, r.1)) l.routes) []
