-- The tables of routes, each computed once.
use Rattle.std.proofs.Common.{refl}
use Rattle.matchit.proofs.OnLiterals.{matchit_on_literals}
use Rattle.http_office_requests.specs.Request.{post_router, get_router}
use Rattle.http_office_requests.specs.Found.{HasPlainTexts}

-- each text is ASCII
pub post_is_plain : HasPlainTexts post_router
unfolding post_router matchit_on_literals
post_is_plain = refl

pub get_is_plain : HasPlainTexts get_router
unfolding get_router matchit_on_literals
get_is_plain = refl
