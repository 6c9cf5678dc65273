-- `ask_next`: what the piece asks that was found at the front of the bytes.
use Rattle.std.proofs.Common.{refl, subst, ◌∙◌}
use Rattle.std.specs.Prelude.{slice_range, IfOk}
use Rattle.http_office_requests.specs.Piece.{last}
use Rattle.http_office_requests.specs.Request.{asked, request_of}
use Rattle.http_office_requests.specs.FoundPiece.{status_of}
use Rattle.http_office_requests.specs.Found.{IsAsked}
use Rattle.http_office.proofs.MessageLemmas.{found_message}
use Rattle.http_office.proofs.messages.ask_next.Goals as goal

pub returns-in-Partial : goal.returns-in-Partial
returns-in-Partial c = rw c.in-Partial.is tt

pub returns-in-Last : goal.returns-in-Last
returns-in-Last c =
    let found = rw c.in-Last.is at c.requires in
    rw c.in-Last.is (last (status_of c.in-Last.status), found.2, refl)

pub returns-in-Message : goal.returns-in-Message
returns-in-Message c =
    let content = slice_range c.args.bytes.now c.in-Message.m.body c.in-Message.m.len in
    found_message c.args.bytes.now c.args.next.now c.in-Message.m
    (λ p. IfOk c.ask_message.result (IsAsked (request_of p))) c.in-Message.is c.requires
    (λ h at.
    subst (λ method. IfOk c.ask_message.result (IsAsked (asked method h.target content)))
    (c.of-method.ensures ∙ at.method)
    (subst (λ path. IfOk c.ask_message.result (IsAsked (asked c.of-method.result.now path content)))
    (c.of-path.ensures ∙ at.path) c.ask_message.ensures))
