-- `accept_at`: accepts the next connection, if one waits, at a place that is free.
use Rattle.std.proofs.Common.{refl, subst}
use Rattle.playout_peers.specs.Serving.{IsNew}
use Rattle.playout_peers.proofs.serving.accept_at.Goals as goal

pub returns-in-Ok-Some : goal.returns-in-Ok-Some
returns-in-Ok-Some g c =
    let h = rw (c.in-Ok-Some.is, c.in-Ok-Some.field-0-is) at c.accept.ensures.number in
    let free = rw c.deref.ensures.value at (c.is_free.ensures c.if-not-is_free.false) in (
      c.peer_of.result,
      subst (IsNew c.peer_of.result) h.0 c.peer_of.ensures,
      free.1,
      c.put_at.ensures.here,
      c.put_at.ensures.others,
      record { ended = refl; quiet_is = refl },
      h.1,
      c.accept.ensures.wires,
      refl,
    )
