-- `items_unlike`: those of the items that aren't among others.
use Rattle.std.proofs.Common.{◌≡◌, ◌+◌, [], ◌∷◌, ◌++◌, sym, ap, subst, ◌∙◌, drop, arith}
use Rattle.std.proofs.lemmas.List.{drop_more}
use Rattle.std.specs.List.{position_or_len}
use Rattle.playlist_core.specs.Item.{planned}
use Rattle.playlist_core.specs.Order.{AreApart, end_of}
use Rattle.playlist_core.specs.Difference.{not_among}
use Rattle.playlist_core.specs.Walk.{first_is, begin_at}
use Rattle.playlist_core.proofs.WalkLemmas.{is_there, is_unlike, apart_dropped}
use Rattle.playlist_core.proofs.change.items_unlike.Goals.{then-not-begin_with+in_ok-push, else-not-begin_with}
use Rattle.playlist_core.proofs.change.items_unlike.Goals as goal

pub loop-item-preserved : goal.loop-item-preserved
loop-item-preserved c =
    let items = c.args.items.now in
    let rest = c.loop-item.rest.now in
    let i = c.loop-item.item-index in
    let x = c.item-item.result in
    let more : drop i items ≡ x ∷ drop (i + 1) items =
    drop_more items i x (omega arith) ∙ ap (λ y. y ∷ drop (i + 1) items) (sym c.item-item.is) in
    let kept = c.loop-item.invariant in
    let apart = subst (λ l. AreApart planned kept.items.0 kept.items.1 l) more kept.items.2 in
    let now = ap (λ l. c.loop-item.unlike.items ++ not_among rest l) (sym more) ∙ kept.unlike in
    let from_there = c.from_position-rest.ensures in
    let first = ap (λ r. first_is r x) (sym from_there) ∙ sym c.begin_with.ensures in
    let next = drop (i + 1) items in
    record {
      unlike = elim c.if-not-begin_with.branch [
        | then-not-begin_with+in_ok-push w ↦
            ap (λ l. l.items ++ not_among c.from_position-rest.result.now next) w.unlike-is
            ∙ ap (λ l. l ++ not_among c.from_position-rest.result.now next) w.in_ok-push.ensures.items
            ∙ ap (λ r. (c.loop-item.unlike.items ++ x ∷ []) ++ not_among r next) from_there
            ∙ is_unlike x next rest c.loop-item.unlike.items _ kept.items.0 kept.items.1 kept.others.0 kept.others.1
            apart kept.others.2 now (first ∙ w.if-not-begin_with.true)
        | else-not-begin_with w ↦
            ap (λ l. l.items ++ not_among c.from_position-rest.result.now next) w.unlike-is
            ∙ ap (λ r. c.loop-item.unlike.items ++ not_among r next) from_there
            ∙ is_there x next rest c.loop-item.unlike.items _ kept.items.0 kept.items.1 kept.others.0 kept.others.1
            apart kept.others.2 now (first ∙ w.if-not-begin_with.false)
      ];
      items = (end_of (planned x), kept.items.1, apart.2);
      others =
          let further =
          apart_dropped kept.others.0 kept.others.1 rest (position_or_len (begin_at x.pos) rest) kept.others.2 in (
            further.0,
            kept.others.1,
            subst (λ r. AreApart planned further.0 kept.others.1 r) (sym from_there)
                further.1,
          );
    }
