-- The loops of `answer_all` (answers messages in order).
use Rattle.std.proofs.Common.{◌≡◌, List, length, map, take, vec_len, vec_capacity}
use Rattle.http_office_requests.specs.Request.{Asked}
use Rattle.http_office.specs.Run.{HasAnswered, AreAskedBy}
use Rattle.http_office.proofs.messages.answer_all.Given as goal

-- those so far are answered, and there is room for the others
abbrev pub invariant-loop-message : goal.invariant-loop-message
invariant-loop-message g l =
    let store = g.S.RowStore in
    record {
      room : vec_capacity l.answers ≡ length l.messages;
      count : vec_len l.answers ≡ l.message-index;
      answered : (asked : List Asked) × AreAskedBy (map (λ m. m.items) (take l.message-index l.messages)) asked
          × HasAnswered store.is_clean store.stands_for store.may_leave store.leaves_sets l.fn.store l.store asked
          l.answers.items;
    }
