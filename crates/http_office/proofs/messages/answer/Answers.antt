-- `answer`: answers one message, and does what it asks.
use Rattle.std.proofs.Common.{◌≡◌, ◌⊎◌, inl, [], ◌∷◌, refl, sym, subst}
use Rattle.channel_view_model.specs.Rules.{KeepsRules}
use Rattle.http_office_requests.specs.Request.{Asked, refused}
use Rattle.http_office.specs.Message.{stop_asked}
use Rattle.http_office.specs.Run.{HasAnswered}
use Rattle.http_office.specs.Alone.{kept_commands}
use Rattle.http_office.proofs.MessageLemmas.{something_asked, whole_asked, one_request, rows_left-refused}
use Rattle.http_office.proofs.AloneLemmas.{unavailable_kept}
use Rattle.http_office.proofs.messages.answer.Goals as goal

pub returns-in_default-clause-answer : goal.returns-in_default-clause-answer
returns-in_default-clause-answer g c = λ clean rows stands. (
  refused 400,
  c.in_default.ensures.none,
  c.refuse.ensures rows,
  subst (g.S.RowStore.stands_for c.args.store.now) (sym (rows_left-refused rows 400 c.refuse.result)) stands,
)

pub returns-in_default-clause-stop : goal.returns-in_default-clause-stop
returns-in_default-clause-stop g c = λ clean rows stands a is left may.
    subst (λ x. stop_asked (g.S.RowStore.may_leave c.args.store.now) rows x c.refuse.result left)
    (one_request c.args.message.now (refused 400) a c.in_default.ensures.none is) may

pub returns-in-Err-clause-answer : goal.returns-in-Err-clause-answer
returns-in-Err-clause-answer g c = λ clean rows stands.
    let asked = something_asked c.args.message.now c.in-Some.next c.in-Some.ensures.some.0 c.in-Some.ensures.some.1 in
    (asked.0, asked.1, tt, stands)

pub returns-in-Ok-clause-answer : goal.returns-in-Ok-clause-answer
returns-in-Ok-clause-answer g c = λ clean rows stands.
    let did = whole_asked c.args.message.now c.in-Some.next
    (λ (a : Asked). HasAnswered g.S.RowStore.is_clean g.S.RowStore.stands_for g.S.RowStore.may_leave
    g.S.RowStore.leaves_sets c.args.store.now c.answer_piece.new.store (a ∷ []) (c.answer_piece.result ∷ []))
    c.in-Some.ensures.some.1 c.answer_piece.ensures in
    (did.0, did.1, (did.2.answered clean rows stands).0, did.2.rows clean rows stands)

pub returns-in-Ok-clause-stop : goal.returns-in-Ok-clause-stop
returns-in-Ok-clause-stop g c = λ clean rows stands a is left may.
    let did = whole_asked c.args.message.now c.in-Some.next
    (λ (a : Asked). HasAnswered g.S.RowStore.is_clean g.S.RowStore.stands_for g.S.RowStore.may_leave
    g.S.RowStore.leaves_sets c.args.store.now c.answer_piece.new.store (a ∷ []) (c.answer_piece.result ∷ []))
    c.in-Some.ensures.some.1 c.answer_piece.ensures in
    subst (λ x. stop_asked (g.S.RowStore.may_leave c.args.store.now) rows x c.answer_piece.result left)
    (one_request c.args.message.now did.0 a did.1 is) (did.2.stop clean rows stands left may)

pub returns-in_default-clause-rules : goal.returns-in_default-clause-rules
returns-in_default-clause-rules g c = λ clean rows stands a is.
    subst (λ (x : Asked). (kept_commands (x ∷ []) (c.refuse.result ∷ []) ≡ []) ⊎ KeepsRules rows)
    (one_request c.args.message.now (refused 400) a c.in_default.ensures.none is) (inl refl)

pub returns-in-Ok-clause-rules : goal.returns-in-Ok-clause-rules
returns-in-Ok-clause-rules g c = λ clean rows stands a is.
    let did = whole_asked c.args.message.now c.in-Some.next
    (λ (a : Asked). HasAnswered g.S.RowStore.is_clean g.S.RowStore.stands_for g.S.RowStore.may_leave
    g.S.RowStore.leaves_sets c.args.store.now c.answer_piece.new.store (a ∷ []) (c.answer_piece.result ∷ []))
    c.in-Some.ensures.some.1 c.answer_piece.ensures in
    subst (λ (x : Asked). (kept_commands (x ∷ []) (c.answer_piece.result ∷ []) ≡ []) ⊎ KeepsRules rows)
    (one_request c.args.message.now did.0 a did.1 is) (did.2.rules clean rows stands)

pub returns-in-Err-clause-rules : goal.returns-in-Err-clause-rules
returns-in-Err-clause-rules g c = λ clean rows stands a is. inl (unavailable_kept a)

pub returns-in-Ok-clause-sets : goal.returns-in-Ok-clause-sets
returns-in-Ok-clause-sets g c = λ clean rows stands held.
    let did = whole_asked c.args.message.now c.in-Some.next
    (λ (a : Asked). HasAnswered g.S.RowStore.is_clean g.S.RowStore.stands_for g.S.RowStore.may_leave
    g.S.RowStore.leaves_sets c.args.store.now c.answer_piece.new.store (a ∷ []) (c.answer_piece.result ∷ []))
    c.in-Some.ensures.some.1 c.answer_piece.ensures in
    did.2.sets clean rows stands held
