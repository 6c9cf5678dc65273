-- `answer_all`: answers messages in order.
use Rattle.std.proofs.Common.{◌+◌, [], ap, ◌∙◌, subst, arith, rules}
use Rattle.channel_view_laws.proofs.AgainLemmas.{resumed}
use Rattle.http_office.specs.Alone.{kept_commands}
use Rattle.http_office.proofs.RunLemmas.{all_step, did_nothing, left_is}
use Rattle.http_office.proofs.AloneLemmas.{answered_all, rules_all, stands_so, given_alone, given_purged}
use Rattle.http_office.proofs.AloneLemmas.{given_of_whole, left_of_whole}
use Rattle.http_office.proofs.messages.answer_all.Goals as goal

pub loop-message-init : goal.loop-message-init
loop-message-init g c =
    let store = g.S.RowStore in
    record {
      room = search (rules);
      count = search (rules);
      answered = (
        [],
        tt,
        rw c.in-Ok-with_capacity.ensures.items
            (did_nothing store.is_clean store.stands_for store.may_leave store.leaves_sets _),
      );
    }

pub loop-message-preserved : goal.loop-message-preserved
loop-message-preserved g c =
    let store = g.S.RowStore in
    record {
      room = c.push_reserved.ensures.capacity ∙ c.loop-message.invariant.room;
      count = c.push_reserved.ensures.len ∙ ap (λ n. n + 1) c.loop-message.invariant.count;
      answered =
          all_step store.is_clean store.stands_for store.may_leave store.leaves_sets _ _ _ c.args.messages.now
          c.loop-message.answers.items _ c.loop-message.message-index c.message-item.result _
          c.answer_with-answer.result
          (omega arith) c.loop-message.invariant.answered c.message-item.is c.deref.ensures.value
          c.answer_with-answer.ensures c.push_reserved.ensures.items;
    }

pub returns-clause-alone : goal.returns-clause-alone
returns-clause-alone g c = λ clean rows stands asked is ch.
    let store = g.S.RowStore in
    given_alone ch rows asked c.loop-message.answers.items
    (answered_all store.is_clean store.stands_for store.may_leave store.leaves_sets c.args.store.now
    c.loop-message.store c.args.messages.now c.loop-message.answers.items
    c.loop-message.message-index (omega arith) c.loop-message.invariant.answered clean rows stands asked is)
    (rules_all store.is_clean store.stands_for store.may_leave store.leaves_sets c.args.store.now c.loop-message.store
    c.args.messages.now c.loop-message.answers.items
    c.loop-message.message-index (omega arith) c.loop-message.invariant.answered clean rows stands asked is)

pub returns-clause-purged : goal.returns-clause-purged
returns-clause-purged g c = λ clean rows stands asked is ch.
    let store = g.S.RowStore in
    given_purged ch rows asked c.loop-message.answers.items
    (answered_all store.is_clean store.stands_for store.may_leave store.leaves_sets c.args.store.now
    c.loop-message.store c.args.messages.now c.loop-message.answers.items
    c.loop-message.message-index (omega arith) c.loop-message.invariant.answered clean rows stands asked is)
    (rules_all store.is_clean store.stands_for store.may_leave store.leaves_sets c.args.store.now c.loop-message.store
    c.args.messages.now c.loop-message.answers.items
    c.loop-message.message-index (omega arith) c.loop-message.invariant.answered clean rows stands asked is)

pub returns-clause-part : goal.returns-clause-part
returns-clause-part g c = λ clean rows stands asked is mine whole all part ch its.
    let store = g.S.RowStore in
    given_of_whole mine whole all rows asked c.loop-message.answers.items part
    (answered_all store.is_clean store.stands_for store.may_leave store.leaves_sets c.args.store.now
    c.loop-message.store c.args.messages.now c.loop-message.answers.items
    c.loop-message.message-index (omega arith) c.loop-message.invariant.answered clean rows stands asked is) ch its

pub returns-clause-part_rows : goal.returns-clause-part_rows
returns-clause-part_rows g c = λ clean rows stands asked is mine whole all part.
    let store = g.S.RowStore in
    subst (store.stands_for c.loop-message.store)
    (left_of_whole mine whole all rows asked c.loop-message.answers.items part)
    (stands_so store.is_clean store.stands_for store.may_leave store.leaves_sets c.args.store.now
    c.loop-message.store c.args.messages.now c.loop-message.answers.items
    c.loop-message.message-index (omega arith) c.loop-message.invariant.answered clean rows stands asked is)

pub returns-clause-resumed : goal.returns-clause-resumed
returns-clause-resumed g c = λ clean rows stands asked is first known rules found.
    let store = g.S.RowStore in
    subst (store.stands_for c.loop-message.store)
    (left_is rows asked c.loop-message.answers.items
    ∙ resumed first rules known (kept_commands asked c.loop-message.answers.items) rows found)
    (stands_so store.is_clean store.stands_for store.may_leave store.leaves_sets c.args.store.now c.loop-message.store
    c.args.messages.now c.loop-message.answers.items
    c.loop-message.message-index (omega arith) c.loop-message.invariant.answered clean rows stands asked is)
