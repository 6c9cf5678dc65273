-- `run`: answers requests of any channels in order, each with one outcome.
use Rattle.std.proofs.Common.{◌≡◌, ◌+◌, ◌<◌, inl, [], ◌∷◌, ◌++◌, length, take, refl, sym, ◌∙◌, ap, subst, arith}
use Rattle.std.proofs.lemmas.List.{take_more, take_all, length-append}
use Rattle.channel_view_model.specs.declared.command.Outcome.{Outcome}
use Rattle.channel_view_model.specs.Centre.{Request}
use Rattle.channel_view_laws.proofs.ServedLemmas.{served_more, rows_more, rules_more, served_alone, served_purged}
use Rattle.channel_view_laws.proofs.ServedLemmas.{stops_more, remains_all}
use Rattle.channel_view_laws.proofs.PartLemmas.{served_part, rows-of_whole}
use Rattle.channel_view_laws.specs.Runs.{kept}
use Rattle.channel_view_requests.proofs.runs.run.Goals as goal

pub loop-request-init : goal.loop-request-init
loop-request-init g c = record {
  clean = λ clean. clean;
  served = λ clean rows stands. rw c.in_ok-outcomes.ensures.items (record { count = refl; told = refl });
  stands = λ clean rows stands. stands;
  rules = λ clean rows stands. inl refl;
  stop = λ clean rows stands left may. may;
  sets = λ clean rows stands held. held;
  count = ap length c.in_ok-outcomes.ensures.items;
  room = c.in_ok-outcomes.ensures.capacity;
  len = c.in_ok-outcomes.ensures.len;
}

-- with room for all outcomes a push isn't refused
pub returns-in_err-push-clause-err : goal.returns-in_err-push-clause-err
returns-in_err-push-clause-err g c = absurd (omega (arith, c.in_err-push.ensures.full))

pub loop-request-preserved : goal.loop-request-preserved
loop-request-preserved g c =
    let inv = c.loop-request.invariant in
    let requests = c.args.requests.now in
    let i = c.loop-request.request-index in
    let asked : Request = c.request-item.result in
    let within : i < length requests = omega arith in
    let more : take (i + 1) requests ≡ take i requests ++ asked ∷ [] =
    take_more requests i asked within ∙ ap (λ r. take i requests ++ r ∷ []) (sym c.request-item.is) in
    record {
      clean = λ clean. inv.clean (c.handle-outcome.ensures.clean clean);
      served = λ clean rows stands.
          let before = c.handle-outcome.ensures.clean clean in
          rw (more, c.in_ok-push.ensures.items)
          (served_more rows _ _ asked _ (inv.served before rows stands)
          (c.handle-outcome.ensures.answer clean _ (inv.stands before rows stands)));
      stands = λ clean rows stands.
          let before = c.handle-outcome.ensures.clean clean in
          let served = inv.served before rows stands in
          rw (more, c.in_ok-push.ensures.items)
          (subst (g.S.RowStore.stands_for _) (rows_more rows _ _ asked _ served.count)
          (c.handle-outcome.ensures.rows clean _ (inv.stands before rows stands)));
      rules = λ clean rows stands.
          let before = c.handle-outcome.ensures.clean clean in
          let served = inv.served before rows stands in
          rw (more, c.in_ok-push.ensures.items)
          (rules_more rows _ _ asked _ served.count (inv.rules before rows stands)
          (c.handle-outcome.ensures.rules clean _ (inv.stands before rows stands)));
      stop = λ clean rows stands left may.
          let before = c.handle-outcome.ensures.clean clean in
          let served = inv.served before rows stands in
          rw (more, c.in_ok-push.ensures.items)
          (stops_more _ _ rows _ _ asked _ served.count (inv.stop before rows stands) left
          (c.handle-outcome.ensures.stop clean _ (inv.stands before rows stands) left may));
      sets = λ clean rows stands held.
          let before = c.handle-outcome.ensures.clean clean in
          c.handle-outcome.ensures.sets clean _ (inv.stands before rows stands) (inv.sets before rows stands held);
      count = ap length c.in_ok-push.ensures.items ∙ omega (arith, length-append {A = Outcome});
      room = omega (arith, c.in_ok-push.ensures.capacity);
      len = omega (arith, c.in_ok-push.ensures.len);
    }

-- all requests were taken
pub returns-clause-ran : goal.returns-clause-ran
returns-clause-ran g c = λ clean rows stands.
    let all = take_all c.loop-request.request-index c.args.requests.now c.loop-request-test.false in
    let inv = c.loop-request.invariant in
    let served = inv.served clean rows stands in
    record {
      outcomes = rw all at served.told;
      stands = rw all at (inv.stands clean rows stands);
      rules = rw all at (inv.rules clean rows stands);
    }

pub returns-clause-apart : goal.returns-clause-apart
returns-clause-apart g c = λ clean rows stands.
    let ran = returns-clause-ran g c clean rows stands in
    let os = c.loop-request.outcomes.items in
    record {
      alone = served_alone rows c.args.requests.now os ran.outcomes ran.rules;
      purged = served_purged rows c.args.requests.now os ran.outcomes ran.rules;
    }

pub returns-clause-part : goal.returns-clause-part
returns-clause-part g c = λ clean rows stands.
    let ran = returns-clause-ran g c clean rows stands in
    let requests = c.args.requests.now in
    let os = c.loop-request.outcomes.items in
    record {
      outcomes = λ mine whole all part ch is. served_part rows requests os ran.outcomes mine whole all part ch is;
      stands =
          λ mine whole all part. subst (g.S.RowStore.stands_for _)
          (rows-of_whole mine whole all rows (kept requests os) part) ran.stands;
    }

pub returns-clause-stop : goal.returns-clause-stop
returns-clause-stop g c = λ clean rows stands.
    let ran = returns-clause-ran g c clean rows stands in
    let all = take_all c.loop-request.request-index c.args.requests.now c.loop-request-test.false in
    let each = rw all at (c.loop-request.invariant.stop clean rows stands) in
    record {
      each = each;
      remains =
          λ in_doubt before left may. remains_all _ in_doubt rows c.args.requests.now c.loop-request.outcomes.items
          ran.outcomes before left (each left may);
    }
