-- `commit_change`: makes a change of the channel (1 to 999) for good, in one transaction.
use Rattle.std.proofs.Common.{inl, inr, sym, ap, ◌∙◌, subst}
use Rattle.sqlite.specs.Held.{state}
use Rattle.channel_view_model.specs.Centre.{changed}
use Rattle.station_tables_statements.specs.Rows.{Holds, StandsFor, rows_of_tables}
use Rattle.station_tables_statements.proofs.LookLemmas.{weaker}
use Rattle.station_tables_writing.proofs.ChangeLemmas.{nothing_changed, both_ok, weaker_err}
use Rattle.station_tables_writing.proofs.StandLemmas.{leaves_on, stands_on}
use Rattle.station_tables_writing.proofs.applying.commit_change.Goals as goal

pub returns-in-Nothing-clause-ok : goal.returns-in-Nothing-clause-ok
returns-in-Nothing-clause-ok g c clean rows stands is =
    let ch = c.args.channel in
    subst (StandsFor (state g.S.Store c.args.conn.now))
    (sym (ap (λ change. changed ch change rows) c.in-Nothing.is ∙ nothing_changed ch rows)) stands

pub returns-in_default : goal.returns-in_default
returns-in_default g c =
    let old = state g.S.Store c.args.conn.now in
    let new = state g.S.Store c.commit_made.new.conn in
    let made = c.commit_made.ensures in
    record {
      idle = made.idle;
      ok = λ clean rows stands is. weaker c.commit_made.result (λ s early held. s) (made.ok clean rows stands is);
      err =
          λ clean rows stands. weaker_err c.commit_made.result
          (λ left. stands_on old new rows left (made.clean clean) stands) (made.err clean);
      empty = λ nothing. absurd (c.in_default.not-Nothing nothing);
      clean = made.clean;
      stop =
          λ clean rows stands is left may. elim ((made.survives rows stands is).crash clean may.0 may.1)
          [ inl before ↦ inl (may.0, before, may.2) | inr after ↦ inr (sym may.2 ∙ after.rows_are) ];
      stop_ok = λ clean rows stands is. weaker c.commit_made.result
          (λ both left may. inl
          (sym may.2 ∙ ap rows_of_tables (both.0 may.0 may.1 ∙ ap (λ s. s.trees) both.1.committed)
          ∙ both.1.holds.rows_are))
          (both_ok c.commit_made.result _ _ (made.alone clean) (made.ok clean rows stands is));
      sets =
          λ rows stands is. leaves_on old new (Holds (changed c.args.channel c.args.change.now rows))
          (λ db held. (changed c.args.channel c.args.change.now rows, held)) (made.survives rows stands is);
    }
