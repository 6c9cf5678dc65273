-- `put_row`: one more row, or one in the place of the one that has its number.
use Rattle.std.proofs.Common.{◌∙◌, refl, sym, ap, subst}
use Rattle.std.specs.Prelude.{◌==◌, Result, Ok, Err, OnOk}
use Rattle.channel_view_model.specs.Puts.{IsPutAmong}
use Rattle.channel_view_model.specs.Tables.{rows_of, alter_row}
use Rattle.channel_view_model.proofs.PutRowLemmas.{replace_adds, replace_alters}
use Rattle.channel_view.proofs.mem.put_row.Goals as goal

on_ok : {T E P Q : Type 0} (r : Result T E) → (P → Q) → OnOk r P → OnOk r Q
on_ok (Ok x) f p = f p
on_ok (Err e) f p = tt

pub returns-in-Added-clause-ok : goal.returns-in-Added-clause-ok
returns-in-Added-clause-ok g c = λ number is h may.
    let last =
    subst (λ put. IsPutAmong number put c.args.row (rows_of c.args.channel c.args.table.now.items)) c.in-Added.is
    may in
    on_ok c.add_row.result
    (λ e. e ∙ sym (replace_adds number c.args.channel 1 c.args.row c.args.table.now.items h last))
    c.add_row.ensures.ok

pub returns-in-Changed-clause-ok : goal.returns-in-Changed-clause-ok
returns-in-Changed-clause-ok g c = λ number is h may.
    let there =
    subst (λ put. IsPutAmong number put c.args.row (rows_of c.args.channel c.args.table.now.items)) c.in-Changed.is
    may in
    c.set_row.ensures.rows number h
    ∙ ap (λ n. alter_row c.args.channel (λ x. number x == n) (λ x. c.args.row) c.args.table.now.items) (sym is)
    ∙ sym
    (replace_alters number c.args.channel (λ x. c.args.row) 1 c.args.row there.0 c.args.table.now.items c.requires h
    there.1 refl)
