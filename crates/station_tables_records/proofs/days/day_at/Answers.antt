-- `day_at`: the day of a row of a planned channel.
use Rattle.std.proofs.Common.{Result, Ok, Err, OnOk, refl, sym, ◌∙◌, inr}
use Rattle.station_tables_records.proofs.MadeLemmas.{planned_found, planned_none}
use Rattle.station_tables_records.proofs.days.day_at.Goals as goal

on_ok : {X E : Type 0} (r : Result X E) (P : Type 0) → P → OnOk r P
on_ok (Ok x) P p = p
on_ok (Err e) P p = tt

pub returns-in_default-clause-fault : goal.returns-in_default-clause-fault
returns-in_default-clause-fault c =
    inr
    (refl, λ there kept. planned_none c.args.channel c.args.plan.now (sym c.in_default.is ∙ c.plan_row.ensures) there)

pub returns-clause-planned : goal.returns-clause-planned
returns-clause-planned c =
    on_ok c.day_of.result _
    (planned_found c.args.channel c.args.plan.now c.in-Some.planned (sym c.in-Some.is ∙ c.plan_row.ensures))
