-- What was done over the tables of a file.
use Rattle.std.proofs.Common.{inl, inr}
use Rattle.std.proofs.KnownBytes.{Keeps-refl}
use Rattle.playout_cli.proofs.acting.act_on_file.Goals as goal

pub returns-clause-does : goal.returns-clause-does
returns-clause-does g c =
    inr (c.in-Ok.conn, c.act_on_tables-conn.result.0, c.in-Ok.ensures.holds, c.act_on_tables-conn.ensures.does)

pub returns-in-Err-clause-does : goal.returns-in-Err-clause-does
returns-in-Err-clause-does g c =
    let told = c.exit_status.ensures in
    inl (Keeps-refl _, Keeps-refl _, (c.in-Err.fault, c.in-Err.ensures.err, told.0, told.1))
