-- What a call leaves of a database as a whole: what a stop may leave of it, and why it was refused.
use Rattle.std.specs.Prelude.{◌≡◌, ◌⊎◌, Result, IfErr}
use Rattle.sqlite_trees.specs.Tree.{Trees}
use Rattle.sqlite.specs.State.{State}
use Rattle.channel_plan.specs.declared.refusal.Code.{Code}
use Rattle.channel_plan.specs.declared.refusal.Code.TheVariants.{NotOurs, Unavailable}

-- A stop leaves what was last committed, and nothing else.
abbrev pub IsAlone : State → Type 0
IsAlone s = (db : Trees) → s.may_leave db → db ≡ s.committed.trees

-- where the call was refused with this code
abbrev pub OnCode : {X : Type 0} → Result X Code → Code → Type 0 → Type 0
OnCode result code P = IfErr result (λ e. e ≡ code → P)

-- The database isn't that of a centre, or it can't be told.
abbrev pub IsFault : Code → Type 0
IsFault e = (e ≡ NotOurs) ⊎ (e ≡ Unavailable)
