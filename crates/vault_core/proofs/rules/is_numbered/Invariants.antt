-- The loops of `is_numbered` (whether the numbers are 1, 2 and so on).
use Rattle.std.proofs.Common.{◌≡◌, ◌+◌, drop}
use Rattle.vault_core.specs.Rules.{is_numbered_from}
use Rattle.vault_core.proofs.rules.is_numbered.Given as goal

-- what is left decides
abbrev pub invariant-loop-row : goal.invariant-loop-row
invariant-loop-row g l = record {
  next : l.next ≡ l.row-index + 1;
  left : is_numbered_from g.R.Numbered.number_of 1 l.rows
      ≡ is_numbered_from g.R.Numbered.number_of l.next (drop l.row-index l.rows);
}
