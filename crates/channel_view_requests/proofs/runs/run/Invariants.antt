-- The loops of `run` (answers requests of any channels in order, each with one outcome).
use Rattle.std.proofs.Common.{◌≡◌, ◌≤◌, ◌⊎◌, [], length, take}
use Rattle.std.specs.Vec.{vec_capacity, vec_len}
use Rattle.channel_view_model.specs.Centre.{Centre, after_all}
use Rattle.channel_view_model.specs.Rules.{KeepsRules}
use Rattle.channel_view_laws.specs.Runs.{kept, stop_after_all}
use Rattle.channel_view_laws.proofs.ServedLemmas.{Served}
use Rattle.channel_view_requests.proofs.runs.run.Given as goal

abbrev pub invariant-loop-request : goal.invariant-loop-request
invariant-loop-request g l = record {
  clean : g.S.RowStore.is_clean l.store → g.S.RowStore.is_clean l.fn.store;
  served : g.S.RowStore.is_clean l.store → (rows : Centre) → g.S.RowStore.stands_for l.fn.store rows
      → Served rows (take l.request-index l.requests) l.outcomes.items;
  stands : g.S.RowStore.is_clean l.store → (rows : Centre) → g.S.RowStore.stands_for l.fn.store rows
      → g.S.RowStore.stands_for l.store (after_all rows (kept (take l.request-index l.requests) l.outcomes.items));
  rules : g.S.RowStore.is_clean l.store → (rows : Centre) → g.S.RowStore.stands_for l.fn.store rows
      → (kept (take l.request-index l.requests) l.outcomes.items ≡ []) ⊎ KeepsRules rows;
  stop : g.S.RowStore.is_clean l.store → (rows : Centre) → g.S.RowStore.stands_for l.fn.store rows → (left : Centre)
      → g.S.RowStore.may_leave l.store left
      → stop_after_all (g.S.RowStore.may_leave l.fn.store) rows (take l.request-index l.requests) l.outcomes.items left;
  sets : g.S.RowStore.is_clean l.store → (rows : Centre) → g.S.RowStore.stands_for l.fn.store rows
      → g.S.RowStore.leaves_sets l.fn.store → g.S.RowStore.leaves_sets l.store;
  count : length l.outcomes.items ≡ l.request-index;
  room : length l.requests ≤ vec_capacity l.outcomes;
  len : vec_len l.outcomes ≡ l.request-index;
}
