-- Where a channel's row stands in the table of all.
use Rattle.std.specs.Prelude.{◌≡◌, ℕ, Bool, true, false, ◌&&◌, ◌==◌, Option, Some, None}
use Rattle.vault_core.specs.Rules.{is_numbered_from}
use Rattle.channel_view_model.specs.Tables.{rows_of}
use Rattle.channel_view_model.specs.Centre.{Centre}

-- whether a row is the channel's of this day
abbrev pub is_day_at : {A : Type 0} → (A → ℕ) → ℕ → ℕ → Option (ℕ × A) → Bool
is_day_at key c n None = false
is_day_at key c n (Some r) = r.0 == c && key r.1 == n

-- the clips of channel c are numbered from 1, and so are the offers of each
pub record AreSourcesNumbered (c : ℕ) (rows : Centre) : Type 0 where
  pub clips : is_numbered_from (λ k. k.n) 1 (rows_of c rows.clips) ≡ true
  pub offers : (owner : ℕ) → is_numbered_from (λ o. o.n) 1 (rows_of owner rows.offers) ≡ true
