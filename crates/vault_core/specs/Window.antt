-- Part of the promise: windows of broadcast days, by their numbers.
use Rattle.std.specs.Prelude.{ℕ, Bool, true, ◌&&◌, nat_lt, nat_le, Option, Some, None}
use Rattle.channel_plan.specs.Limits.{last_day}

pub record Window : Type 0 where
  pub first : ℕ
  pub last : ℕ

-- from a first to a last number that days have
abbrev pub is_window : ℕ → ℕ → Bool
is_window first last = nat_lt 0 first && (nat_le first last && nat_le last last_day)

-- a day from the first to the last, both of them included
abbrev pub is_in_window : Window → ℕ → Bool
is_in_window w day = nat_le w.first day && nat_le day w.last

-- where there is no window, each day is in it
abbrev pub is_in : Option Window → ℕ → Bool
is_in None day = true
is_in (Some w) day = is_in_window w day
