-- Part of the promise: a revision of a day as it is said: numbers of items that are taken out, and items that are put
-- in.
use Rattle.std.specs.Prelude.{ℕ, ◌+◌, List, length, Bool, true, ◌&&◌, ◌==◌, nat_le, Option, Some, None, if◌then◌else◌}
use Rattle.std.specs.List.{list_all}
use Rattle.playlist_core.specs.Limits.{most_items, most_mix, last_wipe}
use Rattle.channel_view_model.specs.declared.revision.SaidItem.{SaidItem}
use Rattle.channel_view_model.specs.declared.revision.Revised.{Revised}

pub record SaidRevision : Type 0 where
  pub remove : List ℕ
  pub add : List SaidItem

-- a mix and a wipe's number have at most three digits
abbrev pub is_wipe : Option ℕ → Bool
is_wipe None = true
is_wipe (Some n) = nat_le n last_wipe

abbrev pub is_said : SaidItem → Bool
is_said said = nat_le said.mix most_mix && is_wipe said.wipe

-- at most as many of each as a day may have
abbrev pub is_revision : SaidRevision → Bool
is_revision said =
    nat_le (length said.remove) most_items && nat_le (length said.add) most_items && list_all is_said said.add

abbrev pub revision_said : SaidRevision → Option SaidRevision
revision_said said = if is_revision said then Some said else None

abbrev pub says_nothing : SaidRevision → Bool
says_nothing said = length said.remove == 0 && length said.add == 0

-- how many are put in, and how many taken out
abbrev pub counts_said : SaidRevision → Revised
counts_said said = record { items = length said.add; removed = length said.remove }
