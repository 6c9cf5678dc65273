-- The text of a table of one channel.
use Rattle.std.specs.Prelude.{ℕ, List, [], Option, Some, None}
use Rattle.report_texts.specs.Vault.{vault_text}
use Rattle.report_texts.specs.Clips.{clip_text}
use Rattle.report_texts.specs.Offers.{offer_text}
use Rattle.report_texts.specs.Lent.{lent_text}
use Rattle.report_texts.specs.Days.{days_text}
use Rattle.channel_view_model.specs.declared.table.Table.{Table}
use Rattle.channel_view_model.specs.declared.table.Table.TheVariants.{Vault, Clips, Offers, Lent, Days}
use Rattle.channel_view_model.specs.declared.view.View.{View}
use Rattle.channel_view_model.specs.Seen.{Seen, seen_in}

-- of what the channel sees
unfoldable pub text_seen : Table → Seen → List ℕ
text_seen Vault seen = vault_text seen.own.plan seen.own.tapes.all
text_seen Clips seen = clip_text seen.own.plan.rate seen.own.clips.all
text_seen Offers seen = offer_text seen.own.offers.all
text_seen Lent seen = lent_text seen.lent.all
text_seen Days seen = days_text seen.aired.all seen.days.all

-- of what it sees by itself
abbrev pub table_text : Table → View → List ℕ
table_text table view = text_seen table (seen_in view)

-- of what it sees, if it is in the plan
abbrev pub text_at : Table → Option View → List ℕ
text_at table None = []
text_at table (Some view) = table_text table view
