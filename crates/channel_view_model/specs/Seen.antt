-- Part of the promise: what a command of a channel may ask of what the channel sees.
use Rattle.std.specs.Prelude.{ℕ, List, [], ◌∷◌, ◌&&◌, ◌==◌, map, filter}
use Rattle.std.specs.List.{flat_map}
use Rattle.vault_core.specs.declared.offer.Offer.{Offer}
use Rattle.vault_core.specs.Questions.{Questions, listed}
use Rattle.vault_core.specs.Own.{OwnSeen, own_seen}
use Rattle.grant_core.specs.declared.grant.Grant.{Grant}
use Rattle.playlist_core.specs.Source.{SourcesSeen}
use Rattle.playlist_core.specs.Day.{Day}
use Rattle.asrun_match.specs.declared.day.DayAsRun.{DayAsRun}
use Rattle.report_texts.specs.Lent.{lent_line}
use Rattle.channel_view_model.specs.declared.view.View.{View}
use Rattle.channel_view_model.specs.Tables.{Table}

-- of its own rows, of its days, of what was aired of these, and of the clips that are lent to it
pub record Seen : Type 0 where
  pub own : OwnSeen
  pub days : Questions Day
  pub aired : Questions DayAsRun
  pub lent : Questions Grant

-- of what the channel sees by itself
abbrev pub seen_in : View → Seen
seen_in v = record { own = own_seen v.own; days = listed v.days; aired = listed v.aired; lent = listed v.lent }

-- the clips and the lent clips that items may show
abbrev pub sources_seen : Seen → SourcesSeen
sources_seen seen = record {
  clip = λ n. seen.own.clips.first (λ k. k.n == n);
  grant = λ owner n. seen.lent.first (λ g. g.owner == owner && g.offer.n == n);
}

-- an offer beside its owner, as its grantee sees it
abbrev pub grant_of : ℕ × Offer → Grant
grant_of r = record { owner = r.0; offer = r.1 }

-- the offers of all channels that are to channel c
abbrev pub grants_to : ℕ → Table Offer → List Grant
grants_to c offers = map grant_of (filter (λ r. r.1.grantee == c) offers)

-- the line of an offer in the lent table of channel c, if it is to c
abbrev pub grant_lines : ℕ → ℕ × Offer → List ℕ
grant_lines c r = flat_map lent_line (grants_to c (r ∷ []))
