-- Part of the promise: offers: the copy of a clip that is lent to another channel.
use Rattle.std.specs.Prelude.{ℕ, Bool, false, not, ◌&&◌, ◌==◌, nat_lt, nat_le, Option, Some, None, bytes_eq}
use Rattle.timecode.specs.Rate.{is_same_rate}
use Rattle.umid.specs.BasicUmid.{UmidParts, basic_umid}
use Rattle.channel_plan.specs.Limits.{last_channel}
use Rattle.channel_plan.specs.declared.plan.PlanRow.{PlanRow}
use Rattle.vault_core.specs.declared.clip.Clip.{Clip}
use Rattle.vault_core.specs.declared.offer.Offer.{Offer}
use Rattle.vault_core.specs.Window.{Window}

-- a clip's UMID as its grantee has it: with the grantee for the instance number
abbrev pub granted_umid : UmidParts → ℕ → UmidParts
granted_umid umid grantee = record umid { instance_number = grantee }

-- offer n of a clip of this channel, for a window of days or for any, open
abbrev pub granted_copy : PlanRow → ℕ → ℕ → Option Window → Clip → Offer
granted_copy plan n grantee window k = record {
  n = n;
  grantee = grantee;
  clip = k.n;
  title = k.title;
  umid = granted_umid k.umid grantee;
  rate = plan.rate;
  src_first = k.src_first;
  frames = k.frames;
  window = window;
  withdrawn = false;
}

-- an offer has what the clip has
unfoldable pub is_copy : PlanRow → Offer → Clip → Bool
is_copy plan o k =
    bytes_eq o.title k.title && bytes_eq (basic_umid o.umid) (basic_umid (granted_umid k.umid o.grantee))
    && is_same_rate o.rate plan.rate && (o.src_first == k.src_first && o.frames == k.frames)

-- the clip is there, and the offer has what it has
abbrev pub matches_clip : PlanRow → Offer → Option Clip → Bool
matches_clip plan o None = false
matches_clip plan o (Some k) = is_copy plan o k

-- a channel other than this one
abbrev pub is_grantee : PlanRow → ℕ → Bool
is_grantee plan grantee = nat_lt 0 grantee && nat_le grantee last_channel && not (grantee == plan.ch)

-- an offer that stands, of this clip to this grantee
abbrev pub is_open_to : ℕ → ℕ → Offer → Bool
is_open_to clip grantee o = not o.withdrawn && (o.clip == clip && o.grantee == grantee)
