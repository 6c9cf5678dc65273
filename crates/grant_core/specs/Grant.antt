-- Lent clips: the offers to one channel, each with its owner.
use Rattle.std.specs.Prelude.{◌≡◌, ℕ, ◌+◌, List, [], ◌∷◌, ◌++◌, Bool, true, not, ◌&&◌, ◌||◌, ◌==◌, nat_lt, nat_le}
use Rattle.std.specs.Prelude.{map, filter, bytes_eq, Option, Some, None, if◌then◌else◌}
use Rattle.std.specs.List.{list_all}
use Rattle.timecode.specs.Counting.{day_length}
use Rattle.timecode.specs.Decimal.{in_digits}
use Rattle.timecode.specs.Letters.{letter_L}
use Rattle.timecode.specs.Rate.{is_same_rate}
use Rattle.umid.specs.BasicUmid.{basic_umid}
use Rattle.channel_plan.specs.Limits.{last_channel}
use Rattle.vault_core.specs.Limits.{most_clips, most_offers}
use Rattle.vault_core.specs.declared.offer.Offer.{Offer}
use Rattle.vault_core.specs.Own.{Own}
use Rattle.vault_core.specs.Rules.{are_apart}
use Rattle.grant_core.specs.declared.grant.Grant.{Grant}

-- by owner, and by number
abbrev pub is_before : Grant → Grant → Bool
is_before g h = nat_lt g.owner h.owner || (g.owner == h.owner && nat_lt g.offer.n h.offer.n)

-- to this channel, from another one, each with a number that offers have
abbrev pub is_lent_to : ℕ → Grant → Bool
is_lent_to channel g =
    g.offer.grantee == channel && (nat_lt 0 g.owner && nat_le g.owner last_channel) && not (g.owner == channel)
    && (nat_lt 0 g.offer.n && nat_le g.offer.n most_offers)

abbrev pub is_before_first : Grant → List Grant → Bool
is_before_first g [] = true
is_before_first g (h ∷ hs) = is_before g h

-- each before the next
abbrev pub are_in_order : List Grant → Bool
are_in_order [] = true
are_in_order (g ∷ gs) = is_before_first g gs && are_in_order gs

abbrev pub AreInOrder : List Grant → Type 0
AreInOrder gs = are_in_order gs ≡ true

-- in front of the grant of this owner and number
abbrev pub is_below : ℕ → ℕ → Grant → Bool
is_below owner n g = nat_lt g.owner owner || (g.owner == owner && nat_lt g.offer.n n)

-- the grant, if it is that of this owner and number
abbrev pub if_grant : ℕ → ℕ → Option Grant → Option Grant
if_grant owner n None = None
if_grant owner n (Some g) = if g.owner == owner && g.offer.n == n then Some g else None

-- with what a clip has that is lent to this channel: a number that clips have, the channel for its UMID's instance
-- number, and one frame or more, none behind the last of the day at its rate
abbrev pub is_clip_lent_to : ℕ → Grant → Bool
is_clip_lent_to channel g =
    (nat_lt 0 g.offer.clip && nat_le g.offer.clip most_clips) && g.offer.umid.instance_number == channel
    && (nat_lt 0 g.offer.frames && nat_le (g.offer.src_first + g.offer.frames) (day_length g.offer.rate))

-- both are open, and of the same clip of one owner
abbrev pub lend_the_same : Grant → Grant → Bool
lend_the_same g h = not g.offer.withdrawn && not h.offer.withdrawn
    && (g.owner == h.owner && g.offer.clip == h.offer.clip)

-- both are of one owner, at different rates
abbrev pub differ_in_rate : Grant → Grant → Bool
differ_in_rate g h = g.owner == h.owner && not (is_same_rate g.offer.rate h.offer.rate)

-- one copy: of the same title, UMID, first frame and length; their windows and states may differ
unfoldable pub is_same_copy : Offer → Offer → Bool
is_same_copy o p =
    bytes_eq o.title p.title && bytes_eq (basic_umid o.umid) (basic_umid p.umid)
    && (o.src_first == p.src_first && o.frames == p.frames)

-- both are of the same clip of one owner, and aren't one copy
abbrev pub differ_as_copies : Grant → Grant → Bool
differ_as_copies g h = (g.owner == h.owner && g.offer.clip == h.offer.clip) && not (is_same_copy g.offer h.offer)

-- What the offers to a channel show of the rules by themselves, in the order in which they are kept.
pub record KeepsLentRules (channel : ℕ) (grants : List Grant) : Type 0 where
  pub fields : list_all (is_lent_to channel) grants ≡ true
  pub clips : list_all (is_clip_lent_to channel) grants ≡ true
  pub order : are_in_order grants ≡ true
  pub apart : are_apart lend_the_same grants ≡ true
  pub rates : are_apart differ_in_rate grants ≡ true
  pub copies : are_apart differ_as_copies grants ≡ true

-- an offer of this owner
abbrev pub grant_by : ℕ → Offer → Grant
grant_by owner o = record { owner = owner; offer = o }

-- what the offers of own rows are to this channel
abbrev pub lent_by : Own → ℕ → List Grant
lent_by own channel = map (grant_by own.plan.ch) (filter (λ o. o.grantee == channel) own.offers)

-- the owner of each of these comes before that of each of those
abbrev pub owners_before : List Grant → List Grant → Bool
owners_before gs hs = list_all (λ g. list_all (λ h. nat_lt g.owner h.owner) hs) gs

-- the reel of a lent clip: `L`, its owner in 3 digits and the offer's number in 4
abbrev pub lent_reel : ℕ → ℕ → List ℕ
lent_reel owner n = letter_L ∷ (in_digits 3 owner ++ in_digits 4 n)
