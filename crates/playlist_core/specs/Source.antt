-- What an item shows: black, bars, a clip of the channel or one that is lent to it.
use Rattle.std.specs.Prelude.{ℕ, ◌+◌, ◌/◌, ◌%◌, ◌^◌, List, [], ◌∷◌, Bool, true, ◌||◌, ◌&&◌, ◌==◌, nat_lt}
use Rattle.std.specs.Prelude.{Option, Some, None, ◌⊎◌, find, codes, bytes_eq, if◌then◌else◌}
use Rattle.std.proofs.Common.{inl, inr}
use Rattle.timecode.specs.Letters.{letter_C, letter_L}
use Rattle.vault_core.specs.declared.clip.Clip.{Clip}
use Rattle.vault_core.specs.Reel.{clip_reel}
use Rattle.grant_core.specs.declared.grant.Grant.{Grant}
use Rattle.grant_core.specs.ClipRef.{seven_digits}
use Rattle.grant_core.specs.Grant.{lent_reel}
use Rattle.playlist_core.specs.declared.source.Source.{Source}
use Rattle.playlist_core.specs.declared.source.Source.TheVariants.{Black, Bars, Own, Lent}
use Rattle.playlist_core.specs.declared.source.SourceRow.{SourceRow}
use Rattle.playlist_core.specs.declared.source.SourceRow.TheVariants.{Own as OwnRow, Lent as LentRow}

-- the source frame at the kth frame of what begins at the source's frame `first`; black and bars have frame 0
-- throughout
abbrev pub source_frame : Source → ℕ → ℕ → ℕ
source_frame Black first k = 0
source_frame Bars first k = 0
source_frame (Own n) first k = first + k
source_frame (Lent owner n) first k = first + k

abbrev pub own_source : Option ℕ → Option Source
own_source None = None
own_source (Some n) = Some (Own n)

-- of the 7 digits the first 3 are the owner, the other 4 the number of the offer
abbrev pub lent_source : Option ℕ → Option Source
lent_source None = None
lent_source (Some n) = Some (Lent (n / 10000) (n % 10000))

-- `C` and 7 digits is a clip by its number; `L` and 7 digits is a lent one
abbrev pub numbered_source : List ℕ → Option Source
numbered_source [] = None
numbered_source (b ∷ digits) =
    if b == letter_C then own_source (seven_digits digits) else
    if b == letter_L then lent_source (seven_digits digits) else
    None

-- the source that a reel names, if it names one
abbrev pub source_of_reel : List ℕ → Option Source
source_of_reel reel =
    if bytes_eq reel (codes "BL") || bytes_eq reel (codes "BLACK") then Some Black else
    if bytes_eq reel (codes "BARS") then Some Bars else
    numbered_source reel

-- the reel of a source
abbrev pub source_reel : Source → List ℕ
source_reel Black = codes "BL"
source_reel Bars = codes "BARS"
source_reel (Own n) = clip_reel n
source_reel (Lent owner n) = lent_reel owner n

-- a clip's number has at most 7 digits, an owner's 3, and that of an offer 4: the reel of the source names it
abbrev pub is_source : Source → Bool
is_source Black = true
is_source Bars = true
is_source (Own n) = nat_lt n (10 ^ 7)
is_source (Lent owner n) = nat_lt owner 1000 && nat_lt n (10 ^ 4)

-- The clips, by number, and the lent clips, by owner and number, that sources may name.
pub record SourcesSeen : Type 0 where
  pub clip : ℕ → Option Clip
  pub grant : ℕ → ℕ → Option Grant

-- rows that sources may name
pub record RowsSeen : Type 0 where
  pub clips : List Clip
  pub grants : List Grant

-- those of one channel
abbrev pub seen_of : List Clip → List Grant → SourcesSeen
seen_of clips grants = record {
  clip = λ n. find (λ k. k.n == n) clips;
  grant = λ owner n. find (λ g. g.owner == owner && g.offer.n == n) grants;
}

abbrev pub of_clip : Option Clip → Option (Clip ⊎ Grant)
of_clip None = None
of_clip (Some k) = Some (inl k)

abbrev pub of_grant : Option Grant → Option (Clip ⊎ Grant)
of_grant None = None
of_grant (Some g) = Some (inr g)

-- the clip or the lent clip that a source names, if it is there; black and bars name none
abbrev pub found : SourcesSeen → Source → Option (Clip ⊎ Grant)
found seen Black = None
found seen Bars = None
found seen (Own n) = of_clip (seen.clip n)
found seen (Lent owner n) = of_grant (seen.grant owner n)

abbrev pub row_seen : SourceRow → Clip ⊎ Grant
row_seen (OwnRow k) = inl k.now
row_seen (LentRow g) = inr g.now
