-- Part of the promise: the integrity rules of one channel's own rows.
use Rattle.std.specs.Prelude.{◌≡◌, ℕ, ◌+◌, List, [], ◌∷◌, Bool, true, not, ◌&&◌, ◌==◌, nat_eq, nat_lt, nat_le, Option}
use Rattle.std.specs.Prelude.{Some, None, length, map, find, bytes_eq, if◌then◌else◌}
use Rattle.std.specs.List.{list_any, list_all, filter_map}
use Rattle.umid.specs.BasicUmid.{is_umid}
use Rattle.channel_plan.specs.declared.plan.PlanRow.{PlanRow}
use Rattle.vault_core.specs.Limits.{most_tapes, most_clips, most_offers}
use Rattle.vault_core.specs.declared.tape.Tape.{Tape}
use Rattle.vault_core.specs.declared.clip.Clip.{Clip}
use Rattle.vault_core.specs.declared.offer.Offer.{Offer}
use Rattle.channel_plan.specs.Plan.{is_plan_row}
use Rattle.vault_core.specs.Tape.{is_barcode}
use Rattle.vault_core.specs.Clip.{is_title, is_clip_range, umid_bytes}
use Rattle.vault_core.specs.Offer.{matches_clip, is_grantee}
use Rattle.vault_core.specs.Own.{Own}

-- numbered from n on without a hole
abbrev pub is_numbered_from : {R : Type 0} → (R → ℕ) → ℕ → List R → Bool
is_numbered_from number n [] = true
is_numbered_from number n (r ∷ rs) = number r == n && is_numbered_from number (n + 1) rs

-- no two are equal
abbrev pub are_apart : {K : Type 0} → (K → K → Bool) → List K → Bool
are_apart equal [] = true
are_apart equal (x ∷ xs) = not (list_any (equal x) xs) && are_apart equal xs

-- a slot of the shelf, or none
abbrev pub is_slot : ℕ → Option ℕ → Bool
is_slot slots None = true
is_slot slots (Some s) = nat_lt 0 s && nat_le s slots

-- the fields of a tape
abbrev pub is_tape : ℕ → Tape → Bool
is_tape slots t = is_barcode t.barcode && is_slot slots t.slot

abbrev pub barcodes_of : List Tape → List (List ℕ)
barcodes_of tapes = map (λ t. t.barcode) tapes

-- the slots in which tapes stand
abbrev pub slots_of : List Tape → List ℕ
slots_of tapes = filter_map (λ t. t.slot) tapes

-- the fields of a clip, where there are so many tapes: as they are numbered from 1 without a hole, its tape is there
abbrev pub is_clip : PlanRow → ℕ → Clip → Bool
is_clip plan tapes c =
    is_title c.title && is_umid c.umid && (nat_lt 0 c.tape && nat_le c.tape tapes)
    && is_clip_range plan c.src_first c.frames

abbrev pub umids_of : List Clip → List (List ℕ)
umids_of clips = map umid_bytes clips

-- the clips' part, where there are so many tapes
pub record KeepsClipRules (plan : PlanRow) (tapes : ℕ) (clips : List Clip) : Type 0 where
  pub fields : list_all (is_clip plan tapes) clips ≡ true
  pub at_most : nat_le (length clips) most_clips ≡ true
  pub numbers : is_numbered_from (λ c. c.n) 1 clips ≡ true
  pub umids : are_apart bytes_eq (umids_of clips) ≡ true

-- the fields of an offer: it is to another channel, and has what the clip has that it names
abbrev pub is_offer : PlanRow → List Clip → Offer → Bool
is_offer plan clips o = is_grantee plan o.grantee && matches_clip plan o (find (λ c. c.n == o.clip) clips)

-- the clip and the grantee of each that is open
abbrev pub open_grants : List Offer → List (ℕ × ℕ)
open_grants offers = filter_map (λ o. if o.withdrawn then None else Some (o.clip, o.grantee)) offers

abbrev pub is_same_grant : ℕ × ℕ → ℕ × ℕ → Bool
is_same_grant a b = a.0 == b.0 && a.1 == b.1

-- the offers' part, where these are the clips
pub record KeepsOfferRules (plan : PlanRow) (clips : List Clip) (offers : List Offer) : Type 0 where
  pub fields : list_all (is_offer plan clips) offers ≡ true
  pub at_most : nat_le (length offers) most_offers ≡ true
  pub numbers : is_numbered_from (λ o. o.n) 1 offers ≡ true
  pub grants : are_apart is_same_grant (open_grants offers) ≡ true

pub record KeepsOwnRules (own : Own) : Type 0 where
  pub plan : is_plan_row own.plan ≡ true
  pub fields : list_all (is_tape own.plan.slots) own.tapes ≡ true
  pub at_most : nat_le (length own.tapes) most_tapes ≡ true
  pub numbers : is_numbered_from (λ t. t.n) 1 own.tapes ≡ true
  pub barcodes : are_apart bytes_eq (barcodes_of own.tapes) ≡ true
  pub slots : are_apart nat_eq (slots_of own.tapes) ≡ true
  pub clips : KeepsClipRules own.plan (length own.tapes) own.clips
  pub offers : KeepsOfferRules own.plan own.clips own.offers
