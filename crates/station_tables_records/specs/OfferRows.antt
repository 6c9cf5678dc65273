-- The table `offer`: a row of it as a channel and its offer. A row is its rowid and then its columns: ch, n, grantee,
-- clip, title, umid, rate, src_first, frames, withdrawn. A UMID is its 32 bytes, a rate its name, and withdrawn is 1 or
-- 0. The window of an offer isn't in it, so the offer of a row has none.
use Rattle.std.specs.Prelude.{ℕ, Bool, ◌&&◌, ◌==◌, ◌^◌, nat_lt, List, [], ◌∷◌, None, unwrap_or}
use Rattle.std.specs.declared.cmp.Ordering.{Ordering}
use Rattle.sqlite_value.specs.declared.value.Value.TheVariants.{Text as Words, Blob as Bytes}
use Rattle.sqlite_value.specs.Order.{Row, column}
use Rattle.timecode.specs.declared.rates.Rate.TheVariants.{F25}
use Rattle.timecode.specs.Rate.{rate_text, rate_of_text}
use Rattle.umid.specs.BasicUmid.{is_umid, basic_umid, parts_in}
use Rattle.vault_core.specs.declared.offer.Offer.{Offer}
use Rattle.vault_core.specs.Clip.{is_title}
use Rattle.vault_core.specs.Offer.{is_open_to}
use Rattle.station_tables_records.specs.Table.{TypedTable}
use Rattle.station_tables_records.specs.Schema.{offer}
use Rattle.station_tables_records.specs.Columns.{table_of}
use Rattle.station_tables_records.specs.Numbered.{numbered_cmp, LacksNumber}
use Rattle.station_tables_records.specs.Values.{of_nat, nat_in, text_in, bytes_in, of_bool, bool_in}

-- some rate, where the text is none
abbrev pub offer_of : Row → ℕ × Offer
offer_of r = (
  nat_in (column r 1),
  record {
    n = nat_in (column r 2);
    grantee = nat_in (column r 3);
    clip = nat_in (column r 4);
    title = text_in (column r 5);
    umid = parts_in (bytes_in (column r 6));
    rate = unwrap_or (rate_of_text (text_in (column r 7))) F25;
    src_first = nat_in (column r 8);
    frames = nat_in (column r 9);
    window = None;
    withdrawn = bool_in (column r 10);
  },
)

-- its columns, as they are put
abbrev pub offer_row : ℕ × Offer → Row
offer_row t =
    of_nat t.0 ∷ of_nat t.1.n ∷ of_nat t.1.grantee ∷ of_nat t.1.clip ∷ Words t.1.title
    ∷ Bytes (basic_umid t.1.umid)
    ∷ Words (rate_text t.1.rate) ∷ of_nat t.1.src_first ∷ of_nat t.1.frames ∷ of_bool t.1.withdrawn ∷ []

-- by channel, and then by number
abbrev pub offer_cmp : ℕ × Offer → ℕ × Offer → Ordering
offer_cmp = numbered_cmp (λ t. t.n)

abbrev pub offer_table : TypedTable (ℕ × Offer)
offer_table = table_of 4 offer offer_of offer_row offer_cmp

-- of this channel, open, of this clip to this grantee
abbrev pub is_offer_open : ℕ → ℕ → ℕ → ℕ × Offer → Bool
is_offer_open c clip grantee t = t.0 == c && is_open_to clip grantee t.1

-- of any channel, to this grantee
abbrev pub is_offer_to : ℕ → ℕ × Offer → Bool
is_offer_to grantee t = t.1.grantee == grantee

-- no offer of channel ch has number n
abbrev pub LacksOffer : ℕ → ℕ → List (ℕ × Offer) → Type 0
LacksOffer = LacksNumber (λ t. t.n)

-- the numbers of the channel, of the offer and of the grantee have 16 bits, the others 32; its title and its UMID are
-- such
abbrev pub offer_fits : ℕ × Offer → Bool
offer_fits t =
    nat_lt t.0 65536 && nat_lt t.1.n 65536 && nat_lt t.1.grantee 65536 && nat_lt t.1.clip (2 ^ 32)
    && is_title t.1.title
    && is_umid t.1.umid && nat_lt t.1.src_first (2 ^ 32) && nat_lt t.1.frames (2 ^ 32)
