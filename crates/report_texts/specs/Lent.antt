-- The lent table: a line for each clip that is lent to the channel, by owner and number, and one that counts them.
use Rattle.std.specs.Prelude.{ℕ, List, ◌++◌, Bool, length, codes, decimal}
use Rattle.std.specs.List.{flat_map, list_all}
use Rattle.hex.specs.Hex.{encode_lower}
use Rattle.timecode.specs.Rate.{rate_text}
use Rattle.timecode.specs.Label.{frame_text}
use Rattle.umid.specs.BasicUmid.{basic_umid}
use Rattle.grant_core.specs.declared.grant.Grant.{Grant}
use Rattle.grant_core.specs.Grant.{lent_reel}
use Rattle.report_texts.specs.Fields.{left_in, number_in, has_label}
use Rattle.report_texts.specs.Offers.{offer_state, window_field}

-- reel, state, the window where there is one, rate, label of the first source frame at it, frames, UMID, title
abbrev pub lent_line : Grant → List ℕ
lent_line g =
    lent_reel g.owner g.offer.n
    ++ (codes " " ++ (left_in 9 (offer_state g.offer.withdrawn) ++ (window_field g.offer.window
    ++ (codes " " ++ (rate_text g.offer.rate
    ++ (codes " " ++ (frame_text g.offer.rate g.offer.src_first ++ (codes " "
    ++ (number_in 7 g.offer.frames ++ (codes " " ++ (encode_lower (basic_umid g.offer.umid) ++ (codes " "
    ++ (g.offer.title ++ codes "\n")))))))))))))

-- how many lent clips there are, withdrawn ones included
abbrev pub lent_end : ℕ → List ℕ
lent_end count = codes "LENT " ++ (decimal count ++ codes "\n")

abbrev pub lent_text : List Grant → List ℕ
lent_text grants = flat_map lent_line grants ++ lent_end (length grants)

-- whether the first source frame of each has a label, at its owner's rate
abbrev pub grants_have_labels : List Grant → Bool
grants_have_labels grants = list_all (λ g. has_label g.offer.rate g.offer.src_first) grants
