-- The offer table: a line for each offer, by number, and one that counts them.
use Rattle.std.specs.Prelude.{ℕ, List, [], ◌++◌, Bool, true, false, Option, Some, None, length, codes, decimal}
use Rattle.std.specs.List.{flat_map}
use Rattle.timecode.specs.Decimal.{in_digits}
use Rattle.vault_core.specs.declared.offer.Offer.{Offer}
use Rattle.vault_core.specs.Reel.{clip_reel}
use Rattle.vault_core.specs.Window.{Window}

-- whether an offer is withdrawn
abbrev pub offer_state : Bool → List ℕ
offer_state false = codes "open"
offer_state true = codes "withdrawn"

-- a window of days: the first and the last in 5 digits each
abbrev pub window_field : Option Window → List ℕ
window_field None = []
window_field (Some w) = codes " " ++ (in_digits 5 w.first ++ (codes "-" ++ in_digits 5 w.last))

-- number, clip, grantee, state, and the window where there is one
abbrev pub offer_line : Offer → List ℕ
offer_line o =
    in_digits 4 o.n ++ (codes " " ++ (clip_reel o.clip ++ (codes " " ++ (in_digits 3 o.grantee ++ (codes " "
    ++ (offer_state o.withdrawn ++ (window_field o.window ++ codes "\n")))))))

-- how many offers there are, withdrawn ones included
abbrev pub offers_end : ℕ → List ℕ
offers_end count = codes "OFFERS " ++ (decimal count ++ codes "\n")

abbrev pub offer_text : List Offer → List ℕ
offer_text offers = flat_map offer_line offers ++ offers_end (length offers)
