-- The four counting rates of time addresses: SMPTE ST 12-1.
use Rattle.std.specs.Prelude.{ℕ, Bool, true, false, List, [], ◌∷◌, Option, find, bytes_eq, codes}
use Rattle.timecode.specs.declared.rates.Rate.{Rate}
use Rattle.timecode.specs.declared.rates.Rate.TheVariants.{F24, F25, F30, Df30}
use Rattle.timecode.specs.declared.rates.UnknownRate.{UnknownRate}

-- how many frames are counted in a second, from 00
abbrev pub nominal_frames : Rate → ℕ
nominal_frames F24 = 24
nominal_frames F25 = 25
nominal_frames F30 = 30
nominal_frames Df30 = 30

-- drop-frame counting drops labels
abbrev pub is_drop_frame : Rate → Bool
is_drop_frame F24 = false
is_drop_frame F25 = false
is_drop_frame F30 = false
is_drop_frame Df30 = true

-- two rates are one
abbrev pub is_same_rate : Rate → Rate → Bool
is_same_rate F24 F24 = true
is_same_rate F25 F25 = true
is_same_rate F30 F30 = true
is_same_rate Df30 Df30 = true
is_same_rate _ _ = false

-- the rate as text
abbrev pub rate_text : Rate → List ℕ
rate_text F24 = codes "24"
rate_text F25 = codes "25"
rate_text F30 = codes "30"
rate_text Df30 = codes "df"

-- the rate whose text this is
abbrev pub rate_of_text : List ℕ → Option Rate
rate_of_text text = find (λ rate. bytes_eq (rate_text rate) text) (F24 ∷ F25 ∷ F30 ∷ Df30 ∷ [])

-- the one value of `UnknownRate`
abbrev pub unknown_rate : UnknownRate
unknown_rate = record {}
