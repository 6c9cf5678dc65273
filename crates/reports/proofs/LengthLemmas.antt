-- How long the texts of a line's fields are.
use Rattle.std.proofs.Common.{◌≡◌, ℕ, ◌≤◌, List, length, Bool, true, false, arith}
use Rattle.timecode.specs.declared.rates.Rate.{Rate}
use Rattle.timecode.specs.declared.rates.Rate.TheVariants.{F24, F25, F30, Df30}
use Rattle.timecode.specs.Rate.{rate_text}
use Rattle.vault_core.specs.Barcode.{is_barcode}
use Rattle.vault_core.specs.Title.{is_title}
use Rattle.playlist_core.specs.declared.day.DayState.{DayState}
use Rattle.playlist_core.specs.declared.day.DayState.TheVariants.{NotThere, Open, Sealed}
use Rattle.report_texts.specs.Offers.{offer_state}
use Rattle.report_texts.specs.Playlist.{day_state}

pub barcode_short : (text : List ℕ) → is_barcode text ≡ true → length text ≤ 8
unfolding is_barcode
barcode_short text is = grind arith

pub title_short : (text : List ℕ) → is_title text ≡ true → length text ≤ 60
unfolding is_title
title_short text is = grind arith

pub rate_short : (rate : Rate) → length (rate_text rate) ≤ 2
rate_short F24 = omega arith
rate_short F25 = omega arith
rate_short F30 = omega arith
rate_short Df30 = omega arith

pub state_short : (withdrawn : Bool) → length (offer_state withdrawn) ≤ 9
state_short true = omega arith
state_short false = omega arith

pub day_state_short : (state : DayState) → length (day_state state) ≤ 6
day_state_short NotThere = omega arith
day_state_short Open = omega arith
day_state_short Sealed = omega arith
