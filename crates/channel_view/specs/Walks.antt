-- Look-ups that walk over rows: those by anything but a number.
use Rattle.std.specs.Prelude.{ℕ, Bool, ◌&&◌, ◌||◌, nat_lt, length, is_some}
use Rattle.channel_view_model.specs.declared.need.Need.{Need}
use Rattle.channel_view_model.specs.Tables.{Table, rows_of}
use Rattle.channel_view_model.specs.Centre.{Centre}

-- channel c has more rows in a table than are walked over as soon as one is looked up by its key
abbrev pub has_many : {A : Type 0} → ℕ → Table A → Bool
has_many c table = nat_lt 2000 (length (rows_of c table))

-- what is asked for walks over many of the channel's rows: a barcode or a slot over its tapes, a UMID over its clips,
-- an open offer over its offers
abbrev pub walks_far : ℕ → Need → Centre → Bool
walks_far c need rows =
    ((is_some need.tapes.barcode || is_some need.tapes.slot) && has_many c rows.tapes)
    || (is_some need.clips.umid && has_many c rows.clips)
    || (is_some need.offers.open_to && has_many c rows.offers)
