-- What is read of the vaults of all channels: their tapes, clips and offers, where these take few enough bytes.
use Rattle.std.specs.Prelude.{◌≡◌, ◌<◌, ℕ, ◌+◌, ◌*◌, [], length, Option, Some, None}
use Rattle.channel_view_model.specs.Tables.{Table}
use Rattle.channel_view_model.specs.Centre.{Centre}

-- the bytes of a tape, of a clip and of an offer, each with its channel, in a list
abbrev pub tape_bytes : ℕ
tape_bytes = 40

abbrev pub clip_bytes : ℕ
clip_bytes = 136

abbrev pub offer_bytes : ℕ
offer_bytes = 152

-- the bytes that the tapes, the clips and the offers of a set take so
abbrev pub bytes_of : Centre → ℕ
bytes_of rows = length rows.tapes * tape_bytes + length rows.clips * clip_bytes + length rows.offers * offer_bytes

-- a table, or nothing of it, where it takes more than so many bytes at this size of a row
abbrev pub IsTableRead : {A : Type 0} → Table A → ℕ → ℕ → Option (Table A) → Type 0
IsTableRead table size most None = most < length table * size
IsTableRead table size most (Some rows) = rows ≡ table

-- the vaults of a set, which is all of it but days and what was aired of them, or nothing, where they take more than so
-- many bytes
abbrev pub AreVaultsRead : Centre → ℕ → Option Centre → Type 0
AreVaultsRead rows most None = most < bytes_of rows
AreVaultsRead rows most (Some vaults) = vaults ≡ record rows { days = []; aired = [] }
