-- What was aired: its rows, in batches, and the picture that they make.
use Rattle.std.specs.Prelude.{◌≡◌, ℕ, ◌+◌, ◌<◌, ◌≤◌, List, [], ◌∷◌, Bool, true, ◌&&◌, ◌==◌, nat_le, length, min, Option}
use Rattle.std.specs.Prelude.{Some, None, IsPermutation, flat_map}
use Rattle.std.specs.List.{list_all}
use Rattle.playlist_core.specs.declared.source.Source.{Source}
use Rattle.playlist_core.specs.declared.source.Source.TheVariants.{Black, Bars}
use Rattle.playlist_core.specs.Source.{source_frame, source_of_reel}
use Rattle.playlist_core.specs.Picture.{Strip, Picture, picture_of, paint, first_painted}
use Rattle.playlist_core.specs.Order.{AreApart}
use Rattle.asrun_match.specs.declared.aired.AiredRow.{AiredRow}
pub use Rattle.asrun_match.specs.Reel.{is_row_reel, is_reel, reel_said, short_name}
use Rattle.asrun_match.specs.Limits.{most_batches}

-- what airs from a reel's frame `first` lies in a day of so many frames; black and bars have no frame but 0
abbrev pub is_source_range : ℕ → Option Source → ℕ → ℕ → Bool
is_source_range day (Some Black) first frames = first == 0
is_source_range day (Some Bars) first frames = first == 0
is_source_range day source first frames = nat_le (first + frames) day

-- the fields of a row of a day of so many frames
abbrev pub has_fields : ℕ → AiredRow → Bool
has_fields day row = is_row_reel row.src && is_source_range day (source_of_reel row.src) row.src_first row.frames

-- the source frame at the kth frame of what airs from a reel's frame `first`; black and bars have frame 0 throughout
abbrev pub frame_from : Option Source → ℕ → ℕ → ℕ
frame_from None first k = first + k
frame_from (Some source) first k = source_frame source first k

-- what one cell of an aired day shows: a frame of a reel
pub record AiredCell : Type 0 where
  pub reel : List ℕ
  pub frame : ℕ

abbrev pub aired : AiredRow → Strip AiredCell
aired row = record {
  pos = row.pos;
  frames = row.frames;
  shows = λ k. record { reel = row.src; frame = frame_from (source_of_reel row.src) row.src_first k };
}

-- what was aired of a day: its length in frames, and the rows of its batches, in their order
pub record Airing : Type 0 where
  pub frames : ℕ
  pub batches : List (List AiredRow)

-- all rows, batch after batch
abbrev pub all_rows : List (List AiredRow) → List AiredRow
all_rows batches = flat_map (λ rows. rows) batches

abbrev pub aired_picture : Airing → Picture AiredCell
aired_picture day = picture_of aired day.frames (all_rows day.batches)

-- a row that isn't empty, lies within the day and has its fields
pub record FitsIn (frames : ℕ) (row : AiredRow) : Type 0 where
  pub some : 0 < row.frames
  pub within : row.pos + row.frames ≤ frames
  pub fields : has_fields frames row ≡ true

-- The rules of what was aired of a day: it has few batches, each row has its fields, and all rows, in some order, lie
-- one behind the other within the day.
pub record KeepsAiringRules (day : Airing) : Type 0 where
  pub few : length day.batches ≤ most_batches
  pub fields : list_all (has_fields day.frames) (all_rows day.batches) ≡ true
  pub order : List AiredRow
  pub same : IsPermutation (all_rows day.batches) order
  pub apart : AreApart aired 0 day.frames order

-- rows of a day of so many frames, in whatever order
pub record Rows : Type 0 where
  pub frames : ℕ
  pub rows : List AiredRow

abbrev pub rows_picture : Rows → Picture AiredCell
rows_picture rows = picture_of aired rows.frames rows.rows

abbrev pub first_of : Option ℕ → Option ℕ → Option ℕ
first_of None later = later
first_of (Some p) later = Some p

-- of rows that are painted one after another, the first that covers a painted cell: the least such cell
abbrev pub first_twice : Picture AiredCell → List AiredRow → Option ℕ
first_twice picture [] = None
first_twice picture (row ∷ rows) =
    first_of (first_painted row.pos row.frames picture) (first_twice (paint (aired row) picture) rows)

-- the lesser of two frames, where there are two
abbrev pub sooner : Option ℕ → Option ℕ → Option ℕ
sooner None q = q
sooner (Some p) None = Some p
sooner (Some p) (Some q) = Some (min p q)
