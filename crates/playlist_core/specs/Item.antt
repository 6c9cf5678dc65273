-- Items: their fields, and what they show.
use Rattle.std.specs.Prelude.{ℕ, List, ◌∷◌, Bool, true, ◌&&◌, ◌==◌, nat_le, Option, Some, None, codes, bytes_eq}
use Rattle.std.specs.Prelude.{drop, slice_index, if◌then◌else◌}
use Rattle.timecode.specs.Decimal.{decimal_number, in_digits}
use Rattle.timecode.specs.Letters.{letter_W}
use Rattle.playlist_core.specs.Limits.{most_mix, last_wipe}
use Rattle.playlist_core.specs.declared.item.EditKind.{EditKind}
use Rattle.playlist_core.specs.declared.item.EditKind.TheVariants.{Cut, Dissolve, Wipe}
use Rattle.playlist_core.specs.declared.item.Item.{Item}
use Rattle.playlist_core.specs.declared.item.NewItem.{NewItem}
use Rattle.playlist_core.specs.declared.source.Source.{Source}
use Rattle.playlist_core.specs.declared.source.Source.TheVariants.{Black, Bars, Own, Lent}
use Rattle.playlist_core.specs.Picture.{Strip}
use Rattle.playlist_core.specs.Source.{source_frame}

-- a wipe's number has at most three digits
abbrev pub is_kind : EditKind → Bool
is_kind Cut = true
is_kind Dissolve = true
is_kind (Wipe n) = nat_le n last_wipe

-- `W` and the wipe's number in 3 digits
abbrev pub kind_text : EditKind → List ℕ
kind_text Cut = codes "C"
kind_text Dissolve = codes "D"
kind_text (Wipe n) = letter_W ∷ in_digits 3 n

-- the kind that a word of an edit list says; any other says none
abbrev pub wipe : Option ℕ → Option EditKind
wipe None = None
wipe (Some n) = Some (Wipe n)

abbrev pub kind_of : List ℕ → Option EditKind
kind_of word =
    if bytes_eq word (codes "C") then Some Cut else
    if bytes_eq word (codes "D") then Some Dissolve else
    if slice_index word 0 == letter_W then wipe (decimal_number 3 (drop 1 word)) else
    None

-- the source's first frame that an item keeps: black and bars have none but 0
abbrev pub first_kept : Source → ℕ → ℕ
first_kept Black first = 0
first_kept Bars first = 0
first_kept (Own n) first = first
first_kept (Lent owner n) first = first

-- the fields of an item
abbrev pub is_item : Item → Bool
is_item i = nat_le i.mix most_mix && is_kind i.kind && i.src_first == first_kept i.src i.src_first

-- the new item of a source, under a number
abbrev pub numbered : ℕ → Source → NewItem → Item
numbered n source new = record {
  n = n;
  pos = new.pos;
  frames = new.frames;
  src = source;
  src_first = first_kept source new.src_first;
  kind = new.kind;
  mix = new.mix;
}

-- what one cell of a planned day shows: a frame of a source, by an item
pub record Cell : Type 0 where
  pub item : ℕ
  pub source : Source
  pub frame : ℕ

abbrev pub planned : Item → Strip Cell
planned item = record {
  pos = item.pos;
  frames = item.frames;
  shows = λ k. record {
    item = item.n;
    source = item.src;
    frame = source_frame item.src item.src_first k;
  };
}
