-- Part of the promise: the list that a day is exported as.
use Rattle.std.specs.Prelude.{◌≡◌, ℕ, ◌+◌, ◌%◌, ◌≤◌, List, [], ◌∷◌, ◌++◌, Bool, true, ◌&&◌, ◌==◌, nat_le, Option}
use Rattle.std.specs.Prelude.{Some, None, Result, Ok, Err, ◌⊎◌, IfSome, find, codes, string_bytes, if◌then◌else◌}
use Rattle.std.specs.List.{cons_option, list_any}
use Rattle.std.specs.Option.{option_map}
use Rattle.std.proofs.Common.{inl, inr}
use Rattle.timecode.specs.Counting.{day_length}
use Rattle.timecode.specs.Decimal.{in_digits}
use Rattle.channel_plan.specs.declared.plan.PlanRow.{PlanRow}
use Rattle.channel_plan.specs.declared.refusal.Code.TheVariants.{NoDay, WholeDay}
use Rattle.channel_plan.specs.declared.refusal.Refusal.{Refusal}
use Rattle.channel_plan.specs.Refusal.{refused}
use Rattle.edl.specs.Written.{OutEntry, list_text}
use Rattle.vault_core.specs.declared.clip.Clip.{Clip}
use Rattle.vault_core.specs.Clip.{is_title}
use Rattle.grant_core.specs.declared.grant.Grant.{Grant}
use Rattle.playlist_core.specs.declared.item.EditKind.{EditKind}
use Rattle.playlist_core.specs.declared.item.EditKind.TheVariants.{Cut, Dissolve, Wipe}
use Rattle.playlist_core.specs.declared.item.Item.{Item}
use Rattle.playlist_core.specs.declared.source.Source.{Source}
use Rattle.playlist_core.specs.declared.day.DayState.{DayState}
use Rattle.playlist_core.specs.declared.day.DayState.TheVariants.{NotThere, Open, Sealed}
use Rattle.playlist_core.specs.Source.{SourcesSeen, found, source_reel}
use Rattle.playlist_core.specs.Item.{kind_text}
use Rattle.playlist_core.specs.Day.{Day}
use Rattle.playlist_edl.specs.declared.exporting.Line.{Line}
use Rattle.playlist_edl.specs.declared.exporting.ReelText.{ReelText}
use Rattle.playlist_edl.specs.declared.exporting.ReelText.TheVariants.{Black as ReelBlack, Bars as ReelBars}
use Rattle.playlist_edl.specs.declared.exporting.ReelText.TheVariants.{Clip as ReelClip}
use Rattle.playlist_edl.specs.declared.exporting.KindText.{KindText}
use Rattle.playlist_edl.specs.declared.exporting.KindText.TheVariants.{Cut as KindCut, Dissolve as KindDissolve}
use Rattle.playlist_edl.specs.declared.exporting.KindText.TheVariants.{Wipe as KindWipe}

-- where a frame of the broadcast day stands in the day from 00:00:00:00
abbrev pub record_frame : PlanRow → ℕ → ℕ
record_frame plan p = (plan.start + p) % day_length plan.rate

-- as `CH 001 DAY 00001`
abbrev pub title_text : ℕ → ℕ → List ℕ
title_text channel day = codes "CH " ++ (in_digits 3 channel ++ (codes " DAY " ++ in_digits 5 day))

-- the title of the clip or of the lent clip that a source names
abbrev pub row_title : Option (Clip ⊎ Grant) → Option (List ℕ)
row_title None = None
row_title (Some (inl k)) = Some k.title
row_title (Some (inr g)) = Some g.offer.title

abbrev pub title_of : SourcesSeen → Source → Option (List ℕ)
title_of seen source = row_title (found seen source)

-- the note of a clip's cut, and of its dissolve or wipe
abbrev pub note_before : EditKind → List ℕ
note_before Cut = codes "* FROM CLIP NAME: "
note_before Dissolve = codes "* TO CLIP NAME: "
note_before (Wipe n) = codes "* TO CLIP NAME: "

abbrev pub note_text : EditKind → Option (List ℕ) → Option (List ℕ)
note_text kind None = None
note_text kind (Some title) = Some (note_before kind ++ title)

abbrev pub notes_of : Option (List ℕ) → List (List ℕ)
notes_of None = []
notes_of (Some note) = note ∷ []

-- a cut has no duration
abbrev pub duration_of : EditKind → ℕ → Option ℕ
duration_of Cut mix = None
duration_of Dissolve mix = Some mix
duration_of (Wipe n) mix = Some mix

-- the line of an item under a number
abbrev pub item_line : PlanRow → SourcesSeen → ℕ → Item → OutEntry
item_line plan seen n i = record {
  number = n;
  reel = source_reel i.src;
  channels = codes "V";
  kind = kind_text i.kind;
  duration = duration_of i.kind i.mix;
  source_first = i.src_first;
  source_end = i.src_first + i.frames;
  record_first = record_frame plan i.pos;
  length = i.frames;
  notes = notes_of (note_text i.kind (title_of seen i.src));
}

-- The zero cut at a frame: from the end of the source of the item that ends there, or from black.
abbrev pub zero_cut : PlanRow → ℕ → ℕ → List ℕ → ℕ → List (List ℕ) → OutEntry
zero_cut plan n p reel place notes = record {
  number = n;
  reel = reel;
  channels = codes "V";
  kind = codes "C";
  duration = None;
  source_first = place;
  source_end = place;
  record_first = record_frame plan p;
  length = 0;
  notes = notes;
}

abbrev pub cut_line : PlanRow → SourcesSeen → ℕ → ℕ → Option Item → OutEntry
cut_line plan seen n p None = zero_cut plan n p (codes "BL") 0 []
cut_line plan seen n p (Some b) =
    zero_cut plan n p (source_reel b.src) (b.src_first + b.frames)
    (notes_of (note_text Cut (title_of seen b.src)))

-- a dissolve or a wipe has a zero cut before it
abbrev pub unless_cut : EditKind → OutEntry → Option OutEntry
unless_cut Cut line = None
unless_cut Dissolve line = Some line
unless_cut (Wipe n) line = Some line

-- the item that ends at a frame
abbrev pub item_ending : List Item → ℕ → Option Item
item_ending items p = find (λ i. i.pos + i.frames == p) items

abbrev pub outgoing_of : PlanRow → SourcesSeen → List Item → ℕ → Item → Option OutEntry
outgoing_of plan seen all n i = unless_cut i.kind (cut_line plan seen n i.pos (item_ending all i.pos))

abbrev pub lines_of_item : PlanRow → SourcesSeen → List Item → ℕ → Item → List OutEntry
lines_of_item plan seen all n i = cons_option (outgoing_of plan seen all n i) (item_line plan seen n i ∷ [])

-- the lines of these items, which are numbered from n on
abbrev pub lines_from : PlanRow → SourcesSeen → List Item → ℕ → List Item → List OutEntry
lines_from plan seen all n [] = []
lines_from plan seen all n (i ∷ is) = lines_of_item plan seen all n i ++ lines_from plan seen all (n + 1) is

-- the list's text, or the first refusal whose condition holds: an item as long as the day has no record out
abbrev pub if_there : DayState → Result (List ℕ) Refusal → Result (List ℕ) Refusal
if_there NotThere reply = Err (refused NoDay)
if_there Open reply = reply
if_there Sealed reply = reply

abbrev pub has_whole_day : Day → Bool
has_whole_day day = list_any (λ i. i.frames == day.frames) day.items

unfoldable pub exported : Day → PlanRow → SourcesSeen → Result (List ℕ) Refusal
exported day plan seen =
    if_there day.state (
    if has_whole_day day then Err (refused WholeDay) else
    Ok (list_text (title_text plan.ch day.number) plan.rate (lines_from plan seen day.items 1 day.items)))

-- An item can stand in a list where its source's frames lie in the day, and its clip's title is one.
abbrev pub is_titled : Option (List ℕ) → Bool
is_titled None = true
is_titled (Some title) = is_title title

abbrev pub can_be_listed : PlanRow → SourcesSeen → Item → Bool
can_be_listed plan seen i =
    nat_le (i.src_first + i.frames) (day_length plan.rate) && is_titled (title_of seen i.src)

-- the same as facts
pub record CanBeListed (plan : PlanRow) (seen : SourcesSeen) (i : Item) : Type 0 where
  pub ends : i.src_first + i.frames ≤ day_length plan.rate
  pub title : IfSome (title_of seen i.src) (λ title. is_title title ≡ true)

-- the text of a line's reel, and of its kind
abbrev pub reel_shown : ReelText → List ℕ
reel_shown ReelBlack = codes "BL"
reel_shown ReelBars = codes "BARS"
reel_shown (ReelClip text) = string_bytes text

abbrev pub kind_shown : KindText → List ℕ
kind_shown KindCut = codes "C"
kind_shown KindDissolve = codes "D"
kind_shown (KindWipe text) = string_bytes text

-- a line that is to be written
abbrev pub line_shown : Line → OutEntry
line_shown line = record {
  number = line.number;
  reel = reel_shown line.reel;
  channels = codes "V";
  kind = kind_shown line.kind;
  duration = line.duration;
  source_first = line.source_first;
  source_end = line.source_end;
  record_first = line.record_first;
  length = line.length;
  notes = notes_of (option_map string_bytes line.note);
}
