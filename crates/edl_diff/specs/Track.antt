-- The tracks of a list: the picture, and the channels of sound.
use Rattle.std.specs.Prelude.{ℕ, Bool, ◌&&◌, ◌||◌, ◌==◌, nat_le, if◌then◌else◌, List, [], ◌∷◌, drop, slice_index}
use Rattle.std.specs.Prelude.{bytes_eq, codes}
use Rattle.std.specs.Prelude.{false, Option, Some, None}
use Rattle.std.specs.List.{list_any, slice_split}
use Rattle.timecode.specs.Decimal.{decimal_number}
use Rattle.timecode.specs.Letters.{letter_A, slash}
use Rattle.edl.specs.Entry.{EventEntry, is_picture}
use Rattle.edl_diff.specs.declared.track.Track.{Track}
use Rattle.edl_diff.specs.declared.track.Track.TheVariants.{Picture, Sound}

-- The picture, and as many channels of sound as a serial digital signal carries (SMPTE ST 299-1).
abbrev pub all_tracks : List Track
all_tracks =
    Picture ∷ Sound 1 ∷ Sound 2 ∷ Sound 3 ∷ Sound 4 ∷ Sound 5 ∷ Sound 6 ∷ Sound 7 ∷ Sound 8 ∷ Sound 9 ∷ Sound 10
    ∷ Sound 11 ∷ Sound 12 ∷ Sound 13 ∷ Sound 14 ∷ Sound 15 ∷ Sound 16 ∷ []

-- `A` is the first channel, and `A` before a number of one or two digits is the channel of that number
abbrev pub sound_named : List ℕ → Option ℕ
sound_named word =
    if bytes_eq word (codes "A") then Some 1
    else if slice_index word 0 == letter_A then decimal_number 2 (drop 1 word) else None

abbrev pub is_number : ℕ → Option ℕ → Bool
is_number n None = false
is_number n (Some m) = m == n

-- A word is for a channel of sound that it names. `B` is for the picture and the first one, `AA` for the first two.
unfoldable pub is_word_for : ℕ → List ℕ → Bool
is_word_for n word =
    (bytes_eq word (codes "B") && n == 1) || (bytes_eq word (codes "AA") && nat_le n 2)
    || is_number n (sound_named word)

abbrev pub is_slash : ℕ → Bool
is_slash letter = letter == slash

-- An event's channels are words, between which `/` stands.
abbrev pub is_sound : ℕ → List ℕ → Bool
is_sound n channels = list_any (is_word_for n) (slice_split is_slash channels)

unfoldable pub is_on : Track → EventEntry → Bool
is_on Picture event = is_picture event
is_on (Sound n) event = is_sound n event.channels
