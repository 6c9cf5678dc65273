-- The status of each frame.
use Rattle.std.specs.Prelude.{List, [], ◌∷◌, Bool, false, not, ◌==◌, Option, Some, None, if◌then◌else◌}
use Rattle.playlist_core.specs.declared.source.Source.{Source}
use Rattle.playlist_core.specs.Difference.{same_source}
use Rattle.playlist_core.specs.Picture.{Picture}
use Rattle.playlist_core.specs.Source.{source_of_reel}
use Rattle.playlist_core.specs.Item.{Cell}
use Rattle.asrun_match.specs.declared.status.Status.{Status}
use Rattle.asrun_match.specs.declared.status.Status.TheVariants as statuses
use Rattle.asrun_match.specs.Aired.{AiredCell}

-- whether what a reel names, if it names a source, is this one
abbrev pub names : Option Source → Source → Bool
names None source = false
names (Some named) source = same_source source named

-- of a frame with what is planned and what went out there: a frame of the planned source is OK or, if it is another
-- than the planned one, SLIP; a frame of any other source is WRONG; none at all is MISSED, whatever was planned
abbrev pub status_of : Option Cell → Option AiredCell → Status
status_of None None = statuses.Missed
status_of (Some p) None = statuses.Missed
status_of None (Some a) = statuses.Wrong
status_of (Some p) (Some a) = if not (names (source_of_reel a.reel) p.source) then statuses.Wrong
    else if p.frame == a.frame then statuses.Ok else statuses.Slip

-- cell by cell
abbrev pub statuses_of : Picture Cell → Picture AiredCell → List Status
statuses_of [] others = []
statuses_of (p ∷ ps) [] = []
statuses_of (p ∷ ps) (a ∷ others) = status_of p a ∷ statuses_of ps others
