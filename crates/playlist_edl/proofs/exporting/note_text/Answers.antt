-- `note_text`: the note with the title of a clip.
use Rattle.std.proofs.Common.{sym, subst}
use Rattle.std.specs.Prelude.{IsUtf8}
use Rattle.playlist_edl.proofs.ExportLemmas.{title_utf8}
use Rattle.playlist_edl.proofs.exporting.note_text.Goals as goal

pub text_of-title-requires : goal.text_of-title-requires
text_of-title-requires c = subst IsUtf8 (sym c.as_bytes.ensures) (title_utf8 c.args.title.now c.requires)
