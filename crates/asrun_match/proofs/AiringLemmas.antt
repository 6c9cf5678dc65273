-- What adding a row does to rows in the order of their positions.
use Rattle.std.proofs.Common.{◌≡◌, ◌∙◌, ℕ, ◌+◌, ◌≤◌, List, Bool, Option, None, sym, ap, subst, arith}
use Rattle.std.specs.Prelude.{nat_lt, insert}
use Rattle.std.specs.List.{position_or_len}
use Rattle.playlist_core.specs.Picture.{first_painted, picture_of, paint}
use Rattle.playlist_core.specs.Order.{AreApart, put}
use Rattle.playlist_core.proofs.PlaceLemmas.{at_place}
use Rattle.playlist_core.proofs.TakenLemmas.{taken-first_painted}
use Rattle.playlist_core.proofs.OrderLemmas.{apart_put, picture-put}
use Rattle.asrun_match.specs.declared.aired.AiredRow.{AiredRow}
use Rattle.asrun_match.specs.Aired.{Rows, FitsIn, aired, rows_picture}

abbrev pub ends_after : AiredRow → AiredRow → Bool
ends_after row r = nat_lt row.pos (r.pos + r.frames)

-- the rows after an insert at the place that was found
pub inserted : (row : AiredRow) (old read new : List AiredRow) (place : ℕ) → read ≡ old
    → place ≡ position_or_len (λ r. nat_lt row.pos (r.pos + r.frames)) read → new ≡ insert old place row
    → new ≡ put (ends_after row) row old
inserted row old read new place same found put_in =
    put_in ∙ ap (λ k. insert old k row) (found ∙ ap (position_or_len (ends_after row)) same)
    ∙ at_place (ends_after row) row old

-- what the search answered is said of the day
pub said_of : (day : Rows) (row : AiredRow) (read : List AiredRow) (taken o : Option ℕ) → read ≡ day.rows → taken ≡ o
    → ((n : ℕ) → AreApart aired 0 n read → row.pos + row.frames ≤ n
    → taken ≡ first_painted row.pos row.frames (picture_of aired n read))
    → AreApart aired 0 day.frames day.rows → FitsIn day.frames row
    → first_painted row.pos row.frames (rows_picture day) ≡ o
said_of day row read taken o same is said apart fits =
    ap (λ rows. first_painted row.pos row.frames (picture_of aired day.frames rows)) (sym same)
    ∙ sym (said day.frames (subst (AreApart aired 0 day.frames) (sym same) apart) fits.within)
    ∙ is

pub apart_with : (day : Rows) (row : AiredRow) (new : List AiredRow) → AreApart aired 0 day.frames day.rows
    → FitsIn day.frames row
    → first_painted row.pos row.frames (rows_picture day) ≡ None → new ≡ put (ends_after row) row day.rows
    → AreApart aired 0 day.frames new
apart_with day row new apart fits free is =
    subst (AreApart aired 0 day.frames) (sym is)
    (apart_put aired row 0 day.frames day.rows apart (omega arith) fits.some fits.within
    (taken-first_painted aired row.pos row.frames fits.some day.frames day.rows apart fits.within ∙ free))

pub painted_with : (day : Rows) (row : AiredRow) (new : List AiredRow) → new ≡ put (ends_after row) row day.rows
    → picture_of aired day.frames new ≡ paint (aired row) (rows_picture day)
painted_with day row new is = ap (picture_of aired day.frames) is ∙ picture-put aired row day.frames day.rows
