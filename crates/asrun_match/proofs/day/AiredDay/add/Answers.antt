-- `AiredDay::add`: adds a batch.
use Rattle.std.proofs.Common.{◌∙◌, ◌≡◌, ◌++◌, ◌≤◌, length, ◌∷◌, [], List, None, Some, refl, sym, ap, subst, inr, arith}
use Rattle.std.specs.Prelude.{All, IsPermutation}
use Rattle.std.specs.List.{list_all}
use Rattle.std.proofs.lemmas.Grind.{common_steps}
use Rattle.asrun_match.specs.declared.aired.AiredRow.{AiredRow}
use Rattle.asrun_match.specs.Limits.{most_batches}
use Rattle.asrun_match.specs.declared.sorted.Joined.TheVariants.{Rows as Together, Twice}
use Rattle.asrun_match.specs.Joined.{IsJoined}
use Rattle.asrun_match.specs.Aired.{Airing, FitsIn, Rows, aired, has_fields, aired_picture, rows_picture, all_rows}
use Rattle.asrun_match.specs.Aired.{first_twice}
use Rattle.playlist_core.specs.Picture.{picture_of}
use Rattle.playlist_core.specs.Order.{AreApart}
use Rattle.asrun_match.proofs.BatchLemmas.{fields_more, moved_more, picture_sorted}
use Rattle.asrun_match.proofs.day.AiredDay.add.Goals as goal

-- what a batch is tested against is the picture of all batches
tested : (inside now : Airing) (sorted : Rows) (rows read : List AiredRow) (o : _) → inside ≡ now → read ≡ rows
    → IsPermutation (all_rows inside.batches) sorted.rows → sorted.frames ≡ inside.frames
    → AreApart aired 0 sorted.frames sorted.rows
    → first_twice (rows_picture sorted) read ≡ o → first_twice (aired_picture now) rows ≡ o
tested inside now sorted rows read o same copied all frames apart found =
    sym (ap (λ (d : Airing). first_twice (aired_picture d) rows) same)
    ∙ ap (λ n. first_twice (picture_of aired n (all_rows inside.batches)) rows) (sym frames)
    ∙ ap (λ P. first_twice P rows) (picture_sorted inside.batches sorted all apart)
    ∙ ap (first_twice (rows_picture sorted)) (sym copied)
    ∙ found

pub returns-in-Ok-Twice-clause-refused : goal.returns-in-Ok-Twice-clause-refused
returns-in-Ok-Twice-clause-refused c =
    let inside : Airing = record { frames = c.self.inside.rows.frames; batches = c.self.inside.batches.items } in
    let found : IsJoined c.self.inside.rows c.deref.result.now (Twice c.in-Ok-Twice.frame) =
    subst (IsJoined c.self.inside.rows c.deref.result.now) c.in-Ok-Twice.field-0-is c.in-Ok-Twice.ensures in (
      refl,
      inr (
        c.in-Ok-Twice.frame,
        tested inside c.args.self.now c.self.inside.rows c.args.rows.items c.deref.result.now (Some c.in-Ok-Twice.frame)
            c.self.view_is c.deref.ensures.value c.self.invariant.0 refl c.keep_apart.ensures.apart found,
        c.aired_twice.ensures,
      ),
    )

pub invariant_of-self-2 : goal.invariant_of-self-2
invariant_of-self-2 c =
    let batches = c.self.inside.batches.items in
    let new = c.in-Ok-Rows.joined.rows in
    let rows = c.args.rows.items in
    let all : IsJoined c.self.inside.rows c.deref.result.now (Together c.in-Ok-Rows.joined) =
    subst (IsJoined c.self.inside.rows c.deref.result.now) c.in-Ok-Rows.field-0-is c.in-Ok-Rows.ensures in
    let more : IsPermutation (c.self.inside.rows.rows ++ rows) new =
    subst (λ xs. IsPermutation (c.self.inside.rows.rows ++ xs) new) c.deref.ensures.value all.1 in
    let pushed = c.in-Ok.ensures.items in
    let few : length c.push.new.self.items ≤ most_batches =
    grind (arith, common_steps, pushed, c.requires.room, c.self.view_is) in
    let fit : All (FitsIn c.self.inside.rows.frames) rows =
    subst (λ (d : Airing). All (FitsIn d.frames) rows) (sym c.self.view_is) c.requires.fit in (
      subst (λ b. IsPermutation (all_rows b) new) (sym pushed)
          (subst (λ (r : List AiredRow). IsPermutation (all_rows (batches ++ r ∷ [])) new) (sym c.of-2.ensures)
          (moved_more batches rows c.self.inside.rows.rows new c.self.invariant.0 more)),
      few,
      ap (λ n. list_all (has_fields n) (all_rows c.push.new.self.items)) all.2
          ∙ ap (λ b. list_all (has_fields c.self.inside.rows.frames) (all_rows b)) pushed
          ∙ ap (λ (r : List AiredRow). list_all (has_fields c.self.inside.rows.frames) (all_rows (batches ++ r ∷ [])))
          c.of-2.ensures
          ∙ fields_more c.self.inside.rows.frames batches rows c.self.invariant.2 fit,
    )

pub returns-clause-added : goal.returns-clause-added
returns-clause-added c =
    let inside : Airing = record { frames = c.self.inside.rows.frames; batches = c.self.inside.batches.items } in
    let all : IsJoined c.self.inside.rows c.deref.result.now (Together c.in-Ok-Rows.joined) =
    subst (IsJoined c.self.inside.rows c.deref.result.now) c.in-Ok-Rows.field-0-is c.in-Ok-Rows.ensures in
    tested inside c.args.self.now c.self.inside.rows c.args.rows.items c.deref.result.now None c.self.view_is
    c.deref.ensures.value c.self.invariant.0 refl c.keep_apart.ensures.apart all.0
