-- The reels of rows that keep the rules: their texts read as these.
use Rattle.std.proofs.Common.{◌≡◌, ℕ, Bool, true, false, ◌&&◌, List, [], ◌∷◌, ◌++◌, sym, ap, ap₂, ◌∙◌, refl, true≢false}
use Rattle.std.proofs.Common.{append-nil}
use Rattle.std.specs.List.{list_all}
use Rattle.std.proofs.lemmas.List.Folds.{list_all-append}
use Rattle.std.proofs.lemmas.List.Concat.{flat_map-append}
use Rattle.playlist_core.specs.Source.{source_of_reel}
use Rattle.asrun_match.specs.declared.aired.AiredRow.{AiredRow}
use Rattle.asrun_match.specs.Aired.{Airing, KeepsAiringRules, all_rows, has_fields, is_row_reel, is_source_range}
use Rattle.asrun_match.specs.Batches.{with_batch}

first : (a b : Bool) → (a && b) ≡ true → a ≡ true
first true b both = refl
first false b both = both

second : (a b : Bool) → (a && b) ≡ true → b ≡ true
second true b both = both
second false b both = absurd (true≢false (sym both))

reels_of : (frames : ℕ) (rows : List AiredRow) → list_all (has_fields frames) rows ≡ true
    → list_all (λ r. is_row_reel r.src) rows ≡ true
reels_of frames [] all = refl
reels_of frames (r ∷ rows) all =
    ap₂ ◌&&◌
    (first (is_row_reel r.src) (is_source_range frames (source_of_reel r.src) r.src_first r.frames)
    (first (has_fields frames r) (list_all (has_fields frames) rows) all))
    (reels_of frames rows (second (has_fields frames r) (list_all (has_fields frames) rows) all))

-- the reels of a batch more are kept ones
pub reels_kept : (day : Airing) (rows : List AiredRow) → KeepsAiringRules (with_batch rows day)
    → list_all (λ r. is_row_reel r.src) rows ≡ true
reels_kept day rows rules =
    reels_of day.frames rows
    (second (list_all (has_fields day.frames) (all_rows day.batches)) (list_all (has_fields day.frames) rows)
    (ap (λ l. list_all (has_fields day.frames) (all_rows day.batches) && list_all (has_fields day.frames) l)
    (sym (append-nil rows))
    ∙ sym (list_all-append (has_fields day.frames) (all_rows day.batches) (rows ++ []))
    ∙ ap (list_all (has_fields day.frames)) (sym (flat_map-append (λ (l : List AiredRow). l) day.batches (rows ∷ [])))
    ∙ rules.fields))
