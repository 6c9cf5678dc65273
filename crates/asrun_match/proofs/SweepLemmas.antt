-- One turn of the sweep.
use Rattle.std.proofs.Common.{◌≡◌, ℕ, ◌+◌, ◌-◌, ◌<◌, ◌≤◌, min, List, [], ◌∷◌, ◌++◌, length, drop, Some, None, sym, ◌∙◌}
use Rattle.std.proofs.Common.{ap, subst, ⊎_elim, arith, append_assoc, length-append}
use Rattle.std.specs.Prelude.{slice_get, replicate, IfSome, IfNone, if◌then◌else◌}
use Rattle.std.proofs.lemmas.Bool.{cases_lt, lt-ltb, le-ltb}
use Rattle.std.proofs.lemmas.List.{append-nil, length-replicate}
use Rattle.playlist_core.specs.declared.item.Item.{Item}
use Rattle.playlist_core.specs.Picture.{picture_of}
use Rattle.playlist_core.specs.Order.{end_of}
use Rattle.playlist_core.specs.Source.{source_of_reel}
use Rattle.playlist_core.specs.Item.{planned}
use Rattle.playlist_core.proofs.PictureLemmas.{table, length-table, table_same, shown, shown_in, shown_before}
use Rattle.playlist_core.proofs.PictureLemmas.{picture_is}
use Rattle.asrun_match.specs.declared.aired.AiredRow.{AiredRow}
use Rattle.asrun_match.specs.declared.status.Status.{Status}
use Rattle.asrun_match.specs.declared.status.Status.TheVariants as statuses
use Rattle.asrun_match.specs.Aired.{aired}
use Rattle.asrun_match.specs.Status.{status_of, statuses_of}
use Rattle.asrun_match.proofs.StepLemmas.{behind, behind_is, end_is, of_none, of_some, piece_end, piece_status}
use Rattle.asrun_match.proofs.StepLemmas.{status_is}
use Rattle.asrun_match.proofs.PieceLemmas.{steady_reel, statuses-table, table-split, table-steady}
use Rattle.asrun_match.proofs.AheadLemmas.{LieAhead, CoverAhead, LastsTo, within_end, ahead-behind, cover-behind}
use Rattle.asrun_match.proofs.AheadLemmas.{shown-behind, length-behind, length-ended, changes, changes-begins}
use Rattle.asrun_match.proofs.AheadLemmas.{changes-ends, changes-later}

-- the status of frame p
abbrev pub status_at : List Item → List AiredRow → ℕ → Status
status_at items rows p = status_of (shown planned items p) (shown aired rows p)

pub statuses_is : (frames : ℕ) (items : List Item) (rows : List AiredRow)
    → statuses_of (picture_of planned frames items) (picture_of aired frames rows)
    ≡ table (status_at items rows) 0 frames
statuses_is frames items rows =
    ap (λ cells. statuses_of cells (picture_of aired frames rows)) (picture_is planned frames items)
    ∙ ap (statuses_of (table (shown planned items) 0 frames)) (picture_is aired frames rows)
    ∙ statuses-table (shown planned items) (shown aired rows) 0 frames

-- where a piece ends
end_before : (item : Item) (r : AiredRow) (rs : List AiredRow) (at : ℕ) → at < r.pos
    → piece_end item (r ∷ rs) at ≡ min (end_of (planned item)) r.pos
end_before item r rs at lt =
    ap (λ b. min (end_of (planned item)) (if b then r.pos else end_of (aired r))) (lt-ltb at r.pos lt)

end_begun : (item : Item) (r : AiredRow) (rs : List AiredRow) (at : ℕ)
    → r.pos ≤ at → piece_end item (r ∷ rs) at ≡ min (end_of (planned item)) (end_of (aired r))
end_begun item r rs at ge =
    ap (λ b. min (end_of (planned item)) (if b then r.pos else end_of (aired r))) (le-ltb at r.pos ge)

module _ (frames at : ℕ) (item : Item) (items : List Item) (cover : CoverAhead planned at frames (item ∷ items)) where
  later : (rows : List AiredRow) → LieAhead aired at frames rows → at < piece_end item rows at
  later [] ahead = cover.1
  later (r ∷ rs) ahead =
      ⊎_elim
      (λ lt. let e = end_before item r rs at lt in omega (arith, e, cover.1))
      (λ ge. let e = end_begun item r rs at ge in omega (arith, e, cover.1, ahead.0))
      (cases_lt at r.pos)

  lasts_item : (rows : List AiredRow) → piece_end item rows at ≤ end_of (planned item)
  lasts_item [] = omega arith
  lasts_item (r ∷ rs) =
      ⊎_elim
      (λ lt. let e = end_before item r rs at lt in omega (arith, e))
      (λ ge. let e = end_begun item r rs at ge in omega (arith, e))
      (cases_lt at r.pos)

  lasts_rows : (rows : List AiredRow) → LastsTo aired (piece_end item rows at) rows
  lasts_rows [] = tt
  lasts_rows (r ∷ rs) =
      ⊎_elim
      (λ lt. let e = end_before item r rs at lt in omega (arith, e))
      (λ ge. let e = end_begun item r rs at ge in omega (arith, e))
      (cases_lt at r.pos)

  within : (rows : List AiredRow) → piece_end item rows at ≤ frames
  within rows =
      let ends = within_end planned (end_of (planned item)) frames items cover.2 in let lasts = lasts_item rows in
      omega arith

  -- the status of each of its frames
  item_shown : (rows : List AiredRow) (p : ℕ) → at ≤ p
      → p < piece_end item rows at → shown planned (item ∷ items) p ≡ Some ((planned item).shows (p - item.pos))
  item_shown rows p le lt =
      let lasts = lasts_item rows in shown_in planned item items p (omega (arith, cover.0)) (omega arith)

  piece_steady : (rows : List AiredRow) (p : ℕ) → LieAhead aired at frames rows → at ≤ p
      → p < piece_end item rows at → status_at (item ∷ items) rows p ≡ piece_status item rows at
  piece_steady [] p ahead le lt = ap (λ o. status_of o None) (item_shown [] p le lt)
  piece_steady (r ∷ rs) p ahead le lt =
      ⊎_elim
      (λ before.
      let e = end_before item r rs at before in
      ap (λ o. status_of o (shown aired (r ∷ rs) p)) (item_shown (r ∷ rs) p le lt)
      ∙ ap (status_of (Some ((planned item).shows (p - item.pos))))
      (shown_before aired r.pos frames (r ∷ rs) p (omega arith, ahead.1, ahead.2) (omega arith))
      ∙ sym (piece_missed before))
      (λ begun.
      let e = end_begun item r rs at begun in
      ap (λ o. status_of o (shown aired (r ∷ rs) p)) (item_shown (r ∷ rs) p le lt)
      ∙ ap (status_of (Some ((planned item).shows (p - item.pos)))) (shown_in aired r rs p (omega arith) (omega arith))
      ∙ steady_reel item.src_first r.src_first item.pos r.pos p at item.src (source_of_reel r.src)
      (omega (arith, cover.0)) (omega arith) (omega (arith, cover.0)) (omega arith)
      ∙ sym (piece_compared begun))
      (cases_lt at r.pos)
    where
      piece_missed : at < r.pos
          → piece_status item (r ∷ rs) at ≡ status_of (Some ((planned item).shows (p - item.pos))) None
      piece_missed before =
          ap
          (λ b. if b then status_of (Some ((planned item).shows (p - item.pos))) None
          else status_of (Some ((planned item).shows (at - item.pos))) (Some ((aired r).shows (at - r.pos))))
          (lt-ltb at r.pos before)

      piece_compared : r.pos
          ≤ at → piece_status item (r ∷ rs) at ≡ status_of (Some ((planned item).shows (at - item.pos)))
          (Some ((aired r).shows (at - r.pos)))
      piece_compared begun =
          ap
          (λ b. if b then status_of (Some ((planned item).shows (p - item.pos))) None
          else status_of (Some ((planned item).shows (at - item.pos))) (Some ((aired r).shows (at - r.pos))))
          (le-ltb at r.pos begun)

  spelled_turn : (rows : List AiredRow) → LieAhead aired at frames rows → (let e = piece_end item rows at in
      table (status_at (item ∷ items) rows) at (frames - at)
      ≡ replicate (e - at) (piece_status item rows at)
      ++ table (status_at (behind planned e (item ∷ items)) (behind aired e rows)) e (frames - e))
  spelled_turn rows ahead =
      let e = piece_end item rows at in
      let f = status_at (item ∷ items) rows in
      let begins = later rows ahead in
      let ends = within rows in
      let all : frames - at ≡ (e - at) + (frames - e) = omega arith in
      let there : at + (e - at) ≡ e = omega arith in
      ap (table f at) all
      ∙ table-split f at (e - at) (frames - e)
      ∙ ap (λ list. list ++ table f (at + (e - at)) (frames - e))
      (table-steady f (piece_status item rows at) at (e - at) (λ q le lt. piece_steady rows q ahead le (omega arith)))
      ∙ ap (λ k. replicate (e - at) (piece_status item rows at) ++ table f k (frames - e)) there
      ∙ ap (λ list. replicate (e - at) (piece_status item rows at) ++ list)
      (table_same f (status_at (behind planned e (item ∷ items)) (behind aired e rows)) e (frames - e) (λ q le lt.
      ap (λ o. status_of o (shown aired rows q)) (sym (shown-behind planned e (item ∷ items) q le))
      ∙ ap (status_of (shown planned (behind planned e (item ∷ items)) q)) (sym (shown-behind aired e rows q le))))

  -- and how many are left
  abbrev left : ℕ → List Item → List AiredRow → ℕ
  left at items rows = length items + changes aired at rows

  fewer_by_item : (rows : List AiredRow) (e : ℕ) → at ≤ e → end_of (planned item) ≤ e
      → left e (behind planned e (item ∷ items)) (behind aired e rows) < left at (item ∷ items) rows
  fewer_by_item rows e le ended =
      let fewer = length-ended planned e item items ended in
      let rest = changes-later aired at e rows le in
      omega arith

  fewer_by_row : (rows : List AiredRow) (e : ℕ) → changes aired e (behind aired e rows) < changes aired at rows
      → left e (behind planned e (item ∷ items)) (behind aired e rows) < left at (item ∷ items) rows
  fewer_by_row rows e less =
      let fewer = length-behind planned e (item ∷ items) in
      omega arith

  fewer : (rows : List AiredRow) → LieAhead aired at frames rows
      → (let e = piece_end item rows at in
      left e (behind planned e (item ∷ items)) (behind aired e rows) < left at (item ∷ items) rows)
  fewer [] ahead = fewer_by_item [] (end_of (planned item)) (omega (arith, cover.1)) (omega arith)
  fewer (r ∷ rs) ahead =
      let e = piece_end item (r ∷ rs) at in
      let begins = later (r ∷ rs) ahead in
      ⊎_elim
      (λ short.
      ⊎_elim
      (λ before.
      let is = end_before item r rs at before in
      fewer_by_row (r ∷ rs) e (changes-begins aired at e r rs before (omega arith) (omega (arith, ahead.1))))
      (λ begun.
      let is = end_begun item r rs at begun in
      fewer_by_row (r ∷ rs) e (changes-ends aired at e r rs (omega arith)))
      (cases_lt at r.pos))
      (λ ended. fewer_by_item (r ∷ rs) e (omega arith) ended)
      (cases_lt e (end_of (planned item)))

-- a turn from one frame to another
pub record IsTurn (frames at : ℕ) (items : List Item) (rows : List AiredRow) (e : ℕ) (s : Status)
    (items_left : List Item) (rows_left : List AiredRow) : Type 0 where
  pub later : at < e
  pub within : e ≤ frames
  pub cover : CoverAhead planned e frames items_left
  pub ahead : LieAhead aired e frames rows_left
  pub spelled : table (status_at items rows) at (frames - at)
      ≡ replicate (e - at) s ++ table (status_at items_left rows_left) e (frames - e)
  pub fewer : length items_left + changes aired e rows_left < length items + changes aired at rows

turn_at : (frames at : ℕ) (item : Item) (items : List Item) (rows : List AiredRow)
    → CoverAhead planned at frames (item ∷ items) → LieAhead aired at frames rows
    → (let e = piece_end item rows at in
    IsTurn frames at (item ∷ items) rows e (piece_status item rows at) (behind planned e (item ∷ items))
    (behind aired e rows))
turn_at frames at item items rows cover ahead =
    let e = piece_end item rows at in
    let begins = later frames at item items cover rows ahead in
    record {
      later = begins;
      within = within frames at item items cover rows;
      cover =
          cover-behind planned at e frames item items (omega arith) (lasts_item frames at item items cover rows) cover;
      ahead =
          ahead-behind aired at e frames rows (within frames at item items cover rows)
          (lasts_rows frames at item items cover rows) ahead;
      spelled = spelled_turn frames at item items cover rows ahead;
      fewer = fewer frames at item items cover rows ahead;
    }

abbrev Left : Type 0
Left = ℕ × Status × List Item × List AiredRow

pub turn : (frames at : ℕ) (item : Item) (items : List Item) (rows : List AiredRow) (e : ℕ) (s : Status)
    (items_left : List Item) (rows_left : List AiredRow)
    → Some item ≡ slice_get items 0
    → e ≡ piece_end item rows at → s ≡ piece_status item rows at → items_left ≡ behind planned e items
    → rows_left ≡ behind aired e rows
    → CoverAhead planned at frames items → LieAhead aired at frames rows
    → IsTurn frames at items rows e s items_left rows_left
turn frames at item [] rows e s items_left rows_left first end status items_are rows_are cover ahead = absurd (cc)
turn frames at item (i ∷ is) rows e s items_left rows_left first end status items_are rows_are cover ahead =
    let same : i ≡ item = cc in
    let end_is : piece_end i rows at ≡ e = ap (λ (i : Item). piece_end i rows at) same ∙ sym end in
    let status_is : piece_status i rows at ≡ s = ap (λ (i : Item). piece_status i rows at) same ∙ sym status in
    let items_is : behind planned (piece_end i rows at) (i ∷ is) ≡ items_left =
    ap (λ k. behind planned k (i ∷ is)) end_is ∙ sym items_are in
    let rows_is : behind aired (piece_end i rows at) rows ≡ rows_left =
    ap (λ k. behind aired k rows) end_is ∙ sym rows_are in
    let from : Left = (
      piece_end i rows at,
      piece_status i rows at,
      behind planned (piece_end i rows at) (i ∷ is),
      behind aired
          (piece_end i rows at) rows,
    ) in
    let to : Left = (e, s, items_left, rows_left) in
    let there : from ≡ to = λ k. (end_is k, status_is k, items_is k, rows_is k) in
    subst (λ (x : Left). IsTurn frames at (i ∷ is) rows x.0 x.1 x.2 x.3) there (turn_at frames at i is rows cover ahead)

-- the same, by what the contracts of a step say
pub turn_by : (frames at : ℕ) (item : Item) (items : List Item) (rows : List AiredRow) (e : ℕ) (s : Status)
    (items_left : List Item) (rows_left : List AiredRow)
    → Some item ≡ slice_get items 0
    → IfNone (slice_get rows 0) ((e ≡ end_of (planned item)) × (s ≡ statuses.Missed))
    → IfSome (slice_get rows 0)
    (λ row. at < row.pos → (e ≡ min (end_of (planned item)) row.pos) × (s ≡ statuses.Missed))
    → IfSome (slice_get rows 0)
    (λ row. row.pos ≤ at → (e ≡ min (end_of (planned item)) (end_of (aired row)))
    × (s ≡ status_of (Some ((planned item).shows (at - item.pos))) (Some ((aired row).shows (at - row.pos)))))
    → IfNone (slice_get items 0) (items_left ≡ items)
    → IfSome (slice_get items 0) (λ i. e < end_of (planned i) → items_left ≡ items)
    → IfSome (slice_get items 0) (λ i. end_of (planned i) ≤ e → items_left ≡ drop 1 items)
    → IfNone (slice_get rows 0) (rows_left ≡ rows)
    → IfSome (slice_get rows 0) (λ r. e < end_of (aired r) → rows_left ≡ rows)
    → IfSome (slice_get rows 0) (λ r. end_of (aired r) ≤ e → rows_left ≡ drop 1 rows)
    → CoverAhead planned at frames items → LieAhead aired at frames rows
    → IsTurn frames at items rows e s items_left rows_left
turn_by frames at item items rows e s items_left rows_left first alone before beside no_item item_lasts item_ended
    no_row row_lasts row_ended cover ahead =
    let none = of_none (slice_get rows 0) (e ≡ end_of (planned item)) (s ≡ statuses.Missed) alone in
    let ahead_of =
    of_some (slice_get rows 0) (λ (row : AiredRow). at < row.pos)
    (λ (row : AiredRow). e ≡ min (end_of (planned item)) row.pos) (λ (row : AiredRow). s ≡ statuses.Missed) before
    in
    let at_row =
    of_some (slice_get rows 0) (λ (row : AiredRow). row.pos ≤ at)
    (λ (row : AiredRow). e ≡ min (end_of (planned item)) (end_of (aired row)))
    (λ (row : AiredRow). s
    ≡ status_of (Some ((planned item).shows (at - item.pos))) (Some ((aired row).shows (at - row.pos)))) beside in
    turn frames at item items rows e s items_left rows_left first (end_is item rows at e none.0 ahead_of.0 at_row.0)
    (status_is item rows at s none.1 ahead_of.1 at_row.1)
    (behind_is planned e items items_left no_item item_lasts item_ended)
    (behind_is aired e rows rows_left no_row row_lasts row_ended) cover ahead

-- the last turn leaves nothing
pub none_left : (frames at : ℕ) (items : List Item) (rows : List AiredRow) (list all : List Status)
    → None ≡ slice_get items 0 → CoverAhead planned at frames items
    → list ++ table (status_at items rows) at (frames - at) ≡ all → list ≡ all
none_left frames at (i ∷ is) rows list all none cover whole = absurd (cc)
none_left frames at [] rows list all none cover whole =
    let end : frames - at ≡ 0 = omega (arith, cover) in
    sym (append-nil list) ∙ ap (λ n. list ++ table (status_at [] rows) at n) (sym end) ∙ whole

pub item_within : (frames at : ℕ) (item : Item) (items : List Item) → Some item ≡ slice_get items 0
    → CoverAhead planned at frames items → end_of (planned item) ≤ frames
item_within frames at item [] first cover = absurd (cc)
item_within frames at item (i ∷ is) first cover =
    let same : i ≡ item = cc in
    subst (λ (i : Item). end_of (planned i) ≤ frames) same (within_end planned (end_of (planned i)) frames is cover.2)

-- the list after a turn, and its length
pub list_turn : (old new stretch rest next all : List Status) → new ≡ old ++ stretch → rest ≡ stretch ++ next
    → old ++ rest ≡ all → new ++ next ≡ all
list_turn old new stretch rest next all more split whole =
    ap (λ list. list ++ next) more ∙ append_assoc old stretch next ∙ ap (λ list. old ++ list) (sym split) ∙ whole

pub length_turn : (old new : List Status) (s : Status) (at e : ℕ) → new ≡ old ++ replicate (e - at) s
    → length old ≡ at → at < e → length new ≡ e
length_turn old new s at e more size lt =
    let sum = ap length more ∙ length-append old (replicate (e - at) s) in
    let stretch = length-replicate (e - at) s in
    omega arith

pub length-statuses : (frames : ℕ) (items : List Item) (rows : List AiredRow)
    → length (statuses_of (picture_of planned frames items) (picture_of aired frames rows)) ≡ frames
length-statuses frames items rows =
    ap length (statuses_is frames items rows) ∙ length-table (status_at items rows) 0 frames
