-- The lines of a day's items.
use Rattle.std.proofs.Common.{◌≡◌, ℕ, zero, suc, ◌+◌, ◌-◌, ◌%◌, ◌<◌, ◌≤◌, List, [], ◌∷◌, ◌++◌, length, get_or, take}
use Rattle.std.proofs.Common.{drop, Bool, true, false, refl, sym, ◌∙◌, ap, subst, append_assoc, arith}
use Rattle.std.specs.Prelude.{Option, Some, None, IfSome, All, IsUtf8, find, slice_get, slice_index, ◌==◌}
use Rattle.std.specs.Prelude.{if◌then◌else◌}
use Rattle.std.specs.List.{cons_option, list_all, list_any}
use Rattle.std.specs.Option.{option_to_list}
use Rattle.std.proofs.lemmas.Bool.Decides.{nat_tests}
use Rattle.std.proofs.lemmas.List.{get_or-map, length-map, drop_more}
use Rattle.std.proofs.lemmas.List.Elements.{All-append, All-cons, All-nil, All-tail, All-take}
use Rattle.std.proofs.lemmas.Str.{IsUtf8-from_ascii}
use Rattle.timecode.specs.declared.rates.Rate.{Rate}
use Rattle.timecode.specs.declared.rates.Rate.TheVariants.{F24, F25, F30, Df30}
use Rattle.timecode.specs.Counting.{day_length}
use Rattle.channel_plan.specs.declared.plan.PlanRow.{PlanRow}
use Rattle.vault_core.specs.Title.{is_title, is_title_byte}
use Rattle.edl.specs.Limits.{highest_event_number}
use Rattle.edl.specs.declared.write.OutEvent.{OutEvent}
use Rattle.edl.specs.Written.{OutEntry}
use Rattle.edl.specs.WrittenShown.{HasText, out_shown, outs_of}
use Rattle.playlist_core.specs.declared.item.EditKind.{EditKind}
use Rattle.playlist_core.specs.declared.item.EditKind.TheVariants.{Cut, Dissolve, Wipe}
use Rattle.playlist_core.specs.declared.item.Item.{Item}
use Rattle.playlist_core.specs.Order.{AreApart}
use Rattle.playlist_core.specs.Source.{SourcesSeen}
use Rattle.playlist_core.specs.Item.{is_item, planned}
use Rattle.playlist_core.specs.Day.{Day, KeepsDayRules}
use Rattle.playlist_core.proofs.PictureLemmas.{apart_within}
use Rattle.playlist_edl.specs.Exporting.{CanBeListed, can_be_listed, is_titled, title_of, duration_of, item_line}
use Rattle.playlist_edl.specs.Exporting.{cut_line, unless_cut, item_ending, outgoing_of, lines_of_item, lines_from}
use Rattle.playlist_edl.specs.Exporting.{has_whole_day}

-- a title is text
byte_ascii : (bs : List ℕ) (i : ℕ) → list_all is_title_byte bs ≡ true → slice_index bs i < 128
byte_ascii [] i all = omega arith
byte_ascii (b ∷ bs) zero all = grind (arith, nat_tests, all)
byte_ascii (b ∷ bs) (suc i) all = byte_ascii bs i (grind (arith, all))

pub title_utf8 : (title : List ℕ) → is_title title ≡ true → IsUtf8 title
unfolding is_title
title_utf8 title is = IsUtf8-from_ascii title (λ i. byte_ascii title i (grind (arith, is)))

-- what is found among rows of which each has something has it
pub found_has : {R : Type 0} (P : R → Type 0) (p : R → Bool) (rows : List R) → All P rows → IfSome (find p rows) P
found_has P p [] all = tt
found_has P p (r ∷ rs) all =
    let rest = found_has P p rs (All-tail P r rs all) in
    elim (p r) as (λ b. IfSome (if b then Some r else find p rs) P) [
      | true ↦ all 0 r (omega arith)
      | false ↦ rest
    ]

listed_before : {R : Type 0} (P : R → Type 0) (o : Option R) → IfSome o P → All P (option_to_list o)
listed_before P None is = All-nil P
listed_before P (Some r) is = All-cons P r [] is (All-nil P)

-- and so has what is found in one row that has it
pub found_before : {R : Type 0} (P : R → Type 0) (p : R → Bool) (o : Option R) → IfSome o P
    → IfSome (find p (option_to_list o)) P
found_before P p o is = found_has P p (option_to_list o) (listed_before P o is)

got_has : {R : Type 0} (P : R → Type 0) (rows : List R) (i : ℕ) → All P rows → IfSome (slice_get rows i) P
got_has P [] i all = tt
got_has P (r ∷ rs) zero all = all 0 r (omega arith)
got_has P (r ∷ rs) (suc i) all = got_has P rs i (All-tail P r rs all)

pub before_has : {R : Type 0} (P : R → Type 0) (rows : List R) (k : ℕ) → All P rows
    → IfSome (slice_get (take k rows) (k - 1)) P
before_has P rows k all = got_has P (take k rows) (k - 1) (All-take P k rows all)

-- ---- the item that ends where another begins

-- of items that lie apart each begins at the place where they begin, or later
begins_behind : (from to : ℕ) (items : List Item) (k : ℕ) (d : Item) → AreApart planned from to items → k < length items
    → from ≤ (get_or items k d).pos
begins_behind from to [] k d apart lt = absurd (omega arith)
begins_behind from to (i ∷ is) zero d apart lt = apart.0
begins_behind from to (i ∷ is) (suc k) d apart lt =
    let rest = begins_behind (i.pos + i.frames) to is k d apart.2 (omega arith) in
    omega (arith, apart.0, apart.1, rest)

-- and none ends there or earlier
none_ending : (from to p : ℕ) (items : List Item) → AreApart planned from to items → p ≤ from
    → item_ending items p ≡ None
none_ending from to p [] apart le = refl
none_ending from to p (i ∷ is) apart le =
    let begins : from ≤ i.pos = apart.0 in
    let some : 0 < i.frames = apart.1 in
    let other : (i.pos + i.frames == p) ≡ false = grind (arith, nat_tests, begins, some, le) in
    let rest = none_ending (i.pos + i.frames) to p is apart.2 (omega arith) in
    rw other rest

-- none ends where the first begins
none_at_first : (from to : ℕ) (items : List Item) (d : Item) → AreApart planned from to items → 0 < length items
    → item_ending items (get_or items 0 d).pos ≡ None
none_at_first from to [] d apart lt = absurd (omega arith)
none_at_first from to (i ∷ is) d apart lt =
    let again : AreApart planned i.pos to (i ∷ is) = (omega arith, apart.1, apart.2) in
    none_ending i.pos to i.pos (i ∷ is) again (omega arith)

-- the item before the one at an index
unfoldable row_before : List Item → ℕ → Option Item
row_before items zero = None
row_before items (suc k) = slice_get (take (suc k) items) k

row_before-is : (items : List Item) (k : ℕ) → slice_get (take k items) (k - 1) ≡ row_before items k
unfolding row_before
row_before-is items zero = refl
row_before-is items (suc k) = let one_less : suc k - 1 ≡ k = omega arith in ap (slice_get (take (suc k) items)) one_less

-- The item that ends where one begins is the one before it, if any.
ending_before : (from to : ℕ) (items : List Item) (k : ℕ) (d : Item) → AreApart planned from to items → k < length items
    → item_ending items (get_or items k d).pos
    ≡ item_ending (option_to_list (row_before items k)) (get_or items k d).pos
unfolding row_before
ending_before from to [] k d apart lt = absurd (omega arith)
ending_before from to (i ∷ is) zero d apart lt = none_at_first from to (i ∷ is) d apart (omega arith)
ending_before from to (i ∷ is) (suc zero) d apart lt =
    let p : ℕ = (get_or is 0 d).pos in
    ap (λ o. if i.pos + i.frames == p then Some i else o)
    (none_at_first (i.pos + i.frames) to is d apart.2 (omega arith))
ending_before from to (i ∷ j ∷ is) (suc (suc k)) d apart lt =
    let p : ℕ = (get_or (j ∷ is) (suc k) d).pos in
    let some : 0 < j.frames = apart.2.1 in
    let behind : j.pos + j.frames ≤ p = begins_behind (j.pos + j.frames) to is k d apart.2.2 (omega arith) in
    let begins : i.pos + i.frames ≤ j.pos = apart.2.0 in
    let other : (i.pos + i.frames == p) ≡ false = grind (arith, nat_tests, some, behind, begins) in
    rw other (ending_before (i.pos + i.frames) to (j ∷ is) (suc k) d apart.2 (omega arith))
ending_before from to (i ∷ []) (suc (suc k)) d apart lt = absurd (omega arith)

pub outgoing_before : (plan : PlanRow) (seen : SourcesSeen) (to : ℕ) (items : List Item) (k : ℕ) (d : Item)
    (before : Option Item) → AreApart planned 0 to items → k < length items
    → before ≡ slice_get (take k items) (k - 1)
    → outgoing_of plan seen (option_to_list before) (k + 1) (get_or items k d)
    ≡ outgoing_of plan seen items (k + 1) (get_or items k d)
outgoing_before plan seen to items k d before apart lt is =
    let i : Item = get_or items k d in
    ap (λ o. outgoing_of plan seen (option_to_list o) (k + 1) i) (is ∙ row_before-is items k)
    ∙ ap (λ o. unless_cut i.kind (cut_line plan seen (k + 1) i.pos o)) (sym (ending_before 0 to items k d apart lt))

-- ---- lines

-- the lines of one item more
pub lines_more : (plan : PlanRow) (seen : SourcesSeen) (all items : List Item) (k : ℕ) (d i : Item)
    (front whole : List OutEntry) → i ≡ get_or items k d → k < length items
    → whole ≡ front ++ lines_of_item plan seen all (k + 1) i
    → whole ++ lines_from plan seen all (k + 1 + 1) (drop (k + 1) items)
    ≡ front ++ lines_from plan seen all (k + 1) (drop k items)
lines_more plan seen all items k d i front whole read lt grown =
    ap (λ lines. lines ++ lines_from plan seen all (k + 1 + 1) (drop (k + 1) items)) grown
    ∙ append_assoc front (lines_of_item plan seen all (k + 1) i)
    (lines_from plan seen all (k + 1 + 1) (drop (k + 1) items))
    ∙ ap
    (λ (x : Item). front
    ++ (lines_of_item plan seen all (k + 1) x ++ lines_from plan seen all (k + 1 + 1) (drop (k + 1) items))) read
    ∙ ap (λ is. front ++ lines_from plan seen all (k + 1) is) (sym (drop_more items k d lt))

-- a line that can be written at a rate
pub record IsWritable (rate : Rate) (e : OutEntry) : Type 0 where
  pub number : e.number ≤ highest_event_number
  pub duration : IfSome e.duration (λ frames. frames ≤ 999)
  pub source_first : e.source_first ≤ day_length rate
  pub source_end : e.source_end ≤ day_length rate
  pub record_first : e.record_first < day_length rate
  pub length : e.length < day_length rate

pub all_writable : (rate : Rate) (events : List OutEvent) → All (IsWritable rate) (outs_of events)
    → All (HasText rate) events
all_writable rate events all = λ k d lt.
    let there : k < length (outs_of events) = omega (arith, length-map events out_shown) in
    let it : IsWritable rate (out_shown (get_or events k d)) =
    subst (IsWritable rate) (get_or-map out_shown events k d (out_shown d) lt) (all k (out_shown d) there) in
    record {
      number = it.number;
      duration = it.duration;
      source_first = it.source_first;
      source_end = it.source_end;
      record_first = it.record_first;
      length = it.length;
    }

some_frame : (rate : Rate) → 0 < day_length rate
some_frame F24 = omega arith
some_frame F25 = omega arith
some_frame F30 = omega arith
some_frame Df30 = omega arith

in_day : (a b : ℕ) → 0 < b → a % b < b
in_day a b some = omega arith

short : (kind : EditKind) (mix : ℕ) → mix ≤ 999 → IfSome (duration_of kind mix) (λ frames. frames ≤ 999)
short Cut mix le = tt
short Dissolve mix le = le
short (Wipe n) mix le = le

module _ (plan : PlanRow) (seen : SourcesSeen) (n : ℕ) (few : n ≤ highest_event_number) where
  item_writable : (i : Item) → CanBeListed plan seen i → i.mix ≤ 999 → i.frames < day_length plan.rate
      → IsWritable plan.rate (item_line plan seen n i)
  item_writable i listed mix shorter = record {
    number = few;
    duration = short i.kind i.mix mix;
    source_first = omega (arith, listed.ends);
    source_end = listed.ends;
    record_first = in_day (plan.start + i.pos) (day_length plan.rate) (some_frame plan.rate);
    length = shorter;
  }

  cut_writable : (p : ℕ) (o : Option Item) → IfSome o (CanBeListed plan seen)
      → IsWritable plan.rate (cut_line plan seen n p o)
  cut_writable p None listed = record {
    number = few;
    duration = tt;
    source_first = omega arith;
    source_end = omega arith;
    record_first = in_day (plan.start + p) (day_length plan.rate) (some_frame plan.rate);
    length = some_frame plan.rate;
  }
  cut_writable p (Some b) listed = record {
    number = few;
    duration = tt;
    source_first = listed.ends;
    source_end = listed.ends;
    record_first = in_day (plan.start + p) (day_length plan.rate) (some_frame plan.rate);
    length = some_frame plan.rate;
  }

  outgoing_writable : (kind : EditKind) (e : OutEntry) → IsWritable plan.rate e
      → IfSome (unless_cut kind e) (IsWritable plan.rate)
  outgoing_writable Cut e is = tt
  outgoing_writable Dissolve e is = is
  outgoing_writable (Wipe m) e is = is

with_outgoing : {X : Type 0} (P : X → Type 0) (o : Option X) (xs : List X) → IfSome o P → All P xs
    → All P (cons_option o xs)
with_outgoing P None xs one all = all
with_outgoing P (Some x) xs one all = All-cons P x xs one all

abbrev pub IsShorter : ℕ → Item → Type 0
IsShorter frames i = (i.mix ≤ 999) × (i.frames < frames)

pub lines_writable : (plan : PlanRow) (seen : SourcesSeen) (all items : List Item) (n : ℕ)
    → n + length items ≤ highest_event_number + 1 → All (CanBeListed plan seen) all → All (CanBeListed plan seen) items
    → All (IsShorter (day_length plan.rate)) items
    → All (IsWritable plan.rate) (lines_from plan seen all n items)
lines_writable plan seen all [] n few among listed shorter = λ k d lt. absurd (omega arith)
lines_writable plan seen all (i ∷ is) n few among listed shorter =
    let le : n ≤ highest_event_number = omega arith in
    let one = listed 0 i (omega arith) in
    let its = shorter 0 i (omega arith) in
    let cut =
    cut_writable plan seen n le i.pos (item_ending all i.pos)
    (found_has (CanBeListed plan seen) (λ b. b.pos + b.frames == i.pos) all among) in
    let line = item_writable plan seen n le i one its.0 its.1 in
    All-append (IsWritable plan.rate) (lines_of_item plan seen all n i) (lines_from plan seen all (n + 1) is)
    (with_outgoing (IsWritable plan.rate) (outgoing_of plan seen all n i) (item_line plan seen n i ∷ [])
    (outgoing_writable plan seen n le i.kind _ cut)
    (All-cons (IsWritable plan.rate) (item_line plan seen n i) [] line (λ k d lt. absurd (omega arith))))
    (lines_writable plan seen all is (n + 1) (omega arith) among (All-tail (CanBeListed plan seen) i is listed)
    (All-tail (IsShorter (day_length plan.rate)) i is shorter))

-- the items of a day without one of its own length
shorter_from : (from frames : ℕ) (items : List Item) → AreApart planned from frames items
    → list_all is_item items ≡ true → list_any (λ i. i.frames == frames) items ≡ false → All (IsShorter frames) items
shorter_from from frames [] apart fields none = λ k d lt. absurd (omega arith)
shorter_from from frames (i ∷ is) apart fields none =
    let ends : i.pos + i.frames ≤ frames = apart_within planned (i.pos + i.frames) frames is apart.2 in
    let mix : i.mix ≤ 999 = grind (arith, nat_tests, fields) in
    let other : i.frames < frames = grind (arith, nat_tests, none, ends) in
    let one : IsShorter frames i = (mix, other) in
    let field : list_all is_item is ≡ true = grind (arith, fields) in
    let no_more : list_any (λ j. j.frames == frames) is ≡ false = grind (arith, none) in
    All-cons (IsShorter frames) i is one (shorter_from (i.pos + i.frames) frames is apart.2 field no_more)

pub day_shorter : (day : Day) (frames : ℕ) → KeepsDayRules day → day.frames ≡ frames → has_whole_day day ≡ false
    → All (IsShorter frames) day.items
day_shorter day frames rules own none =
    subst (λ n. All (IsShorter n) day.items) own (shorter_from 0 day.frames day.items rules.apart rules.fields none)

-- the same where its lines are known one by one
pub lines_step : (plan : PlanRow) (seen : SourcesSeen) (items : List Item) (k : ℕ) (d : Item)
    (front whole : List OutEntry) (outgoing : Option OutEntry) (line : OutEntry) → k < length items
    → line ≡ item_line plan seen (k + 1) (get_or items k d)
    → outgoing ≡ outgoing_of plan seen items (k + 1) (get_or items k d)
    → whole ≡ front ++ cons_option outgoing (line ∷ [])
    → whole ++ lines_from plan seen items (k + 1 + 1) (drop (k + 1) items)
    ≡ front ++ lines_from plan seen items (k + 1) (drop k items)
lines_step plan seen items k d front whole outgoing line lt line_is outgoing_is grown =
    lines_more plan seen items items k d (get_or items k d) front whole refl lt
    (grown ∙ (λ j. front ++ cons_option (outgoing_is j) (line_is j ∷ [])))

-- what the test of an item says
titled : (o : Option (List ℕ)) → is_titled o ≡ true → IfSome o (λ title. is_title title ≡ true)
titled None h = tt
titled (Some title) h = h

pub listed_all : (plan : PlanRow) (seen : SourcesSeen) (items : List Item)
    → list_all (can_be_listed plan seen) items ≡ true → All (CanBeListed plan seen) items
listed_all plan seen [] h = λ k d lt. absurd (omega arith)
listed_all plan seen (i ∷ is) h =
    let ends : i.src_first + i.frames ≤ day_length plan.rate = grind (arith, nat_tests, h) in
    let title : is_titled (title_of seen i.src) ≡ true = grind (arith, h) in
    let one : CanBeListed plan seen i = record { ends = ends; title = titled (title_of seen i.src) title } in
    All-cons (CanBeListed plan seen) i is one (listed_all plan seen is (grind (arith, h)))
