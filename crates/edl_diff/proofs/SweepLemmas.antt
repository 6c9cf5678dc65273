-- Runs, as far as two lists have been swept.
use Rattle.std.proofs.Common.{◌≡◌, ℕ, zero, suc, ◌+◌, ◌-◌, ◌<◌, ◌≤◌, min, max, List, [], ◌∷◌, ◌++◌, length, refl, sym}
use Rattle.std.proofs.Common.{ap, ◌∙◌, subst, ⊎_elim, arith, add-zero, append_assoc, length-append}
use Rattle.std.specs.Prelude.{Option, Some, None, All, IfSome, Result, Ok, Err, OnOk, replicate, true}
use Rattle.std.proofs.lemmas.Bool.{cases_lt}
use Rattle.std.proofs.lemmas.List.{append-nil}
use Rattle.std.proofs.lemmas.List.Elements.{All-weaker}
use Rattle.timecode.specs.declared.rates.Rate.{Rate}
use Rattle.timecode.specs.Counting.{day_length}
use Rattle.edl.specs.InDay.{IsEntryInDay}
use Rattle.edl.specs.Entry.{EventEntry}
use Rattle.edl_diff.specs.declared.track.Track.{Track}
use Rattle.edl_diff.specs.declared.layers.Piece.{Piece}
use Rattle.edl_diff.specs.declared.layers.Stretch.{Stretch}
use Rattle.edl_diff.specs.declared.status.Status.{Status}
use Rattle.edl_diff.specs.declared.status.Run.{Run}
use Rattle.edl_diff.specs.Shown.{shown}
use Rattle.edl_diff.specs.Status.{from_frame, status_at, status_of, statuses}
use Rattle.edl_diff.specs.Runs.{AreRunsOf, LieInRow, spelled}
use Rattle.edl_diff.specs.Layers.{IsPlaced, ShowsFrom, behind, cell_in, event_numbered, next_of, over, piece_at}
use Rattle.edl_diff.specs.Layers.{top_from, top_of}
use Rattle.edl_diff.proofs.LayerLemmas.{behind_same, next_none, next_shown}
use Rattle.edl_diff.proofs.ShownLemmas.{steady}
use Rattle.edl_diff.proofs.TopLemmas.{all_numbered, shown_top, top_covers, top_is}

module _ {A : Type 0} where
  pub length-from_frame : (v : ℕ → A) (p n : ℕ) → length (from_frame v p n) ≡ n
  length-from_frame v p zero = refl
  length-from_frame v p (suc n) = ap suc (length-from_frame v (p + 1) n)

  pub from_frame-split : (v : ℕ → A) (p m n : ℕ) → from_frame v p (m + n) ≡ from_frame v p m ++ from_frame v (p + m) n
  from_frame-split v p zero n =
      let same : 0 + n ≡ n = omega arith in
      let here : p ≡ p + 0 = omega arith in
      ap (from_frame v p) same ∙ ap (λ q. from_frame v q n) here
  from_frame-split v p (suc m) n =
      let more : suc m + n ≡ suc (m + n) = omega arith in
      let there : (p + 1) + m ≡ p + suc m = omega arith in
      ap (from_frame v p) more
      ∙ ap (λ list. v p ∷ list) (from_frame-split v (p + 1) m n)
      ∙ ap (λ q. v p ∷ (from_frame v (p + 1) m ++ from_frame v q n)) there

  pub from_frame-steady : (v : ℕ → A) (x : A) (p n : ℕ) → ((q : ℕ) → p ≤ q → q < p + n → v q ≡ x)
      → from_frame v p n ≡ replicate n x
  from_frame-steady v x p zero same = refl
  from_frame-steady v x p (suc n) same =
      ap (λ y. y ∷ from_frame v (p + 1) n) (same p (omega arith) (omega arith))
      ∙ ap (λ list. x ∷ list) (from_frame-steady v x (p + 1) n (λ q le lt. same q (omega arith) (omega arith)))

  pub from_frame-same : (v w : ℕ → A) (p n : ℕ) → ((q : ℕ) → p ≤ q → q < p + n → v q ≡ w q)
      → from_frame v p n ≡ from_frame w p n
  from_frame-same v w p zero same = refl
  from_frame-same v w p (suc n) same =
      ap (λ y. y ∷ from_frame v (p + 1) n) (same p (omega arith) (omega arith))
      ∙ ap (λ list. w p ∷ list) (from_frame-same v w (p + 1) n (λ q le lt. same q (omega arith) (omega arith)))

  -- one more frame
  pub from_frame-more : (v : ℕ → A) (p n : ℕ) → from_frame v p (n + 1) ≡ from_frame v p n ++ replicate 1 (v (p + n))
  from_frame-more v p n = from_frame-split v p n 1

-- pieces whose event is the one on top
abbrev pub AreTops : ℕ → Track → List EventEntry → List Piece → Type 0
AreTops day track events pieces =
    (frame : ℕ) → frame < day → piece_at pieces frame ≡ Some (top_from day track 0 events frame)

-- the frames swept, and what is left
pub record IsSwept (day : ℕ) (track : Track) (one other : List EventEntry) (laid laid_other ones others : List Piece)
    (runs : List Run) (at : ℕ) : Type 0 where
  pub within : at ≤ day
  pub tops : AreTops day track one laid
  pub other_tops : AreTops day track other laid_other
  pub left : (f : ℕ) → at ≤ f → f < day → piece_at ones f ≡ piece_at laid f
  pub other_left : (f : ℕ) → at ≤ f → f < day → piece_at others f ≡ piece_at laid_other f
  pub list : spelled runs ≡ from_frame (status_at day track one other) 0 at
  pub row : LieInRow 0 runs

pub swept_length : (day : ℕ) (track : Track) (one other : List EventEntry) (laid laid_other ones others : List Piece)
    (runs : List Run) (at : ℕ)
    → IsSwept day track one other laid laid_other ones others runs at → length (spelled runs) ≡ at
swept_length day track one other laid laid_other ones others runs at swept =
    ap length swept.list ∙ length-from_frame (status_at day track one other) 0 at

-- over a stretch one event is on top, or none
top_steady : (day : ℕ) (track : Track) (events : List EventEntry) (laid left : List Piece) (at f : ℕ)
    (number : Option ℕ) (o : Option EventEntry)
    → AreTops day track events laid → ((f : ℕ) → at ≤ f → f < day → piece_at left f ≡ piece_at laid f) → at ≤ f
    → f < day
    → piece_at left f ≡ Some number → o ≡ event_numbered events number → top_of day track events f ≡ o
top_steady day track events laid left at f number o tops kept le lt is named =
    let same : Some number ≡ Some (top_from day track 0 events f) = sym is ∙ kept f le lt ∙ tops f lt in
    let number_is : number ≡ top_from day track 0 events f = cc in
    sym (named ∙ ap (event_numbered events) number_is ∙ top_is day track f events)

if_some : {A : Type 0} (P : A → Type 0) (o : Option A) → ((x : A) → o ≡ Some x → P x) → IfSome o P
if_some P None holds = tt
if_some P (Some x) holds = holds x refl

pub shows_from : (day : ℕ) (track : Track) (events : List EventEntry) (laid left : List Piece) (at end : ℕ)
    (number : Option ℕ) (o : Option EventEntry)
    → AreTops day track events laid → ((f : ℕ) → at ≤ f → f < day → piece_at left f ≡ piece_at laid f) → end ≤ day
    → ((f : ℕ) → f < end → piece_at left f ≡ Some number) → o ≡ event_numbered events number → All (IsPlaced day) events
    → IfSome o (ShowsFrom day at end)
shows_from day track events laid left at end number o tops kept within is named placed =
    if_some (ShowsFrom day at end) o (λ x some. record {
      placed = all_numbered (IsPlaced day) events number x placed (sym named ∙ some);
      covered =
          λ f le lt. top_covers day track f events x
          (top_steady day track events laid left at f number o tops kept le (omega arith) (is f lt) named ∙ some);
    })

module _ (day : ℕ) (track : Track) (one other : List EventEntry) (laid laid_other ones others : List Piece)
    (runs new : List Run) (at : ℕ) (s : Stretch)
    (swept : IsSwept day track one other laid laid_other ones others runs at) (next : next_of ones others ≡ Some s)
    (x y : Option EventEntry) (x_is : x ≡ event_numbered one s.one) (y_is : y ≡ event_numbered other s.other)
    (added : spelled new
    ≡ spelled runs
    ++ from_frame (λ frame. status_of (cell_in day x frame) (cell_in day y frame)) at (min s.end day - at)) where
  stretch_status : (f : ℕ) → at ≤ f → f < min s.end day
      → status_of (cell_in day x f) (cell_in day y f) ≡ status_at day track one other f
  stretch_status f le lt =
      let is = next_shown ones others s next f (omega arith) in
      let top = top_steady day track one laid ones at f s.one x swept.tops swept.left le (omega arith) is.0 x_is in
      let other_top =
      top_steady day track other laid_other others at f s.other y swept.other_tops swept.other_left le (omega arith)
      is.1 y_is in
      ap (λ (o : Option EventEntry). status_of (cell_in day o f) (cell_in day y f)) (sym top)
      ∙ ap (λ (o : Option EventEntry). status_of (cell_in day (top_of day track one f) f) (cell_in day o f))
      (sym other_top)
      ∙ ap (λ c. status_of c (cell_in day (top_of day track other f) f)) (sym (shown_top day track f one))
      ∙ ap (λ c. status_of (shown day track one f) c) (sym (shown_top day track f other))

  swept_list : spelled new ≡ from_frame (status_at day track one other) 0 (max at (min s.end day))
  swept_list =
      let v = status_at day track one other in
      let n : ℕ = min s.end day - at in
      let all : at + n ≡ max at (min s.end day) = omega arith in
      let here : 0 + at ≡ at = omega arith in
      added
      ∙ ap (λ list. list ++ from_frame (λ frame. status_of (cell_in day x frame) (cell_in day y frame)) at n) swept.list
      ∙ ap (λ list. from_frame v 0 at ++ list)
      (from_frame-same (λ frame. status_of (cell_in day x frame) (cell_in day y frame)) v at n
      (λ q le lt. stretch_status q le (omega arith)))
      ∙ ap (λ p. from_frame v 0 at ++ from_frame v p n) (sym here)
      ∙ sym (from_frame-split v 0 at n)
      ∙ ap (from_frame v 0) all

  pub swept_next : (ones_left others_left : List Piece) (later : ℕ) → ones_left ≡ behind s.end ones
      → others_left ≡ behind s.end others → later ≡ max at (min s.end day)
      → LieInRow 0 new → IsSwept day track one other laid laid_other ones_left others_left new later
  swept_next ones_left others_left later one_is other_is later_is row = record {
    within = let le = swept.within in omega (arith, later_is, le);
    tops = swept.tops;
    other_tops = swept.other_tops;
    left =
        λ f le lt. ap (λ (ps : List Piece). piece_at ps f) one_is ∙ behind_same s.end ones f (omega (arith, later_is))
        ∙ swept.left f (omega (arith, later_is)) lt;
    other_left =
        λ f le lt. ap (λ (ps : List Piece). piece_at ps f) other_is
        ∙ behind_same s.end others f (omega (arith, later_is)) ∙ swept.other_left f (omega (arith, later_is)) lt;
    list = swept_list ∙ ap (from_frame (status_at day track one other) 0) (sym later_is);
    row = row;
  }

pub swept_all : (day : ℕ) (track : Track) (one other : List EventEntry) (laid laid_other ones others : List Piece)
    (runs : List Run) (at : ℕ)
    → IsSwept day track one other laid laid_other ones others runs at → next_of ones others ≡ None
    → AreRunsOf (statuses day track one other) runs
swept_all day track one other laid laid_other ones others runs at swept none =
    let end : at ≡ day =
    ⊎_elim
    (λ before.
    let first = swept.left at (omega arith) before ∙ swept.tops at before in
    let second = swept.other_left at (omega arith) before ∙ swept.other_tops at before in
    let both =
    sym
    (ap (λ (o : Option (Option ℕ)). over o (piece_at others at)) first
    ∙ ap (λ (o : Option (Option ℕ)). over (Some (top_from day track 0 one at)) o) second)
    ∙ next_none ones others none at in
    absurd (cc))
    (λ after. let le = swept.within in omega arith)
    (cases_lt at day) in
    record {
      spelled = swept.list ∙ ap (from_frame (status_at day track one other) 0) end;
      longest = swept.row;
    }

-- one frame of a stretch
pub shows_one : (day at end f : ℕ) (o : Option EventEntry) → at ≤ f → f < end → IfSome o (ShowsFrom day at end)
    → IfSome o (ShowsFrom day f (f + 1))
shows_one day at end f None le lt shows = tt
shows_one day at end f (Some e) le lt shows = record {
  placed = shows.placed;
  covered = λ q from below. shows.covered q (omega arith) (omega arith);
}

pub shows_ordered : (day at end : ℕ) (o : Option EventEntry) → IfSome o (ShowsFrom day at end)
    → IfSome o (λ e. e.source_first ≤ e.source_end)
shows_ordered day at end None shows = tt
shows_ordered day at end (Some e) shows = shows.placed.ordered

-- the runs after one more frame, and their length
pub one_more : (v : ℕ → Status) (old mid new : List Status) (at f : ℕ) → at ≤ f → mid ≡ old ++ from_frame v at (f - at)
    → new ≡ mid ++ replicate 1 (v f) → new ≡ old ++ from_frame v at (f + 1 - at)
one_more v old mid new at f le so_far more =
    let there : at + (f - at) ≡ f = omega arith in
    let longer : (f - at) + 1 ≡ f + 1 - at = omega arith in
    more
    ∙ ap (λ list. list ++ replicate 1 (v f)) so_far
    ∙ append_assoc old (from_frame v at (f - at)) (replicate 1 (v f))
    ∙ ap (λ q. old ++ (from_frame v at (f - at) ++ replicate 1 (v q))) (sym there)
    ∙ ap (λ list. old ++ list) (sym (from_frame-more v at (f - at)))
    ∙ ap (λ n. old ++ from_frame v at n) longer

pub length_so_far : (v : ℕ → Status) (old mid : List Status) (at f : ℕ) → at ≤ f
    → length old ≡ at → mid ≡ old ++ from_frame v at (f - at) → f ≡ length mid
length_so_far v old mid at f le size so_far =
    let sum = ap length so_far ∙ length-append old (from_frame v at (f - at)) in
    let part = length-from_frame v at (f - at) in
    omega arith

-- none more
pub none_more : (v : ℕ → Status) (old : List Status) (at end : ℕ) → end ≤ at → old ≡ old ++ from_frame v at (end - at)
none_more v old at end le =
    let none : end - at ≡ 0 = omega arith in
    sym (ap (λ n. old ++ from_frame v at n) none ∙ append-nil old)

-- what follows where a call succeeded
pub on_ok : {T E : Type 0} (P Q : Type 0) (r : Result T E) → OnOk r P → (P → Q) → OnOk r Q
on_ok P Q (Ok v) h f = f h
on_ok P Q (Err e) h f = tt

-- a stretch over which each list shows frame after frame
pub steady_list : (day at end : ℕ) (one other : Option EventEntry) → at < end → end ≤ day
    → IfSome one (ShowsFrom day at end) → IfSome other (ShowsFrom day at end)
    → IfSome one (λ e. e.source_end - e.source_first ≡ e.length)
    → IfSome other (λ e. e.source_end - e.source_first ≡ e.length)
    → from_frame (λ f. status_of (cell_in day one f) (cell_in day other f)) at (end - at)
    ≡ replicate (end - at) (status_of (cell_in day one at) (cell_in day other at))
steady_list day at end one other some within shows other_shows even other_even =
    from_frame-steady (λ f. status_of (cell_in day one f) (cell_in day other f))
    (status_of (cell_in day one at) (cell_in day other at)) at (end - at)
    (λ q le lt. steady day at end q le (omega arith) within one other shows other_shows even other_even)

-- events of a list lie in its day
pub all_placed : (rate : Rate) (day : ℕ) (events : List EventEntry) → day ≡ day_length rate
    → All (IsEntryInDay rate) events → All (IsPlaced day) events
all_placed rate day events is all =
    subst (λ (d : ℕ). All (IsPlaced d) events) (sym is)
    (All-weaker (IsEntryInDay rate) (IsPlaced (day_length rate)) (λ e in_day. record {
      ordered = in_day.ordered;
      source_end = in_day.source_end;
      record_first = in_day.record_first;
      length = in_day.length;
    }) events all)
