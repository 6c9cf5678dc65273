-- What is painted at a frame is what the event on top shows there.
use Rattle.std.proofs.Common.{◌≡◌, ℕ, zero, suc, ◌+◌, ◌<◌, List, [], ◌∷◌, ◌++◌, length, refl, sym, ap, ◌∙◌, subst}
use Rattle.std.proofs.Common.{arith, add-zero, zero-add}
use Rattle.std.specs.Prelude.{Bool, true, false, ◌&&◌, if◌then◌else◌, Option, Some, None, All, slice_get}
use Rattle.std.specs.Option.{option_or}
use Rattle.std.proofs.lemmas.Bool.{and_parts}
use Rattle.std.proofs.lemmas.Option.{slice_get_within, get_or_from_slice_get}
use Rattle.edl.specs.Entry.{EventEntry}
use Rattle.edl_diff.specs.declared.track.Track.{Track}
use Rattle.edl_diff.specs.Track.{is_on}
use Rattle.edl_diff.specs.Shown.{Cell, cell_of, covers, paint, painted, shown, since}
use Rattle.edl_diff.specs.Layers.{cell_in, event_numbered, is_painted, top_of, top_from}

or_none : {A : Type 0} (a : Option A) → option_or a None ≡ a
or_none None = refl
or_none (Some a) = refl

or_assoc : {A : Type 0} (a b c : Option A) → option_or (option_or a b) c ≡ option_or a (option_or b c)
or_assoc None b c = refl
or_assoc (Some a) b c = refl

module _ (day : ℕ) (track : Track) (f : ℕ) where
  painted_cell : (c : Bool) (e : EventEntry) (under : Option Cell)
      → (if c then Some (cell_of e (since day e.record_first f)) else under)
      ≡ option_or (cell_in day (if c then Some e else None) f) under
  painted_cell true e under = refl
  painted_cell false e under = refl

  painted_under : (b : Bool) (top : Option EventEntry) (e : EventEntry) (picture : ℕ → Option Cell)
      → option_or (cell_in day top f) ((if b then paint day e picture else picture) f)
      ≡ option_or (cell_in day (option_or top (if b && covers day e f then Some e else None)) f) (picture f)
  painted_under b (Some x) e picture = refl
  painted_under true None e picture = painted_cell (covers day e f) e (picture f)
  painted_under false None e picture = refl

  painted_top : (events : List EventEntry) (picture : ℕ → Option Cell)
      → painted day track events picture f ≡ option_or (cell_in day (top_of day track events f) f) (picture f)
  unfolding painted top_of
  painted_top [] picture = refl
  painted_top (e ∷ es) picture =
      painted_top es (if is_on track e then paint day e picture else picture)
      ∙ painted_under (is_on track e) (top_of day track es f) e picture

  pub shown_top : (events : List EventEntry) → shown day track events f ≡ cell_in day (top_of day track events f) f
  shown_top events = painted_top events (λ frame. None) ∙ or_none (cell_in day (top_of day track events f) f)

  -- the event on top covers the frame
  covers_step : (o : Option EventEntry) (b : Bool) (x e : EventEntry) → (o ≡ Some x → covers day x f ≡ true)
      → (b ≡ true → covers day e f ≡ true)
      → option_or o (if b then Some e else None) ≡ Some x → covers day x f ≡ true
  covers_step (Some y) b x e later here is = later is
  covers_step None true x e later here is =
      let same : e ≡ x = cc in
      subst (λ (e : EventEntry). covers day e f ≡ true) same (here refl)
  covers_step None false x e later here is = absurd (cc)

  pub top_covers : (events : List EventEntry) (x : EventEntry) → top_of day track events f ≡ Some x
      → covers day x f ≡ true
  unfolding top_of
  top_covers [] x is = absurd (cc)
  top_covers (e ∷ es) x is =
      covers_step (top_of day track es f) (is_painted day track e f) x e (top_covers es x)
      (λ painted. (and_parts (is_on track e) (covers day e f) painted).1) is

  -- the number of the event on top, counted from n, is that of an event
  abbrev IsNumbered : ℕ → List EventEntry → Option ℕ → Option EventEntry → Type 0
  IsNumbered n events None top = top ≡ None
  IsNumbered n events (Some j) top =
      (k : ℕ) × (x : EventEntry) × (j ≡ n + k) × (slice_get events k ≡ Some x) × (top ≡ Some x)

  numbered_step : (n : ℕ) (e : EventEntry) (es : List EventEntry) (b : Bool) (number : Option ℕ)
      (top : Option EventEntry) → IsNumbered (n + 1) es number top
      → IsNumbered n (e ∷ es) (option_or number (if b then Some n else None))
      (option_or top (if b then Some e else None))
  numbered_step n e es true None top is =
      (0, e, sym (add-zero n), refl, ap (λ (o : Option EventEntry). option_or o (Some e)) is)
  numbered_step n e es false None top is = ap (λ (o : Option EventEntry). option_or o None) is
  numbered_step n e es b (Some j) top is =
      let there : j ≡ n + suc is.0 = omega (arith, is.2) in
      (suc is.0, is.1, there, is.3, ap (λ (o : Option EventEntry). option_or o (if b then Some e else None)) is.4)

  top_numbered : (n : ℕ) (events : List EventEntry)
      → IsNumbered n events (top_from day track n events f) (top_of day track events f)
  unfolding top_of top_from
  top_numbered n [] = refl
  top_numbered n (e ∷ es) =
      numbered_step n e es (is_painted day track e f) (top_from day track (n + 1) es f) (top_of day track es f)
      (top_numbered (n + 1) es)

  numbered_is : (events : List EventEntry) (number : Option ℕ) (top : Option EventEntry)
      → IsNumbered 0 events number top → event_numbered events number ≡ top
  numbered_is events None top is = sym is
  numbered_is events (Some j) top is = ap (slice_get events) (is.2 ∙ zero-add is.0) ∙ is.3 ∙ sym is.4

  pub top_is : (events : List EventEntry)
      → event_numbered events (top_from day track 0 events f) ≡ top_of day track events f
  top_is events = numbered_is events (top_from day track 0 events f) (top_of day track events f) (top_numbered 0 events)

  -- of events behind others
  pub top_from-append : (n : ℕ) (xs ys : List EventEntry)
      → top_from day track n (xs ++ ys) f
      ≡ option_or (top_from day track (n + length xs) ys f) (top_from day track n xs f)
  unfolding top_from
  top_from-append n [] ys =
      ap (λ (m : ℕ). top_from day track m ys f) (sym (add-zero n)) ∙ sym (or_none (top_from day track (n + 0) ys f))
  top_from-append n (e ∷ es) ys =
      let own : Option ℕ = if is_painted day track e f then Some n else None in
      let there : (n + 1) + length es ≡ n + suc (length es) = omega arith in
      ap (λ (o : Option ℕ). option_or o own) (top_from-append (n + 1) es ys)
      ∙ or_assoc (top_from day track ((n + 1) + length es) ys f) (top_from day track (n + 1) es f) own
      ∙ ap (λ (m : ℕ). option_or (top_from day track m ys f) (option_or (top_from day track (n + 1) es f) own)) there

-- what holds of each event holds of one with a number
pub all_numbered : (P : EventEntry → Type 0) (events : List EventEntry) (number : Option ℕ) (x : EventEntry)
    → All P events → event_numbered events number ≡ Some x → P x
all_numbered P events None x all is = absurd (cc)
all_numbered P events (Some k) x all is =
    let lt = slice_get_within events k x is in
    subst P (get_or_from_slice_get events k x x is) (all k x lt)
