-- A revision of a day that is sent again, right after it was done.
use Rattle.std.proofs.Common.{◌≡◌, ◌⊎◌, ℕ, zero, suc, ◌+◌, ◌-◌, ◌<◌, ◌≤◌, List, [], ◌∷◌, Bool, true, false, not, ◌&&◌}
use Rattle.std.proofs.Common.{◌||◌, refl, sym, ◌∙◌, ap, ap₂, subst, inl, inr, arith}
use Rattle.std.specs.Prelude.{◌==◌, nat_lt, find, length, Option, Some, None, Result, Ok, Err, is_some, filter}
use Rattle.std.specs.Prelude.{if◌then◌else◌}
use Rattle.std.specs.List.{list_any}
use Rattle.std.proofs.lemmas.Bool.Decides.{nat_tests}
use Rattle.channel_plan.specs.declared.plan.PlanRow.{PlanRow}
use Rattle.channel_plan.specs.declared.refusal.Code.{Code}
use Rattle.channel_plan.specs.declared.refusal.Code.TheVariants.{PastDayEnd, MixLong, EmptyItem, Overlap, NoItem}
use Rattle.channel_plan.specs.declared.refusal.Refusal.{Refusal}
use Rattle.channel_plan.specs.Refusal.{refused}
use Rattle.playlist_core.specs.declared.day.DayState.{DayState}
use Rattle.playlist_core.specs.declared.day.DayState.TheVariants.{NotThere, Open, Sealed}
use Rattle.playlist_core.specs.declared.item.Item.{Item}
use Rattle.playlist_core.specs.declared.item.NewItem.{NewItem}
use Rattle.playlist_core.specs.declared.source.Source.{Source}
use Rattle.playlist_core.specs.Limits.{most_items}
use Rattle.playlist_core.specs.Source.{SourcesSeen}
use Rattle.playlist_core.specs.Order.{put}
use Rattle.playlist_core.specs.Picture.{covers, is_painted, least, first_painted}
use Rattle.playlist_core.specs.Item.{planned, numbered}
use Rattle.playlist_core.specs.Day.{Day, has_number, picture_in, refused_at, if_open, source_fault, unless}
use Rattle.playlist_core.specs.Day.{unless_taken, with_number, free_number, item_of, item_in, item_for, with_item}
use Rattle.playlist_core.specs.Day.{without_item, number_of}
use Rattle.playlist_core.proofs.PictureLemmas.{shown, is_painted-picture, least_here}
use Rattle.playlist_core.proofs.AddLemmas.{accepted, has_number-put, least_found}
use Rattle.channel_view_model.specs.declared.revision.ItemRefusal.{ItemRefusal}
use Rattle.channel_view_model.specs.declared.revision.SaidItem.{SaidItem}
use Rattle.channel_view_model.specs.Days.{item_of_said}
use Rattle.channel_view_model.specs.Revision.{SaidRevision}
use Rattle.channel_view_model.specs.Revising.{taken_out, day_without, new_said, put_in, day_with, and_then, at_place}
use Rattle.channel_view_model.specs.Revising.{in_turn, day_revised}
use Rattle.vault_core.proofs.AgainLemmas.{passes}
use Rattle.channel_view_laws.proofs.PaintedLemmas.{stays_painted, not_zero}

-- ---- the least number that passes a test

-- is no later than another that does
least_upto : (f : ℕ → Bool) (p n q : ℕ) → f q ≡ true → p ≤ q → q < p + n → (r : ℕ) × (least f p n ≡ Some r) × (r ≤ q)
unfolding least
least_upto f p zero q is from within = absurd (omega arith)
least_upto f p (suc n) q is from within = by (f p) refl (λ later in_rest. least_upto f (p + 1) n q is later in_rest)
  where
    by : (b : Bool) → f p ≡ b → (p + 1 ≤ q → q < p + 1 + n → (r : ℕ) × (least f (p + 1) n ≡ Some r) × (r ≤ q))
        → (r : ℕ) × ((if f p then Some p else least f (p + 1) n) ≡ Some r) × (r ≤ q)
    by true here rest = (p, ap (λ b. if b then Some p else least f (p + 1) n) here, from)
    by false here rest =
        let other : p + 1 ≤ q = past (p == q) refl in
        let more = rest other (omega arith) in
        (more.0, ap (λ b. if b then Some p else least f (p + 1) n) here ∙ more.1, more.2)
      where
        past : (b : Bool) → (p == q) ≡ b → p + 1 ≤ q
        past true e =
            let same : p ≡ q = grind (arith, nat_tests, e) in absurd (let both = sym here ∙ ap f same ∙ is in cc)
        past false e = let differ = e in grind (arith, nat_tests, differ, from)

-- none before it does
least_first : (f : ℕ → Bool) (p n q k : ℕ) → least f p n ≡ Some q → p ≤ k → k < q → f k ≡ false
least_first f p n q k found from lt = by (f k) refl
  where
    by : (b : Bool) → f k ≡ b → b ≡ false
    by false e = refl
    by true e =
        let its = least_found f p n q found in
        let first = least_upto f p n k e from (omega (arith, its.1)) in
        let same : first.0 ≡ q = let both = sym first.1 ∙ found in cc in
        absurd (omega (arith, first.2, same))

-- ---- what is taken out

module _ (numbers : List ℕ) where
  abbrev pub is_out : ℕ → Bool
  is_out m = list_any (λ n. m == n) numbers

  abbrev pub kept : List Item → List Item
  kept items = filter (λ i. not (is_out i.n)) items

  abbrev pub without_all : Day → Day
  without_all day = record day { items = kept day.items }

  -- an item that is taken out again leaves what is kept
  kept_put : (a : Item → Bool) (x : Item) → is_out x.n ≡ true → (items : List Item) → kept (put a x items) ≡ kept items
  kept_put a x is [] = ap (λ b. if not b then x ∷ [] else []) is
  kept_put a x is (i ∷ rest) =
      elim (a i) as (λ v. kept (if v then x ∷ i ∷ rest else i ∷ put a x rest) ≡ kept (i ∷ rest)) [
        | true ↦ ap (λ b. if not b then x ∷ kept (i ∷ rest) else kept (i ∷ rest)) is
        | false ↦ ap (λ more. if not (is_out i.n) then i ∷ more else more) (kept_put a x is rest)
      ]

  -- any other is kept
  any_kept : (test : Item → Bool) (a : Item → Bool) (x : Item) (items : List Item)
      → list_any test (kept (put a x items)) ≡ ((not (is_out x.n) && test x) || list_any test (kept items))
  any_kept test a x [] = by (is_out x.n)
    where
      by : (b : Bool) → list_any test (if not b then x ∷ [] else []) ≡ ((not b && test x) || false)
      by true = refl
      by false = refl
  any_kept test a x (i ∷ rest) =
      elim (a i)
      as (λ v. list_any test (kept (if v then x ∷ i ∷ rest else i ∷ put a x rest))
      ≡ ((not (is_out x.n) && test x) || list_any test (kept (i ∷ rest)))) [
        | true ↦ first (is_out x.n) (kept (i ∷ rest))
        | false ↦ later (is_out i.n) (any_kept test a x rest)
      ]
    where
      first : (b : Bool) (others : List Item)
          → list_any test (if not b then x ∷ others else others) ≡ ((not b && test x) || list_any test others)
      first true others = refl
      first false others = refl

      later : (b : Bool)
          → list_any test (kept (put a x rest)) ≡ ((not (is_out x.n) && test x) || list_any test (kept rest))
          → list_any test (if not b then i ∷ kept (put a x rest) else kept (put a x rest))
          ≡ ((not (is_out x.n) && test x) || list_any test (if not b then i ∷ kept rest else kept rest))
      later true h = h
      later false h =
          swap (test i) (not (is_out x.n) && test x) (list_any test (kept rest)) (list_any test (kept (put a x rest))) h
        where
          swap : (p q r s : Bool) → s ≡ (q || r) → (p || s) ≡ (q || (p || r))
          swap true true r s h = refl
          swap true false r s h = refl
          swap false true r s h = h
          swap false false r s h = h

  -- what is kept has none of the numbers
  none_out : (m : ℕ) (items : List Item) → is_out m ≡ true → has_number (kept items) m ≡ true → ⊥
  none_out m [] is has = absurd (cc)
  none_out m (i ∷ rest) is has = by (is_out i.n) refl has (λ h. none_out m rest is h)
    where
      by : (b : Bool) → is_out i.n ≡ b → has_number (if not b then i ∷ kept rest else kept rest) m ≡ true
          → (has_number (kept rest) m ≡ true → ⊥) → ⊥
      by true e h others = others h
      by false e h others = of_first (i.n == m) refl h
        where
          of_first : (b : Bool) → (i.n == m) ≡ b → (b || has_number (kept rest) m) ≡ true → ⊥
          of_first true same h =
              let it : i.n ≡ m = grind (arith, nat_tests, same) in
              absurd (let both = sym e ∙ ap is_out it ∙ is in cc)
          of_first false differ h = others h

  -- and is kept again
  kept_twice : (items : List Item) → kept (kept items) ≡ kept items
  kept_twice [] = refl
  kept_twice (i ∷ rest) = by (is_out i.n) refl (kept_twice rest)
    where
      by : (b : Bool) → is_out i.n ≡ b → kept (kept rest) ≡ kept rest
          → kept (if not b then i ∷ kept rest else kept rest) ≡ (if not b then i ∷ kept rest else kept rest)
      by true e others = others
      by false e others =
          ap (λ b. if not b then i ∷ kept (kept rest) else kept (kept rest)) e ∙ ap (λ more. i ∷ more) others

-- nothing is taken out by no number
all_kept : (items : List Item) → kept [] items ≡ items
all_kept [] = refl
all_kept (i ∷ rest) = ap (λ more. i ∷ more) (all_kept rest)

-- one number, and then the others
kept_behind : (n : ℕ) (ns : List ℕ) (items : List Item)
    → kept ns (filter (λ i. not (i.n == n)) items) ≡ kept (n ∷ ns) items
kept_behind n ns [] = refl
kept_behind n ns (i ∷ rest) = by (i.n == n) (kept_behind n ns rest)
  where
    by : (b : Bool) → kept ns (filter (λ i. not (i.n == n)) rest) ≡ kept (n ∷ ns) rest
        → kept ns (if not b then i ∷ filter (λ i. not (i.n == n)) rest else filter (λ i. not (i.n == n)) rest)
        ≡ (if not (b || is_out ns i.n) then i ∷ kept (n ∷ ns) rest else kept (n ∷ ns) rest)
    by true others = others
    by false others = ap (λ more. if not (is_out ns i.n) then i ∷ more else more) others

one_out : (n : ℕ) (day next : Day) → day_without n day ≡ Ok next → (day.state ≡ Open) × (next ≡ without_item n day)
one_out n day next made = by day.state (find (λ i. i.n == n) day.items) made
  where
    by : (s : DayState) (o : Option Item) → taken_out n day (if_open s (number_of o)) ≡ Ok next
        → (s ≡ Open) × (next ≡ without_item n day)
    by NotThere o h = absurd (cc)
    by Sealed o h = absurd (cc)
    by Open None h = absurd (cc)
    by Open (Some i) h = (refl, cc)

-- the day without all of these
pub all_out : (ns : List ℕ) (k : ℕ) (day next : Day) → in_turn day_without k ns day ≡ Ok next
    → next ≡ without_all ns day
all_out [] k day next made =
    let same : day ≡ next = cc in
    sym same ∙ ap (λ (is : List Item). let d : Day = record day { items = is } in d) (sym (all_kept day.items))
all_out (n ∷ ns) k day next made = by (day_without n day) refl made (all_out ns (k + 1))
  where
    by : (r : Result Day Refusal) → day_without n day ≡ r
        → and_then (at_place k r) (in_turn day_without (k + 1) ns) ≡ Ok next
        → ((day next : Day) → in_turn day_without (k + 1) ns day ≡ Ok next → next ≡ without_all ns day)
        → next ≡ without_all (n ∷ ns) day
    by (Err e) was h rest = absurd (cc)
    by (Ok one) was h rest =
        rest one next h ∙ ap (without_all ns) (one_out n day one was).1
        ∙ ap (λ (is : List Item). let d : Day = record day { items = is } in d) (kept_behind n ns day.items)

out_open : (ns : List ℕ) (k : ℕ) (day next : Day) → in_turn day_without k ns day ≡ Ok next → (length ns == 0) ≡ false
    → day.state ≡ Open
out_open [] k day next made some = absurd (cc)
out_open (n ∷ ns) k day next made some = by (day_without n day) refl made
  where
    by : (r : Result Day Refusal) → day_without n day ≡ r
        → and_then (at_place k r) (in_turn day_without (k + 1) ns) ≡ Ok next → day.state ≡ Open
    by (Err e) was h = absurd (cc)
    by (Ok one) was h = (one_out n day one was).0

-- Of an open day all of these are taken out, or one isn't there.
abbrev pub HasCode : Code → Result Day ItemRefusal → Type 0
HasCode code r = (e : ItemRefusal) × (r ≡ Err e) × (e.refusal.code ≡ code)

out_again : (ns : List ℕ) (k : ℕ) (day : Day) → day.state ≡ Open
    → (in_turn day_without k ns day ≡ Ok (without_all ns day)) ⊎ HasCode NoItem (in_turn day_without k ns day)
out_again [] k day is_open =
    inl (ap (λ (is : List Item). Ok (let d : Day = record day { items = is } in d)) (sym (all_kept day.items)))
out_again (n ∷ ns) k day is_open = by (find (λ i. i.n == n) day.items) refl (out_again ns (k + 1))
  where
    step : (o : Option Item) → find (λ i. i.n == n) day.items ≡ o → day_without n day ≡ taken_out n day (number_of o)
    step o is =
        ap (λ s. taken_out n day (if_open s (number_of (find (λ i. i.n == n) day.items)))) is_open
        ∙ ap (λ o. taken_out n day (number_of o)) is

    by : (o : Option Item) → find (λ i. i.n == n) day.items ≡ o
        → ((day : Day) → day.state ≡ Open
        → (in_turn day_without (k + 1) ns day ≡ Ok (without_all ns day))
        ⊎ HasCode NoItem (in_turn day_without (k + 1) ns day))
        → (in_turn day_without k (n ∷ ns) day ≡ Ok (without_all (n ∷ ns) day))
        ⊎ HasCode NoItem (in_turn day_without k (n ∷ ns) day)
    by None is rest =
        inr (
          record { item = k; refusal = refused NoItem },
          ap
              (λ r. and_then (at_place k r) (in_turn day_without (k + 1) ns)) (step None is),
          refl,
        )
    by (Some i) is rest = of_rest (rest (without_item n day) is_open)
      where
        here : in_turn day_without k (n ∷ ns) day ≡ in_turn day_without (k + 1) ns (without_item n day)
        here = ap (λ r. and_then (at_place k r) (in_turn day_without (k + 1) ns)) (step (Some i) is)

        of_rest : (in_turn day_without (k + 1) ns (without_item n day) ≡ Ok (without_all ns (without_item n day)))
            ⊎ HasCode NoItem (in_turn day_without (k + 1) ns (without_item n day))
            → (in_turn day_without k (n ∷ ns) day ≡ Ok (without_all (n ∷ ns) day))
            ⊎ HasCode NoItem (in_turn day_without k (n ∷ ns) day)
        of_rest (inl all) =
            inl
            (here ∙ all
            ∙ ap (λ (is : List Item). Ok (let d : Day = record day { items = is } in d)) (kept_behind n ns day.items))
        of_rest (inr why) = inr (why.0, here ∙ why.1, why.2)

-- ---- what is put in

-- a frame is painted where an item covers it
shown_any : (items : List Item) (q : ℕ)
    → is_some (shown planned items q) ≡ list_any (λ i. covers i.pos i.frames q) items
shown_any [] q = refl
shown_any (i ∷ rest) q = by (covers i.pos i.frames q) (shown_any rest q)
  where
    by : (b : Bool) → is_some (shown planned rest q) ≡ list_any (λ i. covers i.pos i.frames q) rest
        → is_some (if b then Some ((planned i).shows (q - i.pos)) else shown planned rest q)
        ≡ (b || list_any (λ i. covers i.pos i.frames q) rest)
    by true others = refl
    by false others = others

module _ (plan : PlanRow) (seen : SourcesSeen) where
  -- the tests of an item that look at no other
  same_tests : (day other : Day) (new : NewItem) (item : Item) → item_in day plan seen new ≡ Ok item
      → other.number ≡ day.number → other.frames ≡ day.frames
      → item_in other plan seen new
      ≡ unless_taken plan (first_painted new.pos new.frames (picture_in other))
      (with_number (free_number other.items) item.src new)
  unfolding item_in
  same_tests day other new item made number frames =
      let within =
      passes (nat_lt day.frames (new.pos + new.frames)) (refused PastDayEnd) (item_of day plan seen new new.src)
      item made in
      ap (λ f. if nat_lt f (new.pos + new.frames) then Err (refused PastDayEnd)
      else item_of other plan seen new new.src) frames
      ∙ ap (λ b. if b then Err (refused PastDayEnd) else item_of other plan seen new new.src) within.0
      ∙ by new.src within.1
    where
      taken : Day → Source → Result Item Refusal
      taken d source =
          unless_taken plan (first_painted new.pos new.frames (picture_in d))
          (with_number (free_number d.items) source new)

      source_is : (source : Source) (p n : Option ℕ) → unless_taken plan p (with_number n source new) ≡ Ok item
          → source ≡ item.src
      source_is source (Some p) n h = absurd (cc)
      source_is source None None h = absurd (cc)
      source_is source None (Some n) h = let same : numbered n source new ≡ item = cc in ap (λ (i : Item). i.src) same

      under : (source : Source) (fault : Option Code)
          → unless fault (if nat_lt new.frames new.mix then Err (refused MixLong) else taken day source) ≡ Ok item
          → unless fault (if nat_lt new.frames new.mix then Err (refused MixLong) else taken other source)
          ≡ taken other item.src
      under source (Some code) h = absurd (cc)
      under source None h =
          let short = passes (nat_lt new.frames new.mix) (refused MixLong) (taken day source) item h in
          ap (λ b. if b then Err (refused MixLong) else taken other source) short.0
          ∙ ap (taken other)
          (source_is source (first_painted new.pos new.frames (picture_in day)) (free_number day.items) short.1)

      by : (o : Option Source) → item_of day plan seen new o ≡ Ok item
          → item_of other plan seen new o ≡ taken other item.src
      by None h = absurd (cc)
      by (Some source) h =
          ap (λ n. unless (source_fault plan n seen new source)
          (if nat_lt new.frames new.mix then Err (refused MixLong) else taken other source)) number
          ∙ under source (source_fault plan day.number seen new source) h

  -- an item that a day took
  pub record IsIn (said : SaidItem) (day next : Day) : Type 0 where
    pub new : NewItem
    pub item : Item
    pub says : new_said plan said ≡ Ok new
    pub some : 0 < new.frames
    pub state : day.state ≡ Open
    pub made : item_in day plan seen new ≡ Ok item
    pub is : next ≡ with_item item day

  pub one_in : (said : SaidItem) (day next : Day) → day_with plan seen said day ≡ Ok next → IsIn said day next
  unfolding item_for
  one_in said day next made = of_said (new_said plan said) refl made
    where
      of_item : (new : NewItem) → new_said plan said ≡ Ok new → (s : DayState) → day.state ≡ s
          → (r : Result Item Refusal) → item_in day plan seen new ≡ r
          → put_in day (if_open s (if new.frames == 0 then Err (refused EmptyItem) else r)) ≡ Ok next
          → IsIn said day next
      of_item new says NotThere state r is h = absurd (cc)
      of_item new says Sealed state r is h = absurd (cc)
      of_item new says Open state r is h = of_frames (new.frames == 0) refl r is h
        where
          of_frames : (b : Bool) → (new.frames == 0) ≡ b → (r : Result Item Refusal) → item_in day plan seen new ≡ r
              → put_in day (if b then Err (refused EmptyItem) else r) ≡ Ok next → IsIn said day next
          of_frames true none r is h = absurd (cc)
          of_frames false some (Err e) is h = absurd (cc)
          of_frames false some (Ok item) is h =
              record {
                new = new;
                item = item;
                says = says;
                some = not_zero new.frames some;
                state = state;
                made = is;
                is =
                    cc;
              }

      of_said : (r : Result NewItem Refusal) → new_said plan said ≡ r
          → put_in day (item_of_said day plan seen r) ≡ Ok next → IsIn said day next
      of_said (Err e) says h = absurd (cc)
      of_said (Ok new) says h = of_item new says day.state refl (item_in day plan seen new) refl h

  -- what another open day answers to it
  asked_again : (said : SaidItem) (day next other : Day) (it : IsIn said day next) → other.number ≡ day.number
      → other.frames ≡ day.frames → other.state ≡ Open
      → day_with plan seen said other
      ≡ put_in other
      (unless_taken plan (first_painted it.new.pos it.new.frames (picture_in other))
      (with_number (free_number other.items) it.item.src it.new))
  unfolding item_for
  asked_again said day next other it number frames state =
      ap (λ r. put_in other (item_of_said other plan seen r)) it.says
      ∙ ap
      (λ s. put_in other
      (if_open s (if it.new.frames == 0 then Err (refused EmptyItem) else item_in other plan seen it.new))) state
      ∙ ap (λ b. put_in other (if b then Err (refused EmptyItem) else item_in other plan seen it.new)) some
      ∙ ap (put_in other) (same_tests day other it.new it.item it.made number frames)
    where
      some : (it.new.frames == 0) ≡ false
      some = let more = it.some in grind (arith, nat_tests, more)

  -- the day is the same but for its items
  pub record IsSame (day later : Day) : Type 0 where
    pub number : later.number ≡ day.number
    pub frames : later.frames ≡ day.frames
    pub state : later.state ≡ day.state

  pub all_in : (k : ℕ) (items : List SaidItem) (day last : Day) → in_turn (day_with plan seen) k items day ≡ Ok last
      → IsSame day last
  all_in k [] day last made =
      let same : day ≡ last = cc in subst (IsSame day) same (record { number = refl; frames = refl; state = refl })
  all_in k (said ∷ items) day last made = by (day_with plan seen said day) refl made (all_in (k + 1) items)
    where
      by : (r : Result Day Refusal) → day_with plan seen said day ≡ r
          → and_then (at_place k r) (in_turn (day_with plan seen) (k + 1) items) ≡ Ok last
          → ((day last : Day) → in_turn (day_with plan seen) (k + 1) items day ≡ Ok last → IsSame day last)
          → IsSame day last
      by (Err e) was h rest = absurd (cc)
      by (Ok next) was h rest =
          let more = rest next last h in
          let one = (one_in said day next was).is in
          record {
            number = more.number ∙ ap (λ (d : Day). d.number) one;
            frames = more.frames ∙ ap (λ (d : Day). d.frames) one;
            state = more.state ∙ ap (λ (d : Day). d.state) one;
          }

  in_open : (k : ℕ) (items : List SaidItem) (day last : Day) → in_turn (day_with plan seen) k items day ≡ Ok last
      → (length items == 0) ≡ false → day.state ≡ Open
  in_open k [] day last made some = absurd (cc)
  in_open k (said ∷ items) day last made some = by (day_with plan seen said day) refl made
    where
      by : (r : Result Day Refusal) → day_with plan seen said day ≡ r
          → and_then (at_place k r) (in_turn (day_with plan seen) (k + 1) items) ≡ Ok last → day.state ≡ Open
      by (Err e) was h = absurd (cc)
      by (Ok next) was h = (one_in said day next was).state

  module _ (numbers : List ℕ) where
    abbrev covered : List Item → ℕ → Bool
    covered items q = list_any (λ i. covers i.pos i.frames q) (kept numbers items)

    stays_covered : (k : ℕ) (items : List SaidItem) (day last : Day)
        → in_turn (day_with plan seen) k items day ≡ Ok last → (q : ℕ) → covered day.items q ≡ true
        → covered last.items q ≡ true
    stays_covered k [] day last made q is =
        let same : day ≡ last = cc in subst (λ (d : Day). covered d.items q ≡ true) same is
    stays_covered k (said ∷ items) day last made q is =
        by (day_with plan seen said day) refl made (stays_covered (k + 1) items)
      where
        or_right : (a b : Bool) → b ≡ true → (a || b) ≡ true
        or_right true b h = refl
        or_right false b h = h

        by : (r : Result Day Refusal) → day_with plan seen said day ≡ r
            → and_then (at_place k r) (in_turn (day_with plan seen) (k + 1) items) ≡ Ok last
            → ((day last : Day) → in_turn (day_with plan seen) (k + 1) items day ≡ Ok last → (q : ℕ)
            → covered day.items q ≡ true → covered last.items q ≡ true) → covered last.items q ≡ true
        by (Err e) was h rest = absurd (cc)
        by (Ok next) was h rest =
            let it = one_in said day next was in
            rest next last h q
            (ap (λ (d : Day). covered d.items q) it.is
            ∙ any_kept numbers (λ i. covers i.pos i.frames q) (λ i. nat_lt it.item.pos (i.pos + i.frames)) it.item
            day.items ∙ or_right _ _ is)

    -- what comes of items that are put in again, where they were put in, and then those of the numbers were taken out
    abbrev InAgain : ℕ → List SaidItem → Day → Day → Day → Type 0
    InAgain k items day last later =
        (kept numbers last.items ≡ kept numbers day.items)
        ⊎ HasCode Overlap (in_turn (day_with plan seen) k items later)

    record IsLeft (day last later : Day) : Type 0 where
      number : later.number ≡ day.number
      frames : later.frames ≡ day.frames
      state : later.state ≡ Open
      painted : (q : ℕ) → q < day.frames → covered last.items q ≡ true → is_painted (picture_in later) q ≡ true
      given : (m : ℕ) → is_out numbers m ≡ true → has_number later.items m ≡ true → has_number day.items m ≡ true

    adds_again : (k : ℕ) (items : List SaidItem) (day last later : Day)
        → in_turn (day_with plan seen) k items day ≡ Ok last → IsLeft day last later → InAgain k items day last later
    adds_again k [] day last later made left =
        inl (let same : day ≡ last = cc in ap (λ (d : Day). kept numbers d.items) (sym same))
    adds_again k (said ∷ items) day last later made left =
        by (day_with plan seen said day) refl made (adds_again (k + 1) items)
      where
        by : (r : Result Day Refusal) → day_with plan seen said day ≡ r
            → and_then (at_place k r) (in_turn (day_with plan seen) (k + 1) items) ≡ Ok last
            → ((day last later : Day) → in_turn (day_with plan seen) (k + 1) items day ≡ Ok last → IsLeft day last later
            → InAgain (k + 1) items day last later) → InAgain k (said ∷ items) day last later
        by (Err e) was h rest = absurd (cc)
        by (Ok next) was h rest = of_number (is_out numbers it.item.n) refl
          where
            it : IsIn said day next
            it = one_in said day next was

            new : NewItem
            new = it.new

            item : Item
            item = it.item

            place : item.pos ≡ new.pos
            place = ap (λ (i : Item). i.pos) (accepted day plan seen new item it.made).is

            long : item.frames ≡ new.frames
            long = ap (λ (i : Item). i.frames) (accepted day plan seen new item it.made).is

            within : new.pos < day.frames
            within =
                let fits = (accepted day plan seen new item it.made).within in let some = it.some in
                omega (arith, fits, some)

            asked : day_with plan seen said later
                ≡ put_in later
                (unless_taken plan (first_painted new.pos new.frames (picture_in later))
                (with_number (free_number later.items) item.src new))
            asked = asked_again said day next later it left.number left.frames left.state

            refuses : (p : ℕ) → first_painted new.pos new.frames (picture_in later) ≡ Some p
                → HasCode Overlap (in_turn (day_with plan seen) k (said ∷ items) later)
            refuses p is = (
              record { item = k; refusal = refused_at Overlap plan p },
              ap (λ r. and_then (at_place k r) (in_turn (day_with plan seen) (k + 1) items))
                  (asked
                  ∙ ap
                  (λ o. put_in later (unless_taken plan o (with_number (free_number later.items) item.src new)))
                  is),
              refl,
            )

            -- one that stays is there already
            is_there : is_out numbers item.n ≡ false
                → first_painted new.pos new.frames (picture_in later) ≡ Some new.pos
            is_there stays =
                least_here (is_painted (picture_in later)) new.pos new.frames it.some
                (left.painted new.pos within (stays_covered (k + 1) items next last h new.pos its))
              where
                its : covered next.items new.pos ≡ true
                its =
                    let over : covers item.pos item.frames new.pos ≡ true = let some = it.some in
                    grind (arith, nat_tests, place, long, some) in
                    ap (λ (d : Day). covered d.items new.pos) it.is
                    ∙ any_kept numbers (λ i. covers i.pos i.frames new.pos)
                    (λ i. nat_lt item.pos (i.pos + i.frames)) item day.items
                    ∙ ap₂ (λ b c. (not b && c) || covered day.items new.pos) stays over

            -- the number of one that was taken out is free
            free : is_out numbers item.n ≡ true → (n : ℕ) × (free_number later.items ≡ Some n) × (n ≤ item.n)
            free out =
                least_upto (λ m. not (has_number later.items m)) 1 most_items item.n
                (of_has (has_number later.items item.n) refl) found.0 found.1
              where
                found : (1 ≤ item.n) × (item.n < 1 + most_items) × (not (has_number day.items item.n) ≡ true)
                found =
                    least_found (λ m. not (has_number day.items m)) 1 most_items item.n
                    (accepted day plan seen new item it.made).number

                of_has : (b : Bool) → has_number later.items item.n ≡ b → not b ≡ true
                of_has false e = refl
                of_has true e =
                    absurd
                    (let was_there = left.given item.n out e in let free = found.2 in grind (arith, was_there, free))

            of_free : is_out numbers item.n ≡ true → first_painted new.pos new.frames (picture_in later) ≡ None
                → InAgain k (said ∷ items) day last later
            of_free out none = of_rest (rest next last later_on h more_left)
              where
                its : (n : ℕ) × (free_number later.items ≡ Some n) × (n ≤ item.n)
                its = free out

                again : Item
                again = numbered its.0 item.src new

                later_on : Day
                later_on = with_item again later

                steps : in_turn (day_with plan seen) k (said ∷ items) later
                    ≡ in_turn (day_with plan seen) (k + 1) items later_on
                steps =
                    ap (λ r. and_then (at_place k r) (in_turn (day_with plan seen) (k + 1) items))
                    (asked ∙ ap₂ (λ o n. put_in later (unless_taken plan o (with_number n item.src new))) none its.1)

                given_more : (m : ℕ) → is_out numbers m ≡ true → has_number later_on.items m ≡ true
                    → has_number next.items m ≡ true
                given_more m out_m has =
                    ap (λ (d : Day). has_number d.items m) it.is
                    ∙ has_number-put (λ i. nat_lt item.pos (i.pos + i.frames)) item day.items m
                    ∙ of_two (again.n == m) refl
                    (sym (has_number-put (λ i. nat_lt again.pos (i.pos + i.frames)) again later.items m) ∙ has)
                  where
                    or_right : (a b : Bool) → b ≡ true → (a || b) ≡ true
                    or_right true b h = refl
                    or_right false b h = h

                    of_two : (b : Bool) → (again.n == m) ≡ b → (b || has_number later.items m) ≡ true
                        → (item.n == m || has_number day.items m) ≡ true
                    of_two false e h = or_right (item.n == m) (has_number day.items m) (left.given m out_m h)
                    of_two true e h = of_same (item.n == m) refl
                      where
                        of_same : (b : Bool) → (item.n == m) ≡ b → (b || has_number day.items m) ≡ true
                        of_same true e2 = refl
                        of_same false e2 =
                            let less : m < item.n = let most = its.2 in grind (arith, nat_tests, e, e2, most) in
                            let least_is = least_found (λ m. not (has_number later.items m)) 1 most_items its.0 its.1 in
                            let from : 1 ≤ m = let first = least_is.0 in grind (arith, nat_tests, e, first) in
                            let taken =
                            least_first (λ m. not (has_number day.items m)) 1 most_items item.n m
                            (accepted day plan seen new item it.made).number from less in
                            grind (arith, taken)

                more_left : IsLeft next last later_on
                more_left = record {
                  number = left.number ∙ sym (ap (λ (d : Day). d.number) it.is);
                  frames = left.frames ∙ sym (ap (λ (d : Day). d.frames) it.is);
                  state = left.state;
                  painted = λ q lt is.
                      let inside : q < day.frames = subst (λ f. q < f) (ap (λ (d : Day). d.frames) it.is) lt in
                      stays_painted later again q (subst (λ f. q < f) (sym left.frames) inside)
                      (left.painted q inside is);
                  given = given_more;
                }

                of_rest : InAgain (k + 1) items next last later_on → InAgain k (said ∷ items) day last later
                of_rest (inl same) =
                    inl
                    (same ∙ ap (λ (d : Day). kept numbers d.items) it.is
                    ∙ kept_put numbers (λ i. nat_lt item.pos (i.pos + i.frames)) item out day.items)
                of_rest (inr why) = inr (why.0, steps ∙ why.1, why.2)

            of_place : is_out numbers item.n ≡ true → (o : Option ℕ)
                → first_painted new.pos new.frames (picture_in later) ≡ o → InAgain k (said ∷ items) day last later
            of_place out None none = of_free out none
            of_place out (Some p) some = inr (refuses p some)

            of_number : (b : Bool) → is_out numbers item.n ≡ b → InAgain k (said ∷ items) day last later
            of_number false stays = inr (refuses new.pos (is_there stays))
            of_number true out = of_place out (first_painted new.pos new.frames (picture_in later)) refl

  -- ---- the whole revision

  -- it leaves the day, or one of a list is refused
  abbrev pub StaysOrIsRefused : Day → Result Day ItemRefusal → Type 0
  StaysOrIsRefused last r = (r ≡ Ok last) ⊎ (HasCode NoItem r ⊎ HasCode Overlap r)

  abbrev pub RevisedAgain : SaidRevision → Day → Day → Type 0
  RevisedAgain said day last =
      (last.number ≡ day.number) × (last.state ≡ Open) × StaysOrIsRefused last (day_revised plan seen said last)

  pub revised_again : (said : SaidRevision) (day last : Day) → (length said.remove == 0 && length said.add == 0) ≡ false
      → day_revised plan seen said day ≡ Ok last → RevisedAgain said day last
  unfolding day_revised
  revised_again said day last some made = by (in_turn day_without 1 said.remove day) refl made
    where
      ns : List ℕ
      ns = said.remove

      by : (r : Result Day ItemRefusal) → in_turn day_without 1 said.remove day ≡ r
          → and_then r (in_turn (day_with plan seen) 1 said.add) ≡ Ok last → RevisedAgain said day last
      by (Err e) was h = absurd (cc)
      by (Ok next) was h = (same.number ∙ ap (λ (d : Day). d.number) out, is_open, of_out (out_again ns 1 last is_open))
        where
          out : next ≡ without_all ns day
          out = all_out ns 1 day next was

          same : IsSame next last
          same = all_in 1 said.add next last h

          is_open : last.state ≡ Open
          is_open = same.state ∙ of_two (length said.remove == 0) refl
            where
              of_two : (b : Bool) → (length said.remove == 0) ≡ b → next.state ≡ Open
              of_two false more = ap (λ (d : Day). d.state) out ∙ out_open ns 1 day next was more
              of_two true none = in_open 1 said.add next last h (grind (arith, some, none))

          left : IsLeft ns next last (without_all ns last)
          left = record {
            number = same.number;
            frames = same.frames;
            state = is_open;
            painted = λ q lt is.
                is_painted-picture planned last.frames (kept ns last.items) q (subst (λ f. q < f) (sym same.frames) lt)
                ∙ shown_any (kept ns last.items) q ∙ is;
            given = λ m is has. absurd (none_out ns m last.items is has);
          }

          of_in : InAgain ns 1 said.add next last (without_all ns last)
              → StaysOrIsRefused last (in_turn (day_with plan seen) 1 said.add (without_all ns last))
          of_in (inr why) = inr (inr why)
          of_in (inl kept_is) = inl (ap (in_turn (day_with plan seen) 1 said.add) back ∙ h)
            where
              items : kept ns last.items ≡ next.items
              items =
                  kept_is ∙ ap (λ (d : Day). kept ns d.items) out ∙ kept_twice ns day.items
                  ∙ sym (ap (λ (d : Day). d.items) out)

              back : without_all ns last ≡ next
              back i = record { number = same.number i; frames = same.frames i; state = same.state i; items = items i }

          of_out : (in_turn day_without 1 ns last ≡ Ok (without_all ns last))
              ⊎ HasCode NoItem (in_turn day_without 1 ns last)
              → StaysOrIsRefused last
              (and_then (in_turn day_without 1 ns last) (in_turn (day_with plan seen) 1 said.add))
          of_out (inr why) =
              inr (inl (why.0, ap (λ r. and_then r (in_turn (day_with plan seen) 1 said.add)) why.1, why.2))
          of_out (inl all) =
              subst (StaysOrIsRefused last) (sym (ap (λ r. and_then r (in_turn (day_with plan seen) 1 said.add)) all))
              (of_in (adds_again ns 1 said.add next last (without_all ns last) h left))
