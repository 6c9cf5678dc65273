-- A revision that takes back another gives back what the day showed.
use Rattle.std.proofs.Common.{◌≡◌, ◌⊎◌, ℕ, zero, suc, ◌+◌, ◌-◌, ◌<◌, ◌≤◌, List, [], ◌∷◌, Bool, true, false, not, ◌&&◌}
use Rattle.std.proofs.Common.{◌||◌, refl, sym, ◌∙◌, ap, ap₂, subst, inl, inr, arith}
use Rattle.std.specs.Prelude.{◌==◌, nat_lt, Option, Some, None, Result, Ok, Err, is_some, map, filter, if◌then◌else◌}
use Rattle.std.specs.List.{list_any}
use Rattle.std.specs.Option.{option_map}
use Rattle.std.proofs.lemmas.Bool.Decides.{nat_tests}
use Rattle.std.proofs.lemmas.Map.Views.{any-filter_same}
use Rattle.channel_plan.specs.declared.plan.PlanRow.{PlanRow}
use Rattle.channel_plan.specs.declared.refusal.Code.{Code}
use Rattle.channel_plan.specs.declared.refusal.Code.TheVariants.{PastDayEnd, MixLong}
use Rattle.channel_plan.specs.declared.refusal.Refusal.{Refusal}
use Rattle.channel_plan.specs.Refusal.{refused}
use Rattle.playlist_core.specs.declared.item.Item.{Item}
use Rattle.playlist_core.specs.declared.item.NewItem.{NewItem}
use Rattle.playlist_core.specs.declared.source.Source.{Source}
use Rattle.playlist_core.specs.Limits.{most_items}
use Rattle.playlist_core.specs.Source.{SourcesSeen, source_frame}
use Rattle.playlist_core.specs.Order.{put}
use Rattle.playlist_core.specs.Picture.{covers, is_painted, least, first_painted}
use Rattle.playlist_core.specs.Item.{Cell, planned, numbered}
use Rattle.playlist_core.specs.Day.{Day, has_number, picture_in, source_fault, unless, unless_taken, with_number}
use Rattle.playlist_core.specs.Day.{free_number, item_of, item_in}
use Rattle.playlist_core.proofs.PictureLemmas.{table, table_same, map-table, shown, picture_is, is_painted-picture}
use Rattle.playlist_core.proofs.PictureLemmas.{covers_from, covers_within}
use Rattle.playlist_core.proofs.OrderLemmas.{shown_put}
use Rattle.playlist_core.proofs.AddLemmas.{accepted, has_number-put, least_found}
use Rattle.channel_view_model.specs.declared.revision.ItemRefusal.{ItemRefusal}
use Rattle.channel_view_model.specs.declared.revision.SaidItem.{SaidItem}
use Rattle.channel_view_model.specs.Revision.{SaidRevision}
use Rattle.channel_view_model.specs.Revising.{day_without, new_said, day_with, and_then, at_place, in_turn, day_revised}
use Rattle.channel_view_laws.specs.Revisions.{Placed, TakesBack, is_out, items_left, items_out, placed, placed_new}
use Rattle.channel_view_laws.specs.Revisions.{placed_said, showing}
use Rattle.vault_core.proofs.AgainLemmas.{passes}
use Rattle.channel_view_laws.proofs.AgainReviseLemmas.{IsIn, all_in, all_out, one_in}

-- ---- what is shown at one frame

abbrev Look : Type 0
Look = Source × ℕ

-- the first of two that there is
abbrev or_else : Option Look → Option Look → Option Look
or_else None b = b
or_else (Some a) b = Some a

-- one of two isn't there
abbrev Beside : Option Look → Option Look → Type 0
Beside a b = (a ≡ None) ⊎ (b ≡ None)

alone : (a : Option Look) → a ≡ or_else a None
alone None = refl
alone (Some a) = refl

-- one in front of others, which are beside it, and more behind
moved_in : (m a n p r : Option Look) → n ≡ or_else a m → Beside a m → r ≡ or_else n p → Beside n p
    → (r ≡ or_else m (or_else a p)) × Beside m (or_else a p)
moved_in None None n p r is beside rest more = (rest ∙ ap (λ n. or_else n p) is, inl refl)
moved_in None (Some a) n p r is beside rest more = (rest ∙ ap (λ n. or_else n p) is, inl refl)
moved_in (Some m) None n p r is beside rest more = (rest ∙ ap (λ n. or_else n p) is, by more)
  where
    by : Beside n p → Beside (Some m) p
    by (inl none) = absurd (let both = sym is ∙ none in cc)
    by (inr none) = inr none
moved_in (Some m) (Some a) n p r is (inl none) rest more = absurd (cc)
moved_in (Some m) (Some a) n p r is (inr none) rest more = absurd (cc)

-- one of those that are out comes in front
out_first : (a l w : Option Look) → Beside l (or_else a w)
    → (Beside l w) × (or_else a (or_else l w) ≡ or_else l (or_else a w))
out_first None l w beside = (beside, refl)
out_first (Some a) None w beside = (inl refl, refl)
out_first (Some a) (Some l) w (inl none) = absurd (cc)
out_first (Some a) (Some l) w (inr none) = absurd (cc)

-- one of those that are left comes in front
left_first : (a l w : Option Look) → Beside (or_else a l) w
    → (Beside l w) × (or_else a (or_else l w) ≡ or_else (or_else a l) w)
left_first None l w beside = (beside, refl)
left_first (Some a) l w (inl none) = absurd (cc)
left_first (Some a) l w (inr none) = (inr none, refl)

-- what items show at a frame
abbrev sight : List Item → ℕ → Option Look
sight items q = option_map (λ cell. (cell.source, cell.frame)) (shown planned items q)

-- what is placed shows at a frame
abbrev at : Placed → ℕ → Option Look
at x q = if covers x.pos x.frames q then Some (x.source, source_frame x.source x.first (q - x.pos)) else None

abbrev sights : List Placed → ℕ → Option Look
sights [] q = None
sights (x ∷ xs) q = or_else (at x q) (sights xs q)

over_sight : (i : Item) (o : Option Cell) (q : ℕ)
    → option_map (λ cell. (cell.source, cell.frame))
    (if covers i.pos i.frames q then Some ((planned i).shows (q - i.pos)) else o)
    ≡ or_else (at (placed i) q) (option_map (λ cell. (cell.source, cell.frame)) o)
over_sight i o q = by (covers i.pos i.frames q)
  where
    by : (b : Bool)
        → option_map (λ cell. (cell.source, cell.frame)) (if b then Some ((planned i).shows (q - i.pos)) else o)
        ≡ or_else (if b then Some (i.src, source_frame i.src i.src_first (q - i.pos)) else None)
        (option_map (λ cell. (cell.source, cell.frame)) o)
    by true = refl
    by false = refl

sight_first : (i : Item) (items : List Item) (q : ℕ) → sight (i ∷ items) q ≡ or_else (at (placed i) q) (sight items q)
sight_first i items q = over_sight i (shown planned items q) q

sights_of : (items : List Item) (q : ℕ) → sight items q ≡ sights (map placed items) q
sights_of [] q = refl
sights_of (i ∷ items) q = sight_first i items q ∙ ap (or_else (at (placed i) q)) (sights_of items q)

sight_put : (i : Item) (items : List Item) (q : ℕ)
    → sight (put (λ j. nat_lt i.pos (j.pos + j.frames)) i items) q ≡ or_else (at (placed i) q) (sight items q)
sight_put i items q =
    ap (option_map (λ cell. (cell.source, cell.frame))) (shown_put planned i items q)
    ∙ over_sight i (shown planned items q) q

showing_is : (day : Day) → showing day ≡ table (sight day.items) 0 day.frames
showing_is day =
    ap (map (option_map (λ cell. (cell.source, cell.frame)))) (picture_is planned day.frames day.items)
    ∙ map-table (option_map (λ cell. (cell.source, cell.frame))) (shown planned day.items) 0 day.frames

-- ---- filters

abbrev Each : {X : Type 0} → (X → Type 0) → List X → Type 0
Each P [] = Unit {0}
Each P (x ∷ xs) = P x × Each P xs

filter_same : {X : Type 0} (f g : X → Bool) (xs : List X) → Each (λ x. f x ≡ g x) xs → filter f xs ≡ filter g xs
filter_same f g [] same = refl
filter_same f g (x ∷ xs) same =
    ap (λ b. if b then x ∷ filter f xs else filter f xs) same.0
    ∙ ap (λ (ys : List _). if g x then x ∷ ys else ys) (filter_same f g xs same.1)

all_kept : {X : Type 0} (f : X → Bool) (xs : List X) → Each (λ x. f x ≡ true) xs → filter f xs ≡ xs
all_kept f [] all = refl
all_kept f (x ∷ xs) all =
    ap (λ b. if b then x ∷ filter f xs else filter f xs) all.0 ∙ ap (λ ys. x ∷ ys) (all_kept f xs all.1)

weaker : {X : Type 0} (P Q : X → Type 0) → ((x : X) → P x → Q x) → (xs : List X) → Each P xs → Each Q xs
weaker P Q f [] all = tt
weaker P Q f (x ∷ xs) all = (f x all.0, weaker P Q f xs all.1)

same_number : (n : ℕ) → (n == n) ≡ true
same_number n = grind (arith, nat_tests)

turned : (m n : ℕ) → (m == n) ≡ (n == m)
turned m n = grind (arith, nat_tests)

-- each item's number is one of them
have_numbers : (items : List Item) → Each (λ i. has_number items i.n ≡ true) items
have_numbers [] = tt
have_numbers (i ∷ items) = (
  ap (λ b. b || has_number items i.n) (same_number i.n),
  weaker (λ j. has_number items j.n ≡ true) (λ j. (i.n == j.n || has_number items j.n) ≡ true)
      (λ j has. later (i.n == j.n) has) items (have_numbers items),
)
  where
    later : (b : Bool) {c : Bool} → c ≡ true → (b || c) ≡ true
    later true has = refl
    later false has = has

any_of_map : (f : ℕ → Bool) (items : List Item) → list_any f (map (λ i. i.n) items) ≡ list_any (λ i. f i.n) items
any_of_map f [] = refl
any_of_map f (i ∷ items) = ap (λ b. f i.n || b) (any_of_map f items)

any_same : (f g : Item → Bool) → ((i : Item) → f i ≡ g i) → (items : List Item) → list_any f items ≡ list_any g items
any_same f g same [] = refl
any_same f g same (i ∷ items) = ap₂ (λ b c. b || c) (same i) (any_same f g same items)

module _ (p : ℕ → Bool) (items : List Item) where
  -- the numbers of the items that don't pass
  abbrev came : List ℕ
  came = map (λ i. i.n) (filter (λ i. not (p i.n)) items)

  is_came : (m : ℕ) → has_number items m ≡ true → not (list_any (λ n. m == n) came) ≡ p m
  is_came m has =
      ap not (any_of_map (λ n. m == n) (filter (λ i. not (p i.n)) items)
      ∙ any-filter_same (λ i. m == i.n) (λ i. not (p i.n)) (not (p m)) its items
      ∙ ap (λ b. not (p m) && b) (any_same (λ i. m == i.n) (λ i. i.n == m) (λ i. turned m i.n) items ∙ has))
      ∙ twice (p m)
    where
      its : (k : Item) → (m == k.n) ≡ true → not (p k.n) ≡ not (p m)
      its k is = let same : m ≡ k.n = grind (arith, nat_tests, is) in ap (λ n. not (p n)) (sym same)

      twice : (b : Bool) → not (not b && true) ≡ b
      twice true = refl
      twice false = refl

  -- without these, those that pass are left
  left_over : filter (λ i. not (list_any (λ n. i.n == n) came)) items ≡ filter (λ i. p i.n) items
  left_over = filter_same (λ i. not (list_any (λ n. i.n == n) came)) (λ i. p i.n) items
      (weaker (λ i. has_number items i.n ≡ true) (λ i. not (list_any (λ n. i.n == n) came) ≡ p i.n)
      (λ i has. is_came i.n has) items (have_numbers items))

-- where none passes, each fails
none_passes : (f : ℕ → Bool) (p n q : ℕ) → least f p n ≡ None → p ≤ q → q < p + n → f q ≡ false
unfolding least
none_passes f p zero q none from within = absurd (omega arith)
none_passes f p (suc n) q none from within =
    by (f p) refl (λ none from. none_passes f (p + 1) n q none from (omega (arith, within)))
  where
    by : (b : Bool) → f p ≡ b → (least f (p + 1) n ≡ None → p + 1 ≤ q → f q ≡ false) → f q ≡ false
    by true here rest = absurd (let both = sym (ap (λ b. if b then Some p else least f (p + 1) n) here) ∙ none in cc)
    by false here rest = first (p == q) refl
      where
        first : (b : Bool) → (p == q) ≡ b → f q ≡ false
        first true e = let same : p ≡ q = grind (arith, nat_tests, e) in ap f (sym same) ∙ here
        first false e =
            rest (sym (ap (λ b. if b then Some p else least f (p + 1) n) here) ∙ none)
            (let differ = e in grind (arith, nat_tests, differ, from))

-- ---- items put in, one after another

module _ (plan : PlanRow) (seen : SourcesSeen) where
  -- an item has the source that was said
  its_source : (day : Day) (new : NewItem) (item : Item) → item_in day plan seen new ≡ Ok item → new.src ≡ Some item.src
  unfolding item_in
  its_source day new item made =
      of new.src
      (passes (nat_lt day.frames (new.pos + new.frames)) (refused PastDayEnd) (item_of day plan seen new new.src) item
      made).1
    where
      source_is : (source : Source) (p n : Option ℕ) → unless_taken plan p (with_number n source new) ≡ Ok item
          → Some source ≡ Some item.src
      source_is source (Some p) n h = absurd (cc)
      source_is source None None h = absurd (cc)
      source_is source None (Some n) h =
          let same : numbered n source new ≡ item = cc in ap (λ (i : Item). Some i.src) same

      under : (source : Source) (fault : Option Code)
          → unless fault
          (if nat_lt new.frames new.mix then Err (refused MixLong)
          else unless_taken plan (first_painted new.pos new.frames (picture_in day))
          (with_number (free_number day.items) source new)) ≡ Ok item → Some source ≡ Some item.src
      under source (Some code) h = absurd (cc)
      under source None h =
          source_is source (first_painted new.pos new.frames (picture_in day)) (free_number day.items)
          (passes (nat_lt new.frames new.mix) (refused MixLong) _ item h).1

      of : (o : Option Source) → item_of day plan seen new o ≡ Ok item → o ≡ Some item.src
      of None h = absurd (cc)
      of (Some source) h = under source (source_fault plan day.number seen new source) h

  module _ (said : SaidItem) (day next : Day) (it : IsIn plan seen said day next) where
    -- it lies where it is said
    lies : placed_said (new_said plan said) ≡ Some (placed it.item)
    lies =
        let made = (accepted day plan seen it.new it.item it.made).is in
        ap placed_said it.says ∙ ap (placed_new it.new) (its_source day it.new it.item it.made)
        ∙ ap
        (λ (i : Item). Some
        (let x : Placed = record { pos = i.pos; frames = i.frames; source = it.item.src; first = i.src_first } in x))
        (sym made)

    -- its number was free
    new_number : has_number day.items it.item.n ≡ false
    new_number =
        turn (has_number day.items it.item.n)
        (least_found (λ n. not (has_number day.items n)) 1 most_items it.item.n
        (accepted day plan seen it.new it.item it.made).number).2
      where
        turn : (b : Bool) → not b ≡ true → b ≡ false
        turn false h = refl
        turn true h = absurd (cc)

    -- and so were its frames
    new_frames : (q : ℕ) → q < day.frames → Beside (at (placed it.item) q) (sight day.items q)
    new_frames q lt = of (covers it.item.pos it.item.frames q) refl
      where
        unseen : (o : Option Cell) → is_some o ≡ false
            → option_map {U = Look} (λ cell. (cell.source, cell.frame)) o ≡ None
        unseen None h = refl
        unseen (Some cell) h = absurd (cc)

        of : (b : Bool) → covers it.item.pos it.item.frames q ≡ b → Beside (at (placed it.item) q) (sight day.items q)
        of false out =
            inl
            (ap
            (λ b. if b then Some (it.item.src, source_frame it.item.src it.item.src_first (q - it.item.pos)) else None)
            out)
        of true here =
            inr (unseen (shown planned day.items q) (sym (is_painted-picture planned day.frames day.items q lt) ∙ none))
          where
            its : it.item ≡ numbered it.item.n it.item.src it.new
            its = (accepted day plan seen it.new it.item it.made).is

            there : covers it.new.pos it.new.frames q ≡ true
            there =
                ap₂ (λ p n. covers p n q) (ap (λ (i : Item). i.pos) (sym its)) (ap (λ (i : Item). i.frames) (sym its))
                ∙ here

            none : is_painted (picture_in day) q ≡ false
            none =
                none_passes (is_painted (picture_in day)) it.new.pos it.new.frames q
                (accepted day plan seen it.new it.item it.made).free (covers_from it.new.pos it.new.frames q there)
                (covers_within it.new.pos it.new.frames q there)

  -- the items of numbers that were there before stay as they were
  stay : (p : ℕ → Bool) (k : ℕ) (said : List SaidItem) (day last : Day)
      → in_turn (day_with plan seen) k said day ≡ Ok last
      → ((n : ℕ) → p n ≡ true → has_number day.items n ≡ true)
      → filter (λ i. p i.n) last.items ≡ filter (λ i. p i.n) day.items
  stay p k [] day last made has = let same : day ≡ last = cc in ap (λ (d : Day). filter (λ i. p i.n) d.items) (sym same)
  stay p k (said ∷ more) day last made has = by (day_with plan seen said day) refl made (stay p (k + 1) more)
    where
      by : (r : Result Day Refusal) → day_with plan seen said day ≡ r
          → and_then (at_place k r) (in_turn (day_with plan seen) (k + 1) more) ≡ Ok last
          → ((day last : Day) → in_turn (day_with plan seen) (k + 1) more day ≡ Ok last
          → ((n : ℕ) → p n ≡ true → has_number day.items n ≡ true)
          → filter (λ i. p i.n) last.items ≡ filter (λ i. p i.n) day.items)
          → filter (λ i. p i.n) last.items ≡ filter (λ i. p i.n) day.items
      by (Err e) was h rest = absurd (cc)
      by (Ok next) was h rest =
          rest next last h has_more ∙ ap (λ (d : Day). filter (λ i. p i.n) d.items) it.is ∙ passed_over day.items
        where
          it : IsIn plan seen said day next
          it = one_in plan seen said day next was

          before : Item → Bool
          before i = nat_lt it.item.pos (i.pos + i.frames)

          has_more : (n : ℕ) → p n ≡ true → has_number next.items n ≡ true
          has_more n is =
              ap (λ (d : Day). has_number d.items n) it.is ∙ has_number-put before it.item day.items n
              ∙ or_right (it.item.n == n) (has n is)
            where
              or_right : (a : Bool) {b : Bool} → b ≡ true → (a || b) ≡ true
              or_right true h = refl
              or_right false h = h

          fails : p it.item.n ≡ false
          fails = of (p it.item.n) refl
            where
              of : (b : Bool) → p it.item.n ≡ b → b ≡ false
              of false is = refl
              of true is = absurd (let both = sym (has it.item.n is) ∙ new_number said day next it in cc)

          passed_over : (items : List Item) → filter (λ i. p i.n) (put before it.item items) ≡ filter (λ i. p i.n) items
          passed_over [] = ap (λ b. if b then it.item ∷ [] else []) fails
          passed_over (i ∷ rest) =
              elim (before i)
              as (λ v. filter (λ i. p i.n) (if v then it.item ∷ i ∷ rest else i ∷ put before it.item rest)
              ≡ filter (λ i. p i.n) (i ∷ rest)) [
                | true ↦ ap
                    (λ b. if b then it.item ∷ filter (λ i. p i.n) (i ∷ rest) else filter (λ i. p i.n) (i ∷ rest)) fails
                | false ↦ ap (λ more. if p i.n then i ∷ more else more) (passed_over rest)
              ]

  -- what is shown once all are put in: what was shown, and what they show beside it
  shown_in : (k : ℕ) (said : List SaidItem) (xs : List Placed) (day last : Day)
      → in_turn (day_with plan seen) k said day ≡ Ok last
      → map (λ s. placed_said (new_said plan s)) said ≡ map (λ x. Some x) xs → (q : ℕ) → q < day.frames
      → (sight last.items q ≡ or_else (sight day.items q) (sights xs q)) × Beside (sight day.items q) (sights xs q)
  shown_in k [] [] day last made says q lt =
      (let same : day ≡ last = cc in ap (λ (d : Day). sight d.items q) (sym same) ∙ alone (sight day.items q), inr refl)
  shown_in k [] (x ∷ xs) day last made says q lt = absurd (cc)
  shown_in k (said ∷ more) [] day last made says q lt = absurd (cc)
  shown_in k (said ∷ more) (x ∷ xs) day last made says q lt =
      by (day_with plan seen said day) refl made (shown_in (k + 1) more xs)
    where
      by : (r : Result Day Refusal) → day_with plan seen said day ≡ r
          → and_then (at_place k r) (in_turn (day_with plan seen) (k + 1) more) ≡ Ok last
          → ((day last : Day) → in_turn (day_with plan seen) (k + 1) more day ≡ Ok last
          → map (λ s. placed_said (new_said plan s)) more ≡ map (λ x. Some x) xs → (q : ℕ) → q < day.frames
          → (sight last.items q ≡ or_else (sight day.items q) (sights xs q)) × Beside (sight day.items q) (sights xs q))
          → (sight last.items q ≡ or_else (sight day.items q) (or_else (at x q) (sights xs q)))
          × Beside (sight day.items q) (or_else (at x q) (sights xs q))
      by (Err e) was h rest = absurd (cc)
      by (Ok next) was h rest =
          moved_in (sight day.items q) (at x q) (sight next.items q) (sights xs q) (sight last.items q) here beside
          later.0 later.1
        where
          it : IsIn plan seen said day next
          it = one_in plan seen said day next was

          its : placed it.item ≡ x
          its = let both : Some (placed it.item) ≡ Some x = sym (lies said day next it) ∙ first in cc
            where
              first : placed_said (new_said plan said) ≡ Some x
              first = cc

          here : sight next.items q ≡ or_else (at x q) (sight day.items q)
          here =
              ap (λ (d : Day). sight d.items q) it.is ∙ sight_put it.item day.items q
              ∙ ap (λ x. or_else (at x q) (sight day.items q)) its

          beside : Beside (at x q) (sight day.items q)
          beside = subst (λ x. Beside (at x q) (sight day.items q)) its (new_frames said day next it q lt)

          later : (sight last.items q ≡ or_else (sight next.items q) (sights xs q))
              × Beside (sight next.items q) (sights xs q)
          later =
              let others : map (λ s. placed_said (new_said plan s)) more ≡ map (λ x. Some x) xs = cc in
              rest next last h others q (subst (λ (d : Day). q < d.frames) (sym it.is) lt)

-- ---- a day, and its items in two parts

parts : (out : Item → Bool) (items : List Item) (q : ℕ)
    → Beside (sight (filter (λ i. not (out i)) items) q) (sight (filter out items) q)
    → sight items q ≡ or_else (sight (filter (λ i. not (out i)) items) q) (sight (filter out items) q)
parts out [] q beside = refl
parts out (i ∷ items) q beside = by (out i) refl (parts out items q)
  where
    left : List Item
    left = filter (λ i. not (out i)) items

    gone : List Item
    gone = filter out items

    by : (b : Bool) → out i ≡ b
        → (Beside (sight left q) (sight gone q) → sight items q ≡ or_else (sight left q) (sight gone q))
        → sight (i ∷ items) q
        ≡ or_else (sight (filter (λ i. not (out i)) (i ∷ items)) q) (sight (filter out (i ∷ items)) q)
    by true is rest =
        sight_first i items q ∙ ap (or_else (at (placed i) q)) (rest its.0) ∙ its.1
        ∙ sym (ap₂ or_else lefts (gones ∙ sight_first i gone q))
      where
        lefts : sight (filter (λ i. not (out i)) (i ∷ items)) q ≡ sight left q
        lefts = ap (λ b. sight (if not b then i ∷ left else left) q) is

        gones : sight (filter out (i ∷ items)) q ≡ sight (i ∷ gone) q
        gones = ap (λ b. sight (if b then i ∷ gone else gone) q) is

        its : (Beside (sight left q) (sight gone q))
            × (or_else (at (placed i) q) (or_else (sight left q) (sight gone q))
            ≡ or_else (sight left q) (or_else (at (placed i) q) (sight gone q)))
        its =
            out_first (at (placed i) q) (sight left q) (sight gone q)
            (subst (λ a. Beside a (or_else (at (placed i) q) (sight gone q))) lefts
            (subst (λ b. Beside (sight (filter (λ i. not (out i)) (i ∷ items)) q) b) (gones ∙ sight_first i gone q)
            beside))
    by false is rest =
        sight_first i items q ∙ ap (or_else (at (placed i) q)) (rest its.0) ∙ its.1
        ∙ sym (ap₂ or_else (lefts ∙ sight_first i left q) gones)
      where
        lefts : sight (filter (λ i. not (out i)) (i ∷ items)) q ≡ sight (i ∷ left) q
        lefts = ap (λ b. sight (if not b then i ∷ left else left) q) is

        gones : sight (filter out (i ∷ items)) q ≡ sight gone q
        gones = ap (λ b. sight (if b then i ∷ gone else gone) q) is

        its : (Beside (sight left q) (sight gone q))
            × (or_else (at (placed i) q) (or_else (sight left q) (sight gone q))
            ≡ or_else (or_else (at (placed i) q) (sight left q)) (sight gone q))
        its =
            left_first (at (placed i) q) (sight left q) (sight gone q)
            (subst (λ a. Beside a (sight gone q)) (lefts ∙ sight_first i left q)
            (subst (λ b. Beside (sight (filter (λ i. not (out i)) (i ∷ items)) q) b) gones beside))

-- ---- a revision, and the one that takes it back

-- what is taken out, and what is put in then
record AreDone (plan : PlanRow) (seen : SourcesSeen) (said : SaidRevision) (day after : Day) : Type 0 where
  between : Day
  takes_out : in_turn day_without 1 said.remove day ≡ Ok between
  puts_in : in_turn (day_with plan seen) 1 said.add between ≡ Ok after

both_done : (plan : PlanRow) (seen : SourcesSeen) (said : SaidRevision) (day after : Day)
    → day_revised plan seen said day ≡ Ok after → AreDone plan seen said day after
unfolding day_revised
both_done plan seen said day after made = by (in_turn day_without 1 said.remove day) refl made
  where
    by : (r : Result Day ItemRefusal) → in_turn day_without 1 said.remove day ≡ r
        → and_then r (in_turn (day_with plan seen) 1 said.add) ≡ Ok after → AreDone plan seen said day after
    by (Err e) is h = absurd (cc)
    by (Ok between) is h = record { between = between; takes_out = is; puts_in = h }

map_twice : {X Y Z : Type 0} (f : Y → Z) (g : X → Y) (xs : List X) → map f (map g xs) ≡ map (λ x. f (g x)) xs
map_twice f g [] = refl
map_twice f g (x ∷ xs) = ap (λ ys. f (g x) ∷ ys) (map_twice f g xs)

pub taken_back : (plan : PlanRow) (seen later : SourcesSeen) (said back : SaidRevision) (day after again : Day)
    → day_revised plan seen said day ≡ Ok after → TakesBack plan said day after back
    → day_revised plan later back after ≡ Ok again → showing again ≡ showing day
taken_back plan seen later said back day after again made takes made_back =
    showing_is again ∙ ap (table (sight again.items) 0) frames
    ∙ table_same (sight again.items) (sight day.items) 0 day.frames (λ q le lt. at_frame q (omega (arith, lt)))
    ∙ sym (showing_is day)
  where
    one : AreDone plan seen said day after
    one = both_done plan seen said day after made

    other : AreDone plan later back after again
    other = both_done plan later back after again made_back

    left : List Item
    left = items_left said day

    first_left : one.between.items ≡ left
    first_left = ap (λ (d : Day). d.items) (all_out said.remove 1 day one.between one.takes_out)

    frames_between : one.between.frames ≡ day.frames
    frames_between = ap (λ (d : Day). d.frames) (all_out said.remove 1 day one.between one.takes_out)

    frames_after : after.frames ≡ day.frames
    frames_after = (all_in plan seen 1 said.add one.between after one.puts_in).frames ∙ frames_between

    frames_then : other.between.frames ≡ day.frames
    frames_then = ap (λ (d : Day). d.frames) (all_out back.remove 1 after other.between other.takes_out) ∙ frames_after

    frames : again.frames ≡ day.frames
    frames = (all_in plan later 1 back.add other.between again other.puts_in).frames ∙ frames_then

    stayed : filter (λ i. has_number left i.n) after.items ≡ left
    stayed =
        stay plan seen (has_number left) 1 said.add one.between after one.puts_in
        (λ n has. ap (λ (items : List Item). has_number items n) first_left ∙ has)
        ∙ ap (filter (λ i. has_number left i.n)) first_left
        ∙ all_kept (λ i. has_number left i.n) left (have_numbers left)

    then_left : other.between.items ≡ left
    then_left =
        ap (λ (d : Day). d.items) (all_out back.remove 1 after other.between other.takes_out)
        ∙ ap (λ (numbers : List ℕ). filter (λ i. not (list_any (λ n. i.n == n) numbers)) after.items) takes.remove
        ∙ left_over (has_number left) after.items ∙ stayed

    at_frame : (q : ℕ) → q < day.frames → sight again.items q ≡ sight day.items q
    at_frame q lt =
        its.0 ∙ ap₂ or_else same_left (sym gone)
        ∙ sym
        (parts (is_out said) day.items q
        (subst (λ a. Beside a (sight (items_out said day) q)) same_left
        (subst (λ b. Beside (sight other.between.items q) b) (sym gone) its.1)))
      where
        xs : List Placed
        xs = map placed (items_out said day)

        its : (sight again.items q ≡ or_else (sight other.between.items q) (sights xs q))
            × Beside (sight other.between.items q) (sights xs q)
        its =
            shown_in plan later 1 back.add xs other.between again other.puts_in
            (takes.add ∙ sym (map_twice (λ x. Some x) placed (items_out said day))) q
            (subst (λ f. q < f) (sym frames_then) lt)

        same_left : sight other.between.items q ≡ sight left q
        same_left = ap (λ (items : List Item). sight items q) then_left

        gone : sight (items_out said day) q ≡ sights xs q
        gone = sights_of (items_out said day) q
