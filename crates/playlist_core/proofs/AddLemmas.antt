-- What adding an item and taking one out does to a day.
use Rattle.std.proofs.Common.{◌≡◌, ℕ, zero, suc, ◌+◌, ◌<◌, ◌≤◌, List, [], ◌∷◌, Bool, true, false, not, ◌||◌, Option}
use Rattle.std.proofs.Common.{Some, None, Result, Ok, Err, refl, sym, ◌∙◌, ap, subst, arith}
use Rattle.std.specs.Prelude.{◌==◌, nat_lt, nat_le, insert, if◌then◌else◌}
use Rattle.std.specs.List.{list_all, position_or_len}
use Rattle.std.proofs.lemmas.Bool.{ltb-false}
use Rattle.std.proofs.lemmas.Bool.Decides.{nat_tests}
use Rattle.playlist_core.specs.declared.item.Item.{Item}
use Rattle.playlist_core.specs.declared.item.NewItem.{NewItem}
use Rattle.playlist_core.specs.Limits.{most_items}
use Rattle.playlist_core.specs.declared.source.Source.{Source}
use Rattle.playlist_core.specs.declared.source.Source.TheVariants.{Black, Bars, Own, Lent}
use Rattle.playlist_core.specs.declared.day.DayState.{DayState}
use Rattle.playlist_core.specs.declared.day.DayState.TheVariants.{NotThere, Open, Sealed}
use Rattle.channel_plan.specs.declared.plan.PlanRow.{PlanRow}
use Rattle.channel_plan.specs.declared.refusal.Code.{Code}
use Rattle.channel_plan.specs.declared.refusal.Code.TheVariants.{EmptyItem, PastDayEnd, MixLong}
use Rattle.channel_plan.specs.declared.refusal.Refusal.{Refusal}
use Rattle.channel_plan.specs.Refusal.{refused}
use Rattle.playlist_core.specs.Picture.{least, first_painted, paint}
use Rattle.playlist_core.specs.Order.{put}
use Rattle.playlist_core.specs.Source.{SourcesSeen}
use Rattle.playlist_core.specs.Item.{planned, is_item, is_kind, first_kept, numbered}
use Rattle.playlist_core.specs.Day.{Day, KeepsDayRules, FitState, AreNumbered, has_number, free_number, unless}
use Rattle.playlist_core.specs.Day.{if_open, item_for, source_fault, unless_taken, with_number, item_of, item_in}
use Rattle.playlist_core.specs.Day.{with_item, picture_in}
use Rattle.playlist_core.proofs.TakenLemmas.{taken_in, taken-first_painted}
use Rattle.playlist_core.proofs.PlaceLemmas.{at_place}
use Rattle.playlist_core.proofs.OrderLemmas.{ends_behind, apart_put, picture-put}

-- what a least frame that was found is
pub least_found : (f : ℕ → Bool) (p n q : ℕ) → least f p n ≡ Some q → (p ≤ q) × (q < p + n) × (f q ≡ true)
unfolding least
least_found f p zero q found = absurd (cc)
least_found f p (suc n) q found = by (f p) refl (least_found f (p + 1) n q)
  where
    by : (b : Bool) → f p ≡ b → (least f (p + 1) n ≡ Some q → (p + 1 ≤ q) × (q < p + 1 + n) × (f q ≡ true))
        → (p ≤ q) × (q < p + suc n) × (f q ≡ true)
    by true here rest =
        let first : Some p ≡ Some q = sym (ap (λ b. if b then Some p else least f (p + 1) n) here) ∙ found in
        let same : p ≡ q = cc in
        (omega arith, omega arith, sym (ap f same) ∙ here)
    by false here rest =
        let later = rest (sym (ap (λ b. if b then Some p else least f (p + 1) n) here) ∙ found) in
        (omega (arith, later.0), omega (arith, later.1), later.2)

module _ (a : Item → Bool) (x : Item) where
  pub has_number-put : (items : List Item) (n : ℕ) → has_number (put a x items) n ≡ (x.n == n || has_number items n)
  has_number-put [] n = refl
  has_number-put (i ∷ is) n = let rest = has_number-put is n in grind (arith, rest)

  numbered_put : (items : List Item) → AreNumbered items → 0 < x.n → x.n ≤ most_items → has_number items x.n ≡ false
      → AreNumbered (put a x items)
  numbered_put [] numbered some within new = (some, within, refl, tt)
  numbered_put (i ∷ is) numbered some within new =
      elim (a i) as (λ b. AreNumbered (if b then x ∷ i ∷ is else i ∷ put a x is)) [
        | true ↦ (some, within, new, numbered)
        | false ↦ (
          numbered.0,
          numbered.1,
          has_number-put is i.n
              ∙ grind (arith, nat_tests, new, numbered.2),
          numbered_put is numbered.3 some within
              (grind (arith, nat_tests, new)),
        )
      ]

-- what is true of an item that a day takes
pub record IsAccepted (day : Day) (new : NewItem) (item : Item) : Type 0 where
  pub within : new.pos + new.frames ≤ day.frames
  pub free : first_painted new.pos new.frames (picture_in day) ≡ None
  pub number : free_number day.items ≡ Some item.n
  pub is : item ≡ numbered item.n item.src new

pub passed : {X : Type 0} (b : Bool) (e : Refusal) (r : Result X Refusal) (x : X) → (if b then Err e else r) ≡ Ok x
    → (b ≡ false) × (r ≡ Ok x)
passed true e r x h = absurd (cc)
passed false e r x h = (refl, h)

no_fault : (o : Option Code) (r : Result Item Refusal) (item : Item) → unless o r ≡ Ok item → r ≡ Ok item
no_fault None r item h = h
no_fault (Some code) r item h = absurd (cc)

not_taken : (plan : PlanRow) (o : Option ℕ) (r : Result Item Refusal) (item : Item) → unless_taken plan o r ≡ Ok item
    → (o ≡ None) × (r ≡ Ok item)
not_taken plan None r item h = (refl, h)
not_taken plan (Some p) r item h = absurd (cc)

has_its_number : (o : Option ℕ) (source : Source) (new : NewItem) (item : Item) → with_number o source new ≡ Ok item
    → (o ≡ Some item.n) × (item ≡ numbered item.n item.src new)
has_its_number None source new item h = absurd (cc)
has_its_number (Some n) source new item h =
    let same : numbered n source new ≡ item = cc in
    (ap (λ (i : Item). Some i.n) same, sym same ∙ ap (λ (i : Item). numbered i.n i.src new) same)

of_source : (day : Day) (plan : PlanRow) (seen : SourcesSeen) (new : NewItem) (item : Item) (o : Option Source)
    → new.pos + new.frames ≤ day.frames → item_of day plan seen new o ≡ Ok item → IsAccepted day new item
of_source day plan seen new item None within h = absurd (cc)
of_source day plan seen new item (Some source) within h =
    let taken = first_painted new.pos new.frames (picture_in day) in
    let number = with_number (free_number day.items) source new in
    let shown =
    no_fault (source_fault plan day.number seen new source)
    (if nat_lt new.frames new.mix then Err (refused MixLong) else unless_taken plan taken number) item h in
    let short = passed (nat_lt new.frames new.mix) (refused MixLong) (unless_taken plan taken number) item shown in
    let free = not_taken plan taken number item short.1 in
    let its = has_its_number (free_number day.items) source new item free.1 in
    record { within = within; free = free.0; number = its.0; is = its.1 }

pub accepted : (day : Day) (plan : PlanRow) (seen : SourcesSeen) (new : NewItem) (item : Item)
    → item_in day plan seen new ≡ Ok item → IsAccepted day new item
unfolding item_in
accepted day plan seen new item h =
    let within =
    passed (nat_lt day.frames (new.pos + new.frames)) (refused PastDayEnd) (item_of day plan seen new new.src) item
    h in
    of_source day plan seen new item new.src (ltb-false day.frames (new.pos + new.frames) within.0) within.1

-- an item that is added: the day is open, and takes it
pub opened : {X : Type 0} (s : DayState) (r : Result X Refusal) (x : X) → if_open s r ≡ Ok x → (s ≡ Open) × (r ≡ Ok x)
opened NotThere r x h = absurd (cc)
opened Open r x h = (refl, h)
opened Sealed r x h = absurd (cc)

pub for_open : (day : Day) (plan : PlanRow) (seen : SourcesSeen) (new : NewItem) (item : Item)
    → item_for day plan seen new ≡ Ok item
    → (day.state ≡ Open) × (0 < new.frames) × (item_in day plan seen new ≡ Ok item)
unfolding item_for
for_open day plan seen new item h =
    let of_open =
    opened day.state (if new.frames == 0 then Err (refused EmptyItem) else item_in day plan seen new) item h in
    let some = passed (new.frames == 0) (refused EmptyItem) (item_in day plan seen new) item of_open.1 in
    (of_open.0, grind (arith, nat_tests, some.0), some.1)

fields_put : (a : Item → Bool) (x : Item) (items : List Item) → is_item x ≡ true → list_all is_item items ≡ true
    → list_all is_item (put a x items) ≡ true
fields_put a x [] one all = grind (arith, one)
fields_put a x (i ∷ is) one all =
    let rest : list_all is_item (put a x is) ≡ true = fields_put a x is one (grind (arith, all)) in
    elim (a i) as (λ b. list_all is_item (if b then x ∷ i ∷ is else i ∷ put a x is) ≡ true) [
      | true ↦ grind (arith, one, all)
      | false ↦ grind (arith, all, rest)
    ]

same_number : (n : ℕ) → (n == n) ≡ true
same_number n = grind (arith, nat_tests)

kept_is_kept : (source : Source) (first : ℕ)
    → (first_kept source first == first_kept source (first_kept source first)) ≡ true
kept_is_kept Black first = refl
kept_is_kept Bars first = refl
kept_is_kept (Own n) first = same_number first
kept_is_kept (Lent owner n) first = same_number first

field_of : (n : ℕ) (source : Source) (new : NewItem) → nat_le new.mix 999 ≡ true → is_kind new.kind ≡ true
    → is_item (numbered n source new) ≡ true
field_of n source new mix kind = let kept = kept_is_kept source new.src_first in grind (arith, mix, kind, kept)

module _ (day : Day) (rules : KeepsDayRules day) (is_open : day.state ≡ Open) (new : NewItem) (some : 0 < new.frames)
    (mix : new.mix ≤ 999) (kind : is_kind new.kind ≡ true)
    (item : Item) (it : IsAccepted day new item) where
  none_taken : taken_in planned new.pos new.frames day.items ≡ None
  none_taken = taken-first_painted planned new.pos new.frames some day.frames day.items rules.apart it.within ∙ it.free

  pub numbered_rules : KeepsDayRules (with_item (numbered item.n item.src new) day)
  numbered_rules =
      let found = least_found (λ k. not (has_number day.items k)) 1 most_items item.n it.number in
      record {
        some = rules.some;
        digits = rules.digits;
        apart =
            apart_put planned (numbered item.n item.src new) 0 day.frames day.items rules.apart (omega arith) some
            it.within none_taken;
        numbered =
            numbered_put (ends_behind planned new.pos) (numbered item.n item.src new) day.items rules.numbered
            (omega (arith, found.0)) (omega (arith, found.1)) (grind (arith, found.2));
        fields =
            fields_put (ends_behind planned new.pos) (numbered item.n item.src new) day.items
            (field_of item.n item.src new (grind (arith, nat_tests, mix)) kind) rules.fields;
        state =
            subst
            (λ state. FitState state day.frames
            (put (ends_behind planned new.pos) (numbered item.n item.src new) day.items)) (sym is_open) tt;
      }

  -- the day keeps the rules with it
  pub rules-with_item : KeepsDayRules (with_item item day)
  rules-with_item = subst (λ (i : Item). KeepsDayRules (with_item i day)) (sym it.is) numbered_rules

-- a day keeps the rules with the item that is added
pub rules-added : (day : Day) (plan : PlanRow) (seen : SourcesSeen) (new : NewItem) (item : Item) → KeepsDayRules day
    → new.mix ≤ 999 → is_kind new.kind ≡ true → item_for day plan seen new ≡ Ok item
    → KeepsDayRules (with_item item day)
rules-added day plan seen new item rules mix kind added =
    let made = for_open day plan seen new item added in
    rules-with_item day rules made.0 new made.1 mix kind item (accepted day plan seen new item made.2)

-- the items after an insert at the place that was found
pub inserted : (day : Day) (item : Item) (read : List Item) (place : ℕ) (items : List Item) → read ≡ day.items
    → place ≡ position_or_len (λ i. nat_lt item.pos (i.pos + i.frames)) read → items ≡ insert day.items place item
    → record day { items = items } ≡ with_item item day
inserted day item read place items same found put_in =
    let behind : Item → Bool = λ i. nat_lt item.pos (i.pos + i.frames) in
    ap (λ (is : List Item). let d : Day = record day { items = is } in d)
    (put_in ∙ ap (λ k. insert day.items k item) (found ∙ ap (position_or_len behind) same)
    ∙ at_place behind item day.items)

pub picture-with_item : (day : Day) (item : Item)
    → picture_in (with_item item day) ≡ paint (planned item) (picture_in day)
picture-with_item day item = picture-put planned item day.frames day.items
