-- A day that is being filled: its marks, and the item that it takes.
use Rattle.std.proofs.Common.{◌≡◌, ℕ, zero, suc, ◌+◌, ◌-◌, ◌<◌, ◌≤◌, List, length, get_or, set, Bool, true, false, not}
use Rattle.std.proofs.Common.{◌||◌, Option, Some, None, Result, Ok, Err, refl, sym, ◌∙◌, ap, ⊎_elim, arith}
use Rattle.std.proofs.Common.{get_or-set_same, get_or-set_other}
use Rattle.std.specs.Prelude.{◌==◌, nat_lt, slice_index_or, if◌then◌else◌}
use Rattle.std.proofs.lemmas.Bool.{cases_eq, cases_lt}
use Rattle.std.proofs.lemmas.Bool.Decides.{nat_tests}
use Rattle.channel_plan.specs.declared.plan.PlanRow.{PlanRow}
use Rattle.channel_plan.specs.declared.refusal.Code.{Code}
use Rattle.channel_plan.specs.declared.refusal.Code.TheVariants.{PastDayEnd, MixLong}
use Rattle.channel_plan.specs.declared.refusal.Refusal.{Refusal}
use Rattle.channel_plan.specs.Refusal.{refused}
use Rattle.playlist_core.specs.declared.item.Item.{Item}
use Rattle.playlist_core.specs.declared.item.NewItem.{NewItem}
use Rattle.playlist_core.specs.Limits.{most_items}
use Rattle.playlist_core.specs.declared.source.Source.{Source}
use Rattle.playlist_core.specs.Picture.{least, first_painted}
use Rattle.playlist_core.specs.Order.{put}
use Rattle.playlist_core.specs.Source.{SourcesSeen}
use Rattle.playlist_core.specs.Day.{Day, has_number, free_number, item_in, item_of, picture_in, source_fault, unless}
use Rattle.playlist_core.specs.Day.{unless_taken, with_number}
use Rattle.playlist_core.specs.Filling.{AreMarked, fitting_of, fitting_source}
use Rattle.playlist_core.proofs.PictureLemmas.{least_same, least_skip}
use Rattle.playlist_core.proofs.AddLemmas.{has_number-put, least_found}

-- what the day makes of an item that fits
abbrev pub placed_in : Day → PlanRow → NewItem → Result Source Refusal → Result Item Refusal
placed_in day plan new (Ok source) =
    unless_taken plan (first_painted new.pos new.frames (picture_in day))
    (with_number (free_number day.items) source new)
placed_in day plan new (Err e) = Err e

module _ (day : Day) (plan : PlanRow) (seen : SourcesSeen) (new : NewItem) where
  abbrev taken : Option ℕ
  taken = first_painted new.pos new.frames (picture_in day)

  short : (source : Source) (b : Bool)
      → (if b then Err (refused MixLong) else unless_taken plan taken (with_number (free_number day.items) source new))
      ≡ placed_in day plan new (if b then Err (refused MixLong) else Ok source)
  short source true = refl
  short source false = refl

  shown : (source : Source) (o : Option Code)
      → unless o
      (if nat_lt new.frames new.mix then Err (refused MixLong)
      else unless_taken plan taken (with_number (free_number day.items) source new))
      ≡ placed_in day plan new (unless o (if nat_lt new.frames new.mix then Err (refused MixLong) else Ok source))
  shown source (Some code) = refl
  shown source None = short source (nat_lt new.frames new.mix)

  of_source : (o : Option Source)
      → item_of day plan seen new o ≡ placed_in day plan new (fitting_of plan day.number seen new o)
  of_source None = refl
  of_source (Some source) = shown source (source_fault plan day.number seen new source)

  within : (b : Bool)
      → (if b then Err (refused PastDayEnd) else item_of day plan seen new new.src)
      ≡ placed_in day plan new (if b then Err (refused PastDayEnd) else fitting_of plan day.number seen new new.src)
  within true = refl
  within false = of_source new.src

  pub item_in-placed : item_in day plan seen new
      ≡ placed_in day plan new (fitting_source day.number day.frames plan seen new)
  unfolding item_in fitting_source
  item_in-placed = within (nat_lt day.frames (new.pos + new.frames))

  -- an item that fits, with what is found where it would be
  pub item_in-found : (source : Source) (found : Option ℕ) → Ok source ≡ fitting_source day.number day.frames plan seen new
      → found ≡ taken
      → unless_taken plan found (with_number (free_number day.items) source new) ≡ item_in day plan seen new
  item_in-found source found fits is_taken =
      ap (λ t. unless_taken plan t (with_number (free_number day.items) source new)) is_taken
      ∙ ap (placed_in day plan new) fits
      ∙ sym item_in-placed

-- the least number that isn't marked is the least that no item has
pub free_marked : (marks : List Bool) (items : List Item) → AreMarked marks items
    → least (λ n. not (slice_index_or marks n false)) 1 most_items ≡ free_number items
free_marked marks items marked =
    least_same (λ n. not (slice_index_or marks n false)) (λ n. not (has_number items n)) 1 most_items
    (λ q le lt. ap not (marked q (omega arith)))

-- with the mark of an item that is put in
pub marked_put : (a : Item → Bool) (x : Item) (marks more : List Bool) (items : List Item) → AreMarked marks items
    → ((n : ℕ) → n ≤ most_items → slice_index_or more n false ≡ (x.n == n || slice_index_or marks n false))
    → AreMarked more (put a x items)
marked_put a x marks more items marked taken n le =
    taken n le ∙ ap (λ b. x.n == n || b) (marked n le) ∙ sym (has_number-put a x items n)

-- what comes before a least number that was found fails
least_before : (f : ℕ → Bool) (p n q : ℕ) → least f p n ≡ Some q → (k : ℕ) → p ≤ k → k < q → f k ≡ false
unfolding least
least_before f p zero q found k from lt = absurd (cc)
least_before f p (suc n) q found k from lt = by (f p) refl (least_before f (p + 1) n q)
  where
    by : (b : Bool) → f p ≡ b → (least f (p + 1) n ≡ Some q → (k : ℕ) → p + 1 ≤ k → k < q → f k ≡ false) → f k ≡ false
    by true here rest =
        let first : Some p ≡ Some q = sym (ap (λ b. if b then Some p else least f (p + 1) n) here) ∙ found in
        let same : p ≡ q = cc in
        absurd (omega arith)
    by false here rest =
        ⊎_elim
        (λ later. rest (sym (ap (λ b. if b then Some p else least f (p + 1) n) here) ∙ found) k (omega arith) lt)
        (λ le. let same : k ≡ p = omega arith in ap f same ∙ here)
        (cases_lt p k)

module _ (marks : List Bool) (n : ℕ) (within : n < length marks) where
  -- one number more is marked
  pub marks_set : (k : ℕ) → slice_index_or (set marks n true) k false ≡ (n == k || slice_index_or marks k false)
  marks_set k =
      ⊎_elim
      (λ same. let here : get_or (set marks n true) n false ≡ true = get_or-set_same marks n true false within in
      ap (λ j. get_or (set marks n true) j false) (sym same) ∙ here ∙ sym (grind (arith, nat_tests, same)))
      (λ other. get_or-set_other marks n k true false (λ e. other (sym e)) ∙ sym (grind (arith, nat_tests, other)))
      (cases_eq n k)

  -- the least that isn't marked then comes later
  pub free_next : (f : ℕ → Bool) (all : ℕ) → ((k : ℕ) → f k ≡ not (slice_index_or (set marks n true) k false))
      → least (λ k. not (slice_index_or marks k false)) 1 all ≡ Some n
      → least f (n + 1) (all + 1 - (n + 1)) ≡ least f 1 all
  free_next f all is found =
      let here = least_found (λ k. not (slice_index_or marks k false)) 1 all n found in
      let parts : n + (all + 1 - (n + 1)) ≡ all = omega (arith, here.1) in
      let from : 1 + n ≡ n + 1 = omega arith in
      ap (λ k. least f k (all + 1 - (n + 1))) (sym from)
      ∙ sym (least_skip f 1 n (all + 1 - (n + 1)) (λ q le lt. is q ∙ ap not (marks_set q) ∙ passed q le lt))
      ∙ ap (least f 1) parts
    where
      passed : (q : ℕ) → 1 ≤ q → q < 1 + n → not (n == q || slice_index_or marks q false) ≡ false
      passed q le lt =
          ⊎_elim
          (λ before. let out = least_before (λ k. not (slice_index_or marks k false)) 1 all n found q le before in
          grind (arith, nat_tests, out))
          (λ at. let same : n ≡ q = omega arith in grind (arith, nat_tests, same))
          (cases_lt q n)
