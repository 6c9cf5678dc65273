-- Items among others, by all their fields.
use Rattle.std.proofs.Common.{◌≡◌, ℕ, Bool, true, false, cond, not, ◌&&◌, List, [], ◌∷◌, filter, refl, sym, ap, ap₂}
use Rattle.std.proofs.Common.{◌∙◌, subst, arith, true≢false, Less, is_eq, IsPermutation}
use Rattle.std.specs.Prelude.{◌==◌, ◌||◌}
use Rattle.std.specs.List.{AllByRecursion}
use Rattle.std.proofs.lemmas.Bool.Decides.{nat_tests}
use Rattle.std.proofs.lemmas.List.Sorted.{IsPermutation-sym, list_any-IsPermutation}
use Rattle.sqlite_trees.specs.Tree.{IsAscending}
use Rattle.sqlite_keyed.specs.Lists.{sort_by}
use Rattle.sqlite_keyed.proofs.SortLemmas.{IsPermutation-sort_by}
use Rattle.station_tables_records.proofs.SortLemmas.{is_sorted-sort_by}
use Rattle.station_tables_records.proofs.KeyLemmas.{rise_from_sorted}
use Rattle.station_tables_records.proofs.WriteLemmas.{ascending_permutes, apart_back}
use Rattle.playlist_core.specs.declared.item.Item.{Item}
use Rattle.playlist_core.specs.Day.{has_number}
use Rattle.playlist_core.specs.Difference.{same_item, is_among, not_among}
use Rattle.playlist_core.proofs.SameLemmas.{nat_is, nat_itself, first, second, same_is, same_itself, when}
use Rattle.station_tables_records.specs.MadeDays.{Rise, position_cmp}
use Rattle.station_tables_records.proofs.MadeLemmas.{position_total}

-- ---- who is among the items that a filter keeps

kept_among : (p : Item → Bool) (is : List Item) (x : Item) → is_among (filter p is) x ≡ (is_among is x && p x)
kept_among p [] x = refl
kept_among p (i ∷ is) x = when (same_item i x)
    (λ same. let one : i ≡ x = same_is i x same in by (p i) refl (ap p (sym one)) same (kept_among p is x))
    (λ other. by_other (p i) other (kept_among p is x))
  where
    by : (b : Bool) → p i ≡ b → p x ≡ p i → same_item i x ≡ true → is_among (filter p is) x ≡ (is_among is x && p x)
        → is_among (cond b (i ∷ filter p is) (filter p is)) x ≡ ((same_item i x || is_among is x) && p x)
    by true e px same rest = grind (arith, same, px, e)
    by false e px same rest = let no_more : p x ≡ false = px ∙ e in grind (arith, same, rest, no_more)

    by_other : (b : Bool) → same_item i x ≡ false → is_among (filter p is) x ≡ (is_among is x && p x)
        → is_among (cond b (i ∷ filter p is) (filter p is)) x ≡ ((same_item i x || is_among is x) && p x)
    by_other true other rest = grind (arith, other, rest)
    by_other false other rest = grind (arith, other, rest)

-- ---- items whose numbers differ

abbrev pub HaveOwnNumbers : List Item → Type 0
HaveOwnNumbers [] = Unit {0}
HaveOwnNumbers (i ∷ is) = (has_number is i.n ≡ false) × HaveOwnNumbers is

pub among_has : (is : List Item) (x : Item) → is_among is x ≡ true → has_number is x.n ≡ true
among_has [] x there = absurd (true≢false (sym there))
among_has (i ∷ is) x there = when (same_item i x)
    (λ same. let one : (i.n == x.n) ≡ true = first _ _ same in grind (arith, one))
    (λ other. let rest : has_number is x.n ≡ true = among_has is x (grind (arith, there, other)) in
    by (i.n == x.n) rest)
  where
    by : (b : Bool) → has_number is x.n ≡ true → (b || has_number is x.n) ≡ true
    by true rest = refl
    by false rest = rest

-- of items with numbers of their own, the one with this number is kept or not
number_kept : (p : Item → Bool) (is : List Item) (x : Item) → HaveOwnNumbers is → is_among is x ≡ true
    → has_number (filter p is) x.n ≡ p x
number_kept p [] x own there = absurd (true≢false (sym there))
number_kept p (i ∷ is) x own there = when (same_item i x)
    (λ same. let one : i ≡ x = same_is i x same in
    let none : has_number (filter p is) x.n ≡ false =
    fewer is x.n (ap (has_number is) (ap (λ (j : Item). j.n) (sym one)) ∙ own.0) in
    here (p i) (first _ _ same) none ∙ ap p one)
    (λ other. let rest : is_among is x ≡ true = grind (arith, there, other) in
    let apart : (i.n == x.n) ≡ false = unlike (i.n == x.n) refl (among_has is x rest) in
    later (p i) apart ∙ number_kept p is x own.1 rest)
  where
    fewer : (js : List Item) (n : ℕ) → has_number js n ≡ false → has_number (filter p js) n ≡ false
    fewer [] n none = none
    fewer (j ∷ js) n none = go (p j) (fewer js n (grind (arith, none)))
      where
        go : (b : Bool) → has_number (filter p js) n ≡ false
            → has_number (cond b (j ∷ filter p js) (filter p js)) n ≡ false
        go true rest = grind (arith, none, rest)
        go false rest = rest

    here : (b : Bool) → (i.n == x.n) ≡ true → has_number (filter p is) x.n ≡ false
        → has_number (cond b (i ∷ filter p is) (filter p is)) x.n ≡ b
    here true same none = grind (arith, same)
    here false same none = none

    later : (b : Bool) → (i.n == x.n) ≡ false
        → has_number (cond b (i ∷ filter p is) (filter p is)) x.n ≡ has_number (filter p is) x.n
    later true apart = grind (arith, apart)
    later false apart = refl

    unlike : (b : Bool) → (i.n == x.n) ≡ b → has_number is x.n ≡ true → b ≡ false
    unlike false e has = refl
    unlike true e has = absurd (true≢false (sym has ∙ ap (has_number is) (sym (nat_is i.n x.n e)) ∙ own.0))

-- two of one number are one
pub one_number : (is : List Item) → HaveOwnNumbers is → (a b : Item) → is_among is a ≡ true → is_among is b ≡ true
    → a.n ≡ b.n → a ≡ b
one_number [] own a b at bt same = absurd (true≢false (sym at))
one_number (i ∷ is) own a b at bt same = when (same_item i a)
    (λ ia. when (same_item i b)
    (λ ib. sym (same_is i a ia) ∙ same_is i b ib)
    (λ nb. absurd
    (true≢false
    (sym (among_has is b (grind (arith, bt, nb)))
    ∙ ap (has_number is) (sym same ∙ ap (λ (j : Item). j.n) (sym (same_is i a ia))) ∙ own.0))))
    (λ na. when (same_item i b)
    (λ ib. absurd
    (true≢false
    (sym (among_has is a (grind (arith, at, na)))
    ∙ ap (has_number is) (same ∙ ap (λ (j : Item). j.n) (sym (same_is i b ib))) ∙ own.0)))
    (λ nb. one_number is own.1 a b (grind (arith, at, na)) (grind (arith, bt, nb)) same))

fewer_numbers : (p : Item → Bool) (js : List Item) (n : ℕ) → has_number js n ≡ false
    → has_number (filter p js) n ≡ false
fewer_numbers p [] n none = none
fewer_numbers p (j ∷ js) n none = go (p j) (fewer_numbers p js n (grind (arith, none)))
  where
    go : (b : Bool) → has_number (filter p js) n ≡ false → has_number (cond b (j ∷ filter p js) (filter p js)) n ≡ false
    go true rest = grind (arith, none, rest)
    go false rest = rest

pub own_kept : (p : Item → Bool) (is : List Item) → HaveOwnNumbers is → HaveOwnNumbers (filter p is)
own_kept p [] own = tt
own_kept p (i ∷ is) own =
    elim (p i) as (λ b. HaveOwnNumbers (cond b (i ∷ filter p is) (filter p is)))
    [ true ↦ (fewer_numbers p is i.n own.0, own_kept p is own.1) | false ↦ own_kept p is own.1 ]

-- a number stays where each that has it is kept
number_stays : (p : Item → Bool) (is : List Item) (n : ℕ) → has_number is n ≡ true
    → ((i : Item) → is_among is i ≡ true → i.n ≡ n → p i ≡ true) → has_number (filter p is) n ≡ true
number_stays p [] n has all = has
number_stays p (i ∷ is) n has all = when (i.n == n)
    (λ here. let kept : p i ≡ true = all i (let mine = same_itself i in grind (arith, mine)) (nat_is i.n n here) in
    ap (λ b. has_number (cond b (i ∷ filter p is) (filter p is)) n) kept
    ∙ ap (λ b. b || has_number (filter p is) n) here)
    (λ other. later (p i)
    (number_stays p is n (grind (arith, has, other)) (λ j there. all j (more (same_item i j) there))))
  where
    more : {c : Bool} (b : Bool) → c ≡ true → (b || c) ≡ true
    more true h = refl
    more false h = h

    later : (b : Bool) → has_number (filter p is) n ≡ true
        → has_number (cond b (i ∷ filter p is) (filter p is)) n ≡ true
    later true rest = more (i.n == n) rest
    later false rest = rest

-- an item to be added has a number that no kept one has
pub added_is_new : (old new : List Item) → HaveOwnNumbers new → (a : Item) → is_among (not_among old new) a ≡ true
    → (has_number old a.n && not (has_number (not_among new old) a.n)) ≡ false
added_is_new old new own a added = when (has_number old a.n)
    (λ has. none (has_number old a.n) (number_stays (λ i. not (is_among new i)) old a.n has gone))
    (λ no_number. ap (λ b. b && not (has_number (not_among new old) a.n)) no_number)
  where
    none : (b : Bool) {c : Bool} → c ≡ true → (b && not c) ≡ false
    none true h = ap not h
    none false h = refl

    both : (is_among new a && not (is_among old a)) ≡ true
    both = sym (kept_among (λ i. not (is_among old i)) new a) ∙ added

    gone : (i : Item) → is_among old i ≡ true → i.n ≡ a.n → not (is_among new i) ≡ true
    gone i there same = when (is_among new i)
        (λ in_new. let one : i ≡ a = one_number new own i a in_new (first _ _ both) same in
        absurd (true≢false (sym (second (is_among new a) _ both) ∙ ap not (ap (is_among old) (sym one) ∙ there))))
        (λ away. ap not away)

-- ---- what is left of old items, and what is added to them, are the new ones

joined : (o w : Bool) → (g : Bool) → (o ≡ true → g ≡ not w) → ((w && not o) || (o && not g)) ≡ w
joined false true g of_gone = refl
joined false false g of_gone = refl
joined true true g of_gone = ap (λ b. false || not b) (of_gone refl)
joined true false g of_gone = ap (λ b. false || not b) (of_gone refl)

pub difference_is : (old new : List Item) (x : Item) → HaveOwnNumbers old
    → (is_among (not_among old new) x || (is_among old x && not (has_number (not_among new old) x.n))) ≡ is_among new x
difference_is old new x own =
    ap (λ b. b || (is_among old x && not (has_number (not_among new old) x.n)))
    (kept_among (λ i. not (is_among old i)) new x)
    ∙ joined (is_among old x) (is_among new x) (has_number (not_among new old) x.n)
    (λ there. number_kept (λ i. not (is_among new i)) old x own there)

-- ---- items in the order of their positions

before_none : (x : Item) (is : List Item) → AllByRecursion (λ i. position_cmp x i ≡ Less) is → is_among is x ≡ false
before_none x [] below = refl
before_none x (i ∷ is) below = when (same_item i x)
    (λ same. absurd (past x (ap (position_cmp x) (sym (same_is i x same)) ∙ below.0)))
    (λ other. let rest = before_none x is below.1 in grind (arith, other, rest))
  where
    past : (x : Item) → position_cmp x x ≡ Less → ⊥
    past x less = grind (arith, nat_tests, less)

below_among : (x : Item) (is : List Item) → AllByRecursion (λ i. position_cmp x i ≡ Less) is → (y : Item)
    → is_among is y ≡ true → position_cmp x y ≡ Less
below_among x [] below y there = absurd (true≢false (sym there))
below_among x (i ∷ is) below y there = when (same_item i y)
    (λ same. ap (position_cmp x) (sym (same_is i y same)) ∙ below.0)
    (λ other. below_among x is below.1 y (grind (arith, there, other)))

turned : (a b : Item) → position_cmp a b ≡ Less → position_cmp b a ≡ Less → ⊥
turned a b ab ba = grind (arith, nat_tests, ab, ba)

heads : (x y : Item) (xs ys : List Item) → Rise position_cmp (x ∷ xs) → Rise position_cmp (y ∷ ys)
    → ((z : Item) → is_among (x ∷ xs) z ≡ is_among (y ∷ ys) z) → x ≡ y
heads x y xs ys xup yup alike = when (same_item y x)
    (λ same. sym (same_is y x same))
    (λ other.
    let there : is_among ys x ≡ true = let all = alike x in let mine = same_itself x in
    grind (arith, all, mine, other) in
    let less : position_cmp y x ≡ Less = below_among y ys yup.0 x there in
    when (same_item x y)
    (λ same. same_is x y same)
    (λ unlike.
    let back : is_among xs y ≡ true = let all = alike y in let mine = same_itself y in
    grind (arith, all, mine, unlike) in
    absurd (turned y x less (below_among x xs xup.0 y back))))

pub same_lists : (xs ys : List Item) → Rise position_cmp xs → Rise position_cmp ys
    → ((z : Item) → is_among xs z ≡ is_among ys z) → xs ≡ ys
same_lists [] [] xup yup alike = refl
same_lists [] (y ∷ ys) xup yup alike =
    absurd (true≢false (sym (let all = alike y in let mine = same_itself y in grind (arith, all, mine))))
same_lists (x ∷ xs) [] xup yup alike =
    absurd (true≢false (let all = alike x in let mine = same_itself x in grind (arith, all, mine)))
same_lists (x ∷ xs) (y ∷ ys) xup yup alike =
    let one : x ≡ y = heads x y xs ys xup yup alike in
    ap₂ (λ z zs. z ∷ zs) one (same_lists xs ys xup.1 yup.1 (λ z. when (same_item x z)
    (λ same. let it : x ≡ z = same_is x z same in
    subst (λ v. is_among xs v ≡ is_among ys v) it
    (before_none x xs xup.0
    ∙ sym (before_none x ys (subst (λ v. AllByRecursion (λ i. position_cmp v i ≡ Less) ys) (sym one) yup.0))))
    (λ other. let all = alike z in let unlike : same_item y z ≡ false = ap (λ v. same_item v z) (sym one) ∙ other in
    grind (arith, all, other, unlike))))

-- two items of one position are one
one_place : (is : List Item) → Rise position_cmp is → (a b : Item) → is_among is a ≡ true → is_among is b ≡ true
    → is_eq (position_cmp a b) ≡ true → a ≡ b
one_place [] up a b at bt tie = absurd (true≢false (sym at))
one_place (i ∷ is) up a b at bt tie = when (same_item i a)
    (λ ia. when (same_item i b)
    (λ ib. sym (same_is i a ia) ∙ same_is i b ib)
    (λ nb. absurd
    (untied a b
    (ap (λ v. position_cmp v b) (sym (same_is i a ia)) ∙ below_among i is up.0 b (grind (arith, bt, nb))) tie)))
    (λ na. when (same_item i b)
    (λ ib. absurd
    (tied_back a b
    (ap (λ v. position_cmp v a) (sym (same_is i b ib)) ∙ below_among i is up.0 a (grind (arith, at, na))) tie))
    (λ nb. one_place is up.1 a b (grind (arith, at, na)) (grind (arith, bt, nb)) tie))
  where
    untied : (a b : Item) → position_cmp a b ≡ Less → is_eq (position_cmp a b) ≡ true → ⊥
    untied a b less tie = grind (arith, nat_tests, less, tie)

    tied_back : (a b : Item) → position_cmp b a ≡ Less → is_eq (position_cmp a b) ≡ true → ⊥
    tied_back a b less tie = grind (arith, nat_tests, less, tie)

-- items with numbers of their own, of a list in order, have places of their own
own_places : (new is : List Item) → Rise position_cmp new → HaveOwnNumbers is
    → ((x : Item) → is_among is x ≡ true → is_among new x ≡ true)
    → IsAscending (λ a b. is_eq (position_cmp a b) ≡ false) is
own_places new [] up own within = tt
own_places new (i ∷ is) up own within = (
  apart is own.0 (λ x there. within x (let mine = there in by (same_item i x) mine)),
  own_places new is up own.1 (λ x there. within x (by (same_item i x) there)),
)
  where
    by : {c : Bool} (b : Bool) → c ≡ true → (b || c) ≡ true
    by true h = refl
    by false h = h

    apart : (js : List Item) → has_number js i.n ≡ false → ((x : Item) → is_among js x ≡ true → is_among new x ≡ true)
        → AllByRecursion (λ j. is_eq (position_cmp i j) ≡ false) js
    apart [] none in_new = tt
    apart (j ∷ js) none in_new = (
      when (is_eq (position_cmp i j))
          (λ tie. absurd
          (let one : i ≡ j =
          one_place new up i j (within i (let mine = same_itself i in grind (arith, mine)))
          (in_new j (let mine = same_itself j in grind (arith, mine))) tie in
          let same : (j.n == i.n) ≡ true = ap (λ (v : Item). v.n == i.n) (sym one) ∙ nat_itself i.n in
          true≢false (sym (grind (arith, same)) ∙ none)))
          (λ h. h),
      apart js (grind (arith, none)) (λ x there. in_new x (by (same_item j x) there)),
    )

-- so, where just the new ones are among the items of a day, the day has the new ones
pub placed : (new is : List Item) → Rise position_cmp new → HaveOwnNumbers is
    → ((x : Item) → is_among is x ≡ is_among new x) → sort_by position_cmp is ≡ new
placed new is up own alike =
    let moved : IsPermutation (sort_by position_cmp is) is = IsPermutation-sort_by position_cmp position_total is in
    let apart = own_places new is up own (λ x there. sym (alike x) ∙ there) in
    let rise : Rise position_cmp (sort_by position_cmp is) =
    rise_from_sorted position_cmp position_total (sort_by position_cmp is)
    (ascending_permutes _ (apart_back position_cmp position_total) is (sort_by position_cmp is)
    (IsPermutation-sym _ _ moved) apart) (is_sorted-sort_by position_cmp position_total is) in
    same_lists (sort_by position_cmp is) new rise up
    (λ z. list_any-IsPermutation (λ i. same_item i z) (sort_by position_cmp is) is moved ∙ alike z)
