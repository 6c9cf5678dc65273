-- Grants in order, of which the place of the last one of each clip is noted: one that is the same copy as that is the
-- same copy as all of its owner's clip.
use Rattle.std.proofs.Common.{◌≡◌, ◌≢◌, ℕ, ◌+◌, ◌<◌, ◌≤◌, zero, suc, List, [], ◌∷◌, length, get_or, set, replicate}
use Rattle.std.proofs.Common.{Bool, true, false, not, refl, sym, ◌∙◌, ap, subst, arith}
use Rattle.std.specs.Prelude.{◌==◌, nat_lt, bytes_eq, ◌&&◌, ◌||◌}
use Rattle.std.specs.List.{list_any, IsAllAdjacentAnswer}
use Rattle.std.proofs.lemmas.Bool.Decides.{nat_tests}
use Rattle.std.proofs.lemmas.List.{get_or_default, get_or-set_same, get_or-set_other}
use Rattle.std.proofs.lemmas.Slice.Eq.{bytes_eq-Decides}
use Rattle.timecode.specs.declared.rates.Rate.{Rate}
use Rattle.timecode.specs.Rate.{is_same_rate}
use Rattle.timecode.proofs.RateLemmas.{rate_is}
use Rattle.umid.specs.BasicUmid.{basic_umid}
use Rattle.vault_core.specs.declared.offer.Offer.{Offer}
use Rattle.vault_core.specs.Rules.{are_apart}
use Rattle.grant_core.specs.declared.grant.Grant.{Grant}
use Rattle.grant_core.specs.Grant.{AreInOrder, differ_in_rate, is_same_copy, differ_as_copies}
use Rattle.grant_core.proofs.FindLemmas.{before_later}
use Rattle.grant_core.proofs.LentLemmas.{zero_at}

-- no two of the first n clash
abbrev pub NoneUpTo : (Grant → Grant → Bool) → List Grant → ℕ → Type 0
NoneUpTo clash gs n = (i j : ℕ) (d : Grant) → i < j → j < n → clash (get_or gs i d) (get_or gs j d) ≡ false

module _ (clash : Grant → Grant → Bool) where
  none_behind : (g : Grant) (hs : List Grant) → ((k : ℕ) (d : Grant) → k < length hs → clash g (get_or hs k d) ≡ false)
      → list_any (clash g) hs ≡ false
  none_behind g [] none = refl
  none_behind g (h ∷ hs) none =
      ap (λ b. b || list_any (clash g) hs) (none zero h (omega arith))
      ∙ none_behind g hs (λ k d lt. none (suc k) d (omega (arith, lt)))

  pub apart-from_pairs : (gs : List Grant) → NoneUpTo clash gs (length gs) → are_apart clash gs ≡ true
  apart-from_pairs [] none = refl
  apart-from_pairs (g ∷ gs) none =
      ap (λ b. not b && are_apart clash gs)
      (none_behind g gs (λ k d lt. none zero (suc k) d (omega arith) (omega (arith, lt))))
      ∙ apart-from_pairs gs (λ i j d lt up. none (suc i) (suc j) d (omega (arith, lt)) (omega (arith, up)))

  some_behind : (g : Grant) (hs : List Grant) (k : ℕ) (d : Grant) → k < length hs → clash g (get_or hs k d) ≡ true
      → list_any (clash g) hs ≡ true
  some_behind g [] k d lt h = absurd (omega arith)
  some_behind g (k ∷ hs) zero d lt h = ap (λ b. b || list_any (clash g) hs) h
  some_behind g (k ∷ hs) (suc n) d lt h =
      elim (clash g k) as (λ b. (b || list_any (clash g) hs) ≡ true)
      [ true ↦ refl | false ↦ some_behind g hs n d (omega (arith, lt)) h ]

  pub pair_clashes : (gs : List Grant) (i j : ℕ) (d : Grant) → i < j → j < length gs
      → clash (get_or gs i d) (get_or gs j d) ≡ true → are_apart clash gs ≡ false
  pair_clashes [] i j d lt up h = absurd (omega arith)
  pair_clashes (g ∷ gs) zero zero d lt up h = absurd (omega arith)
  pair_clashes (g ∷ gs) zero (suc j) d lt up h =
      ap (λ b. not b && are_apart clash gs) (some_behind g gs j d (omega (arith, up)) h)
  pair_clashes (g ∷ gs) (suc i) zero d lt up h = absurd (omega arith)
  pair_clashes (g ∷ gs) (suc i) (suc j) d lt up h =
      elim (list_any (clash g) gs) as (λ b. (not b && are_apart clash gs) ≡ false) [
        | true ↦ refl
        | false ↦ pair_clashes gs i j d (omega (arith, lt)) (omega (arith, up)) h
      ]

not_after : (a b m n : ℕ) → (nat_lt a b || (a == b && nat_lt m n)) ≡ true → a ≤ b
not_after a b m n h = grind (arith, nat_tests, h)

owners_rise : (gs : List Grant) (i j : ℕ) (d : Grant) → AreInOrder gs → i < j → j < length gs
    → (get_or gs i d).owner ≤ (get_or gs j d).owner
owners_rise gs i j d order lt up =
    let g : Grant = get_or gs i d in
    let h : Grant = get_or gs j d in
    not_after g.owner h.owner g.offer.n h.offer.n (before_later gs i j d order lt up)

agrees : (a b : Bool) → a ≡ true → (a && not b) ≡ false → b ≡ true
agrees true true e h = refl
agrees true false e h = absurd (cc)
agrees false b e h = absurd (cc)

never : (a b : Bool) → b ≡ true → (a && not b) ≡ false
never true b e = ap not e
never false b e = refl

bytes_on : (xs ys zs : List ℕ) → bytes_eq xs ys ≡ true → bytes_eq ys zs ≡ true → bytes_eq xs zs ≡ true
bytes_on xs ys zs a b = (bytes_eq-Decides xs zs).1 ((bytes_eq-Decides xs ys).0 a ∙ (bytes_eq-Decides ys zs).0 b)

bytes_self : (xs : List ℕ) → bytes_eq xs xs ≡ true
bytes_self xs = (bytes_eq-Decides xs xs).1 refl

same_rate_on : (a b c : Rate) → is_same_rate a b ≡ true → is_same_rate b c ≡ true → is_same_rate a c ≡ true
same_rate_on a b c first second = subst (λ r. is_same_rate r c ≡ true) (sym (rate_is a b first)) second

-- rates, from one grant to the next
rate_on : (g h k : Grant) → g.owner ≤ h.owner → h.owner ≤ k.owner → differ_in_rate g h ≡ false
    → differ_in_rate h k ≡ false → differ_in_rate g k ≡ false
rate_on g h k low high one two =
    elim (g.owner == k.owner)
    as (λ b. (g.owner == k.owner) ≡ b
    → (b && not (is_same_rate g.offer.rate k.offer.rate)) ≡ false) [
      | true ↦ λ e.
          let first : (g.owner == h.owner) ≡ true = grind (arith, nat_tests, e, low, high) in
          let second : (h.owner == k.owner) ≡ true = grind (arith, nat_tests, e, low, high) in
          ap not (same_rate_on g.offer.rate h.offer.rate k.offer.rate
          (agrees (g.owner == h.owner) (is_same_rate g.offer.rate h.offer.rate) first one)
          (agrees (h.owner == k.owner) (is_same_rate h.offer.rate k.offer.rate) second two))
      | false ↦ λ e. refl
    ] refl

rates_up : (gs : List Grant) → AreInOrder gs
    → ((k : ℕ) (d : Grant) → suc k < length gs → differ_in_rate (get_or gs k d) (get_or gs (suc k) d) ≡ false)
    → NoneUpTo differ_in_rate gs (length gs)
rates_up gs order each i zero d lt up = absurd (omega arith)
rates_up gs order each i (suc j) d lt up =
    elim (nat_lt i j) as (λ b. nat_lt i j ≡ b → differ_in_rate (get_or gs i d) (get_or gs (suc j) d) ≡ false) [
      | true ↦ λ e.
          let below : i < j = grind (arith, nat_tests, e) in
          rate_on (get_or gs i d) (get_or gs j d) (get_or gs (suc j) d)
          (owners_rise gs i j d order below (omega (arith, up))) (owners_rise gs j (suc j) d order (omega arith) up)
          (rates_up gs order each i j d below (omega (arith, up))) (each j d up)
      | false ↦ λ e.
          let past : j ≤ i = grind (arith, nat_tests, e) in
          let same : i ≡ j = omega (arith, past, lt) in
          subst (λ m. differ_in_rate (get_or gs m d) (get_or gs (suc j) d) ≡ false) (sym same) (each j d up)
    ] refl

no_difference : (b : Bool) → true ≡ not b → b ≡ false
no_difference true h = absurd (cc)
no_difference false h = refl

difference : (b : Bool) → false ≡ not b → b ≡ true
difference true h = refl
difference false h = absurd (cc)

-- where no two neighbours differ, no two do
pub rates_are : (gs : List Grant) (r : Bool) → AreInOrder gs
    → IsAllAdjacentAnswer (λ g h b. b ≡ not (differ_in_rate g h)) gs r → r ≡ are_apart differ_in_rate gs
rates_are gs true order h =
    sym (apart-from_pairs differ_in_rate gs
    (rates_up gs order
    (λ k d lt. no_difference _
    (subst (λ m. true ≡ not (differ_in_rate (get_or gs k d) (get_or gs m d))) (add_one k)
    (h k d (omega (arith, lt)))))))
  where
    add_one : (k : ℕ) → k + 1 ≡ suc k
    add_one k = omega arith
rates_are [] false order h = absurd (omega (arith, h.1))
rates_are (g ∷ gs) false order h =
    sym (pair_clashes differ_in_rate (g ∷ gs) h.0 (h.0 + 1) g (omega arith) h.1 (difference _ (h.2 g)))

-- copies, from one grant to another
copy_on : (o p q : Offer) → is_same_copy o p ≡ true → is_same_copy p q ≡ true → is_same_copy o q ≡ true
unfolding is_same_copy
copy_on o p q a b =
    let title_a : bytes_eq o.title p.title ≡ true = grind (arith, a) in
    let title_b : bytes_eq p.title q.title ≡ true = grind (arith, b) in
    let umid_a : bytes_eq (basic_umid o.umid) (basic_umid p.umid) ≡ true = grind (arith, a) in
    let umid_b : bytes_eq (basic_umid p.umid) (basic_umid q.umid) ≡ true = grind (arith, b) in
    let first_a : (o.src_first == p.src_first) ≡ true = grind (arith, a) in
    let first_b : (p.src_first == q.src_first) ≡ true = grind (arith, b) in
    let frames_a : (o.frames == p.frames) ≡ true = grind (arith, a) in
    let frames_b : (p.frames == q.frames) ≡ true = grind (arith, b) in
    let title = bytes_on o.title p.title q.title title_a title_b in
    let umid = bytes_on (basic_umid o.umid) (basic_umid p.umid) (basic_umid q.umid) umid_a umid_b in
    let first : (o.src_first == q.src_first) ≡ true = grind (arith, nat_tests, first_a, first_b) in
    let frames : (o.frames == q.frames) ≡ true = grind (arith, nat_tests, frames_a, frames_b) in
    (λ i. title i && umid i && (first i && frames i))

copy_self : (o : Offer) → is_same_copy o o ≡ true
unfolding is_same_copy
copy_self o =
    let title = bytes_self o.title in
    let umid = bytes_self (basic_umid o.umid) in
    let first : (o.src_first == o.src_first) ≡ true = grind (arith, nat_tests) in
    let frames : (o.frames == o.frames) ≡ true = grind (arith, nat_tests) in
    (λ i. title i && umid i && (first i && frames i))

self_is_copy : (g : Grant) → differ_as_copies g g ≡ false
self_is_copy g =
    never (g.owner == g.owner && g.offer.clip == g.offer.clip) (is_same_copy g.offer g.offer) (copy_self g.offer)

copies_on : (g h k : Grant) → g.owner ≤ h.owner → h.owner ≤ k.owner → h.offer.clip ≡ k.offer.clip
    → differ_as_copies g h ≡ false → differ_as_copies h k ≡ false → differ_as_copies g k ≡ false
copies_on g h k low high clip one two =
    elim (g.owner == k.owner && g.offer.clip == k.offer.clip)
    as (λ b. (g.owner == k.owner && g.offer.clip == k.offer.clip) ≡ b
    → (b && not (is_same_copy g.offer k.offer)) ≡ false) [
      | true ↦ λ e.
          let first : (g.owner == h.owner && g.offer.clip == h.offer.clip) ≡ true =
          grind (arith, nat_tests, e, low, high, clip) in
          let second : (h.owner == k.owner && h.offer.clip == k.offer.clip) ≡ true =
          grind (arith, nat_tests, e, low, high, clip) in
          ap not (copy_on g.offer h.offer k.offer
          (agrees (g.owner == h.owner && g.offer.clip == h.offer.clip) (is_same_copy g.offer h.offer) first one)
          (agrees (h.owner == k.owner && h.offer.clip == k.offer.clip) (is_same_copy h.offer k.offer) second two))
      | false ↦ λ e. refl
    ] refl

-- the last one of the clip of this one among the first n
pub record IsLast (gs : List Grant) (n k at : ℕ) (d : Grant) : Type 0 where
  pub from : k ≤ at
  pub below : at < n
  pub clip : (get_or gs at d).offer.clip ≡ (get_or gs k d).offer.clip

-- of the first n grants the last of each clip is noted, and no two clash
pub record Noted (gs : List Grant) (places : List ℕ) (n : ℕ) : Type 0 where
  pub low : (c : ℕ) → get_or places c 0 ≤ n
  pub last : (k : ℕ) (d : Grant) → k < n → IsLast gs n k (get_or places (get_or gs k d).offer.clip 0) d
  pub none : NoneUpTo differ_as_copies gs n

module _ (gs : List Grant) (places : List ℕ) (n : ℕ) (d g : Grant) (order : AreInOrder gs) (lt : n < length gs)
    (is : g ≡ get_or gs n d) (clip : g.offer.clip < length places)
    (noted : Noted gs places n) (same : differ_as_copies (get_or gs (get_or places g.offer.clip 0) d) g ≡ false) where
  it : (e : Grant) → get_or gs n e ≡ g
  it e = get_or_default gs n e d lt ∙ sym is

  -- no grant before this one clashes with it
  none_with : (i : ℕ) (e : Grant) → i < n → differ_as_copies (get_or gs i e) g ≡ false
  none_with i e up =
      elim ((get_or gs i e).offer.clip == g.offer.clip)
      as (λ b. ((get_or gs i e).offer.clip == g.offer.clip) ≡ b → differ_as_copies (get_or gs i e) g ≡ false) [
        | true ↦ λ t.
            let one : (get_or gs i e).offer.clip ≡ g.offer.clip = grind (arith, nat_tests, t) in
            let at : ℕ = get_or places g.offer.clip 0 in
            let is_last : IsLast gs n i at e =
            subst (λ c. IsLast gs n i (get_or places c 0) e) one (noted.last i e up) in
            let there : differ_as_copies (get_or gs at e) g ≡ false =
            subst (λ (h : Grant). differ_as_copies h g ≡ false)
            (get_or_default gs at d e (omega (arith, is_last.below, lt))) same in
            elim (nat_lt i at) as (λ b. nat_lt i at ≡ b → differ_as_copies (get_or gs i e) g ≡ false) [
              | true ↦ λ u.
                  let below : i < at = grind (arith, nat_tests, u) in
                  let high : (get_or gs at e).owner ≤ g.owner =
                  subst (λ (h : Grant). (get_or gs at e).owner ≤ h.owner) (it e)
                  (owners_rise gs at n e order is_last.below lt) in
                  copies_on (get_or gs i e) (get_or gs at e) g
                  (owners_rise gs i at e order below (omega (arith, is_last.below, lt))) high (is_last.clip ∙ one)
                  (noted.none i at e below is_last.below) there
              | false ↦ λ u.
                  let past : at ≤ i = grind (arith, nat_tests, u) in
                  let here : at ≡ i = omega (arith, past, is_last.from) in
                  subst (λ m. differ_as_copies (get_or gs m e) g ≡ false) here there
            ] refl
        | false ↦ λ t. ap
            (λ b. (((get_or gs i e).owner == g.owner) && b) && not (is_same_copy (get_or gs i e).offer g.offer)) t
            ∙ none ((get_or gs i e).owner == g.owner) (not (is_same_copy (get_or gs i e).offer g.offer))
      ] refl
    where
      none : (a b : Bool) → ((a && false) && b) ≡ false
      none true b = refl
      none false b = refl

  none_on : NoneUpTo differ_as_copies gs (n + 1)
  none_on i j e below up =
      elim (nat_lt j n) as (λ b. nat_lt j n ≡ b → differ_as_copies (get_or gs i e) (get_or gs j e) ≡ false) [
        | true ↦ λ t. noted.none i j e below (grind (arith, nat_tests, t))
        | false ↦ λ t.
            let past : n ≤ j = grind (arith, nat_tests, t) in
            let here : j ≡ n = omega (arith, past, up) in
            let by : differ_as_copies (get_or gs i e) (get_or gs n e) ≡ false =
            subst (λ (h : Grant). differ_as_copies (get_or gs i e) h ≡ false) (sym (it e))
            (none_with i e (omega (arith, below, here))) in
            subst (λ m. differ_as_copies (get_or gs i e) (get_or gs m e) ≡ false) (sym here) by
      ] refl

  low_on : (c : ℕ) → get_or (set places g.offer.clip n) c 0 ≤ n + 1
  low_on c =
      elim (c == g.offer.clip) as (λ b. (c == g.offer.clip) ≡ b → get_or (set places g.offer.clip n) c 0 ≤ n + 1) [
        | true ↦ λ t.
            let one : c ≡ g.offer.clip = grind (arith, nat_tests, t) in
            let there : get_or (set places g.offer.clip n) c 0 ≡ n =
            subst (λ m. get_or (set places g.offer.clip n) m 0 ≡ n) (sym one)
            (get_or-set_same places g.offer.clip n 0 clip) in
            omega (arith, there)
        | false ↦ λ t.
            let other : c ≢ g.offer.clip = λ one. grind (arith, nat_tests, t, one) in
            omega (arith, get_or-set_other places g.offer.clip c n 0 other, noted.low c)
      ] refl

  last_on : (k : ℕ) (e : Grant) → k < n + 1
      → IsLast gs (n + 1) k (get_or (set places g.offer.clip n) (get_or gs k e).offer.clip 0) e
  last_on k e up =
      let c : ℕ = (get_or gs k e).offer.clip in
      elim (c == g.offer.clip)
      as (λ b. (c == g.offer.clip) ≡ b → IsLast gs (n + 1) k (get_or (set places g.offer.clip n) c 0) e) [
        | true ↦ λ t.
            let one : c ≡ g.offer.clip = grind (arith, nat_tests, t) in
            let there : get_or (set places g.offer.clip n) c 0 ≡ n =
            subst (λ m. get_or (set places g.offer.clip n) m 0 ≡ n) (sym one)
            (get_or-set_same places g.offer.clip n 0 clip) in
            let made : IsLast gs (n + 1) k n e =
            record {
              from = omega (arith, up);
              below = omega arith;
              clip =
                  ap (λ (h : Grant). h.offer.clip) (it e) ∙ sym one;
            } in
            subst (λ m. IsLast gs (n + 1) k m e) (sym there) made
        | false ↦ λ t.
            let other : c ≢ g.offer.clip = λ one. grind (arith, nat_tests, t, one) in
            let there : get_or (set places g.offer.clip n) c 0 ≡ get_or places c 0 =
            get_or-set_other places g.offer.clip c n 0 other in
            let before : k < n = elim (nat_lt k n) as (λ b. nat_lt k n ≡ b → k < n) [
              | true ↦ λ u. grind (arith, nat_tests, u)
              | false ↦ λ u.
                  let past : n ≤ k = grind (arith, nat_tests, u) in
                  let here : k ≡ n = omega (arith, past, up) in
                  absurd (other (ap (λ m. (get_or gs m e).offer.clip) here ∙ ap (λ (h : Grant). h.offer.clip) (it e)))
            ] refl in
            let old : IsLast gs n k (get_or places c 0) e = noted.last k e before in
            let made : IsLast gs (n + 1) k (get_or places c 0) e =
            record { from = old.from; below = omega (arith, old.below); clip = old.clip } in
            subst (λ m. IsLast gs (n + 1) k m e) (sym there) made
      ] refl

  pub noted_on : Noted gs (set places g.offer.clip n) (n + 1)
  noted_on = record { low = low_on; last = last_on; none = none_on }

-- one that isn't the same copy as the last of its clip clashes with it
pub copy_clashes : (gs : List Grant) (places : List ℕ) (n : ℕ) (d g : Grant) → n < length gs → g ≡ get_or gs n d
    → Noted gs places n
    → differ_as_copies (get_or gs (get_or places g.offer.clip 0) d) g ≡ true → are_apart differ_as_copies gs ≡ false
copy_clashes gs places n d g lt is noted differ =
    let at : ℕ = get_or places g.offer.clip 0 in
    elim (nat_lt at n) as (λ b. nat_lt at n ≡ b → are_apart differ_as_copies gs ≡ false) [
      | true ↦ λ e. pair_clashes differ_as_copies gs at n d (grind (arith, nat_tests, e)) lt
          (subst (λ (h : Grant). differ_as_copies (get_or gs at d) h ≡ true) is differ)
      | false ↦ λ e.
          let past : n ≤ at = grind (arith, nat_tests, e) in
          let here : at ≡ n = omega (arith, past, noted.low g.offer.clip) in
          let same : get_or gs at d ≡ g = ap (λ m. get_or gs m d) here ∙ sym is in
          let self : differ_as_copies g g ≡ true = subst (λ (h : Grant). differ_as_copies h g ≡ true) same differ in
          absurd (let clash = self_is_copy g in cc)
    ] refl

-- at the end no two of all clash, and at first there are none
pub none_apart : (gs : List Grant) (places : List ℕ) (n : ℕ) → length gs ≤ n → Noted gs places n
    → are_apart differ_as_copies gs ≡ true
none_apart gs places n all noted =
    apart-from_pairs differ_as_copies gs (λ i j d lt up. noted.none i j d lt (omega (arith, all, up)))

pub nothing_noted : (gs : List Grant) (n : ℕ) → Noted gs (replicate n 0) 0
nothing_noted gs n = record {
  low = λ c. omega (arith, zero_at n c);
  last = λ k d lt. absurd (omega arith);
  none = λ i j d lt up. absurd (omega arith);
}
