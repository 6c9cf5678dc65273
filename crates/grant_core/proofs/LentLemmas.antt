-- Grants in order, of which each open one is noted at its clip: one that finds its owner there is of the same clip as
-- an open one.
use Rattle.std.proofs.Common.{◌≡◌, ◌≢◌, ℕ, ◌+◌, ◌<◌, ◌≤◌, List, [], ◌∷◌, length, get_or, set, drop, replicate, Bool}
use Rattle.std.proofs.Common.{true, false, not, refl, sym, ◌∙◌, ap, subst, arith}
use Rattle.std.specs.Prelude.{◌==◌, nat_lt, nat_le, ◌&&◌, ◌||◌, if◌then◌else◌}
use Rattle.std.specs.List.{list_any, list_all}
use Rattle.std.proofs.lemmas.Bool.{and_parts}
use Rattle.std.proofs.lemmas.Bool.Decides.{nat_tests}
use Rattle.std.proofs.lemmas.List.{get_or-set_same, get_or-set_other, get_or-replicate, get_or_past, length-replicate}
use Rattle.std.proofs.lemmas.List.{length-set, drop_more}
use Rattle.std.proofs.lemmas.List.Folds.{list_all_at}
use Rattle.vault_core.specs.Rules.{are_apart}
use Rattle.grant_core.specs.declared.grant.Grant.{Grant}
use Rattle.grant_core.specs.Grant.{is_before, are_in_order, is_lent_to, is_clip_lent_to, lend_the_same}

-- the owners of the last open grants, clip by clip
abbrev pub noted : List ℕ → Grant → List ℕ
noted lenders g = if g.offer.withdrawn then lenders else set lenders g.offer.clip g.owner

abbrev pub is_again : List ℕ → Grant → Bool
is_again lenders g = not g.offer.withdrawn && get_or lenders g.offer.clip 0 == g.owner

abbrev pub passes : List ℕ → List Grant → Bool
passes lenders [] = true
passes lenders (g ∷ gs) = not (is_again lenders g) && passes (noted lenders g) gs

-- those behind a grant have its owner or a later one
abbrev pub from_owner : ℕ → Grant → Bool
from_owner o g = nat_le o g.owner

not_after : (a b m n : ℕ) → (nat_lt a b || (a == b && nat_lt m n)) ≡ true → a ≤ b
not_after a b m n h = grind (arith, nat_tests, h)

owners_from : (gs : List Grant) (o : ℕ) (g : Grant) → o ≤ g.owner → are_in_order (g ∷ gs) ≡ true
    → list_all (from_owner o) gs ≡ true
owners_from [] o g le h = refl
owners_from (k ∷ gs) o g le h =
    let parts = and_parts (is_before g k) (are_in_order (k ∷ gs)) h in
    let up : o ≤ k.owner = omega (arith, le, not_after g.owner k.owner g.offer.n k.offer.n parts.0) in
    let here : nat_le o k.owner ≡ true = grind (arith, nat_tests, up) in
    ap (λ b. b && list_all (from_owner o) gs) here ∙ owners_from gs o k up parts.1

-- a number at a place, once another is written at one
at_same : (o p x y : ℕ) → x ≡ o → y ≤ o → o ≤ p → (x == p) ≡ ((o == p && true) || y == p)
at_same o p x y is low high = grind (arith, nat_tests, is, low, high)

at_place : (l : List ℕ) (c o d p : ℕ) → c < length l → get_or l c 0 ≤ o → o ≤ p
    → (get_or (set l c o) d 0 == p) ≡ ((o == p && c == d) || get_or l d 0 == p)
at_place l c o d p lt low high =
    elim (c == d) as (λ b. (c == d) ≡ b → (get_or (set l c o) d 0 == p) ≡ ((o == p && b) || get_or l d 0 == p)) [
      | true ↦ λ e.
          let same : c ≡ d = grind (arith, nat_tests, e) in
          subst (λ k. (get_or (set l c o) k 0 == p) ≡ ((o == p && true) || get_or l k 0 == p)) same
          (at_same o p (get_or (set l c o) c 0) (get_or l c 0) (get_or-set_same l c o 0 lt) low high)
      | false ↦ λ e.
          let other : d ≢ c = λ same. grind (arith, nat_tests, e, same) in
          let there : get_or (set l c o) d 0 ≡ get_or l d 0 = get_or-set_other l c d o 0 other in
          grind (arith, nat_tests, there)
    ] refl

one_split : (lenders : List ℕ) (g h : Grant) → g.offer.clip < length lenders → get_or lenders g.offer.clip 0 ≤ g.owner
    → g.owner ≤ h.owner
    → is_again (noted lenders g) h ≡ (lend_the_same g h || is_again lenders h)
one_split lenders g h lt low high =
    elim g.offer.withdrawn
    as (λ w.
    (not h.offer.withdrawn
    && get_or (if w then lenders else set lenders g.offer.clip g.owner) h.offer.clip 0 == h.owner)
    ≡ ((not w && not h.offer.withdrawn && (g.owner == h.owner && g.offer.clip == h.offer.clip))
    || is_again lenders h)) [
      | true ↦ refl
      | false ↦ let at = at_place lenders g.offer.clip g.owner h.offer.clip h.owner lt low high in grind (arith, at)
    ]

any_split : (lenders : List ℕ) (g : Grant) (hs : List Grant) → g.offer.clip < length lenders
    → get_or lenders g.offer.clip 0 ≤ g.owner → list_all (from_owner g.owner) hs ≡ true
    → list_any (is_again (noted lenders g)) hs ≡ (list_any (lend_the_same g) hs || list_any (is_again lenders) hs)
any_split lenders g [] lt low from = refl
any_split lenders g (h ∷ hs) lt low from =
    let high : g.owner ≤ h.owner = grind (arith, nat_tests, from) in
    let one = one_split lenders g h lt low high in
    let rest = any_split lenders g hs lt low (grind (arith, from)) in
    grind (arith, one, rest)

-- what is noted stays within the owners so far
low_after : (lenders : List ℕ) (g : Grant) (o : ℕ) → g.offer.clip < length lenders → ((k : ℕ) → get_or lenders k 0 ≤ o)
    → o ≤ g.owner → (k : ℕ) → get_or (noted lenders g) k 0 ≤ g.owner
low_after lenders g o lt low up k =
    let before : get_or lenders k 0 ≤ g.owner = omega (arith, low k, up) in
    elim g.offer.withdrawn as (λ w. get_or (if w then lenders else set lenders g.offer.clip g.owner) k 0 ≤ g.owner) [
      | true ↦ before
      | false ↦ elim (g.offer.clip == k)
          as (λ b. (g.offer.clip == k) ≡ b → get_or (set lenders g.offer.clip g.owner) k 0 ≤ g.owner) [
            | true ↦ λ e.
                let same : g.offer.clip ≡ k = grind (arith, nat_tests, e) in
                let there : get_or (set lenders g.offer.clip g.owner) k 0 ≡ g.owner =
                subst (λ j. get_or (set lenders g.offer.clip g.owner) j 0 ≡ g.owner) same
                (get_or-set_same lenders g.offer.clip g.owner 0 lt) in
                omega (arith, there)
            | false ↦ λ e.
                let other : k ≢ g.offer.clip = λ same. grind (arith, nat_tests, e, same) in
                let there : get_or (set lenders g.offer.clip g.owner) k 0 ≡ get_or lenders k 0 =
                get_or-set_other lenders g.offer.clip k g.owner 0 other in
                omega (arith, there, before)
          ] refl
    ]

length_noted : (lenders : List ℕ) (g : Grant) → length (noted lenders g) ≡ length lenders
length_noted lenders g =
    elim g.offer.withdrawn as (λ w. length (if w then lenders else set lenders g.offer.clip g.owner) ≡ length lenders)
    [ true ↦ refl | false ↦ length-set lenders g.offer.clip g.owner ]

order_of : (a s r d : Bool) → (not a && (not (s || r) && d)) ≡ (not (a || r) && (not s && d))
order_of true s r d = refl
order_of false true true d = refl
order_of false true false d = refl
order_of false false true d = refl
order_of false false false d = refl

-- the pass finds just the grants that are of a clip as an open one before them, and those that are noted already
passes_is : (gs : List Grant) (lenders : List ℕ) (o : ℕ) → ((k : ℕ) → get_or lenders k 0 ≤ o)
    → list_all (from_owner o) gs ≡ true
    → list_all (λ g. nat_lt g.offer.clip (length lenders)) gs ≡ true → are_in_order gs ≡ true
    → passes lenders gs ≡ (not (list_any (is_again lenders) gs) && are_apart lend_the_same gs)
passes_is [] lenders o low from clips order = refl
passes_is (g ∷ gs) lenders o low from clips order =
    let up : o ≤ g.owner = grind (arith, nat_tests, from) in
    let lt : g.offer.clip < length lenders = grind (arith, nat_tests, clips) in
    let low_here : get_or lenders g.offer.clip 0 ≤ g.owner = omega (arith, low g.offer.clip, up) in
    let behind : list_all (from_owner g.owner) gs ≡ true = owners_from gs g.owner g (omega arith) order in
    let clips_behind : list_all (λ h. nat_lt h.offer.clip (length lenders)) gs ≡ true = grind (arith, clips) in
    let rest = passes_is gs (noted lenders g) g.owner (low_after lenders g o lt low up) behind
    (subst (λ n. list_all (λ h. nat_lt h.offer.clip n) gs ≡ true) (sym (length_noted lenders g)) clips_behind)
    (grind (arith, order)) in
    ap (λ b. not (is_again lenders g) && b)
    (rest ∙ ap (λ b. not b && are_apart lend_the_same gs) (any_split lenders g gs lt low_here behind))
    ∙ order_of (is_again lenders g) (list_any (lend_the_same g) gs) (list_any (is_again lenders) gs)
    (are_apart lend_the_same gs)

-- at first none is noted
abbrev pub nobody : ℕ → List ℕ
nobody n = replicate n 0

pub length_nobody : (n : ℕ) → length (nobody n) ≡ n
length_nobody n = let zero_number : ℕ = 0 in length-replicate n zero_number

pub zero_at : (n k : ℕ) → get_or (nobody n) k 0 ≡ 0
zero_at n k =
    elim (nat_lt k n) as (λ b. nat_lt k n ≡ b → get_or (nobody n) k 0 ≡ 0) [
      | true ↦ λ e. get_or-replicate n k 0 0 (grind (arith, nat_tests, e))
      | false ↦ λ e. let past : n ≤ k = grind (arith, nat_tests, e) in
          get_or_past (nobody n) k 0 (omega (arith, length_nobody n, past))
    ] refl

none_noted : (n : ℕ) (gs : List Grant) → list_all (λ g. nat_lt 0 g.owner) gs ≡ true
    → list_any (is_again (nobody n)) gs ≡ false
none_noted n [] owners = refl
none_noted n (g ∷ gs) owners =
    let here : get_or (nobody n) g.offer.clip 0 ≡ 0 = zero_at n g.offer.clip in
    let some : 0 < g.owner = grind (arith, nat_tests, owners) in
    let other : (get_or (nobody n) g.offer.clip 0 == g.owner) ≡ false = grind (arith, nat_tests, here, some) in
    let rest = none_noted n gs (grind (arith, owners)) in
    grind (arith, other, rest)

from_none : (gs : List Grant) → list_all (from_owner 0) gs ≡ true
from_none [] = refl
from_none (g ∷ gs) = let here : nat_le 0 g.owner ≡ true = grind (arith, nat_tests) in grind (arith, here, from_none gs)

pub passes_from_none : (n : ℕ) (gs : List Grant) → list_all (λ g. nat_lt 0 g.owner) gs ≡ true
    → list_all (λ g. nat_lt g.offer.clip n) gs ≡ true → are_in_order gs ≡ true
    → passes (nobody n) gs ≡ are_apart lend_the_same gs
passes_from_none n gs owners clips order =
    let long : length (nobody n) ≡ n = length_nobody n in
    passes_is gs (nobody n) 0 (λ k. omega (arith, zero_at n k)) (from_none gs)
    (subst (λ m. list_all (λ g. nat_lt g.offer.clip m) gs ≡ true) (sym long) clips) order
    ∙ ap (λ b. not b && are_apart lend_the_same gs) (none_noted n gs owners)

-- one of grants that all have a clip below n
pub clip_below : (n : ℕ) (gs : List Grant) (i : ℕ) (d g : Grant) → list_all (λ g. nat_lt g.offer.clip n) gs ≡ true
    → i < length gs → g ≡ get_or gs i d → g.offer.clip < n
clip_below n gs i d g clips lt is =
    elim (nat_lt g.offer.clip n) as (λ b. nat_lt g.offer.clip n ≡ b → g.offer.clip < n) [
      | true ↦ λ e. grind (arith, nat_tests, e)
      | false ↦ λ e. absurd
          (let f : list_all (λ g. nat_lt g.offer.clip n) gs ≡ false =
          list_all_at (λ g. nat_lt g.offer.clip n) gs i d lt (ap (λ (h : Grant). nat_lt h.offer.clip n) (sym is) ∙ e) in
          cc)
    ] refl

-- one step of the pass
pub pass_on : (gs : List Grant) (i : ℕ) (d g : Grant) (lenders : List ℕ) → i < length gs → g ≡ get_or gs i d
    → is_again lenders g ≡ false
    → passes lenders (drop i gs) ≡ passes (noted lenders g) (drop (i + 1) gs)
pass_on gs i d g lenders lt is new =
    ap (passes lenders) (drop_more gs i d lt ∙ ap (λ h. h ∷ drop (i + 1) gs) (sym is))
    ∙ ap (λ b. not b && passes (noted lenders g) (drop (i + 1) gs)) new

pub pass_stops : (gs : List Grant) (i : ℕ) (d g : Grant) (lenders : List ℕ) → i < length gs → g ≡ get_or gs i d
    → is_again lenders g ≡ true
    → passes lenders (drop i gs) ≡ false
pass_stops gs i d g lenders lt is again =
    ap (passes lenders) (drop_more gs i d lt ∙ ap (λ h. h ∷ drop (i + 1) gs) (sym is))
    ∙ ap (λ b. not b && passes (noted lenders g) (drop (i + 1) gs)) again

-- grants to a channel have an owner
pub owners_some : (channel : ℕ) (gs : List Grant) → list_all (is_lent_to channel) gs ≡ true
    → list_all (λ g. nat_lt 0 g.owner) gs ≡ true
owners_some channel [] h = refl
owners_some channel (g ∷ gs) h =
    let parts = and_parts (is_lent_to channel g) (list_all (is_lent_to channel) gs) h in
    let some : nat_lt 0 g.owner ≡ true = grind (arith, parts.0) in
    ap (λ b. b && list_all (λ g. nat_lt 0 g.owner) gs) some ∙ owners_some channel gs parts.1

-- and a clip's number below one more than clips may be
pub clips_below : (channel : ℕ) (gs : List Grant) → list_all (is_clip_lent_to channel) gs ≡ true
    → list_all (λ g. nat_lt g.offer.clip 20001) gs ≡ true
clips_below channel [] h = refl
clips_below channel (g ∷ gs) h =
    let parts = and_parts (is_clip_lent_to channel g) (list_all (is_clip_lent_to channel) gs) h in
    let small : nat_lt g.offer.clip 20001 ≡ true = grind (arith, nat_tests, parts.0) in
    ap (λ b. b && list_all (λ g. nat_lt g.offer.clip 20001) gs) small ∙ clips_below channel gs parts.1
