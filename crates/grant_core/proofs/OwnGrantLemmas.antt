-- The offers of own rows that keep the rules, as their grantee has them: lent clips that keep theirs.
use Rattle.std.proofs.Common.{◌≡◌, ℕ, ◌+◌, ◌<◌, ◌≤◌, List, [], ◌∷◌, ◌++◌, length, Bool, true, false, not, refl, sym}
use Rattle.std.proofs.Common.{◌∙◌, ap, subst, lit<, arith}
use Rattle.std.specs.Prelude.{◌==◌, nat_lt, nat_le, map, filter, find, Option, Some, None, bytes_eq, ◌&&◌, ◌||◌}
use Rattle.std.specs.Prelude.{if◌then◌else◌}
use Rattle.std.specs.List.{list_any, list_all, cons_option}
use Rattle.std.proofs.lemmas.Bool.{and_parts}
use Rattle.std.proofs.lemmas.Bool.Decides.{nat_tests}
use Rattle.std.proofs.lemmas.List.Folds.{list_any-append, list_all-append}
use Rattle.std.proofs.lemmas.Slice.Eq.{bytes_eq-Decides}
use Rattle.timecode.specs.declared.rates.Rate.{Rate}
use Rattle.timecode.specs.Rate.{is_same_rate}
use Rattle.timecode.specs.Counting.{day_length}
use Rattle.timecode.proofs.RateLemmas.{rate_is, rate_same}
use Rattle.umid.specs.BasicUmid.{UmidParts, basic_umid, parts_in}
use Rattle.umid.proofs.UmidLemmas.{parts_in-basic_umid}
use Rattle.channel_plan.specs.declared.plan.PlanRow.{PlanRow}
use Rattle.vault_core.specs.declared.clip.Clip.{Clip}
use Rattle.vault_core.specs.declared.offer.Offer.{Offer}
use Rattle.vault_core.specs.Own.{Own}
use Rattle.vault_core.specs.Clip.{is_clip_range}
use Rattle.vault_core.specs.Offer.{is_copy, matches_clip, granted_umid, is_grantee}
use Rattle.vault_core.specs.Rules.{is_clip, is_offer, is_numbered_from, are_apart, open_grants, is_same_grant}
use Rattle.vault_core.specs.Rules.{KeepsOwnRules}
use Rattle.grant_core.specs.declared.grant.Grant.{Grant}
use Rattle.grant_core.specs.Grant.{is_lent_to, is_clip_lent_to, is_before_first, are_in_order, lend_the_same}
use Rattle.grant_core.specs.Grant.{is_same_copy, differ_in_rate, differ_as_copies, grant_by, lent_by, owners_before}
use Rattle.grant_core.specs.Grant.{KeepsLentRules}

abbrev lent : ℕ → ℕ → List Offer → List Grant
lent b c os = map (grant_by b) (filter (λ o. o.grantee == c) os)

-- what each offer to c has as a grant, all have
kept : (p : Grant → Bool) (b c : ℕ) (os : List Offer)
    → list_all (λ o. not (o.grantee == c) || p (grant_by b o)) os ≡ true → list_all p (lent b c os) ≡ true
kept p b c [] h = refl
kept p b c (o ∷ os) h =
    elim (o.grantee == c)
    as (λ t. ((not t || p (grant_by b o)) && list_all (λ u. not (u.grantee == c) || p (grant_by b u)) os) ≡ true
    → list_all p
    (map (grant_by b) (if t then o ∷ filter (λ u. u.grantee == c) os else filter (λ u. u.grantee == c) os))
    ≡ true) [
      | true ↦ λ e.
          let parts = and_parts (p (grant_by b o)) (list_all (λ u. not (u.grantee == c) || p (grant_by b u)) os) e in
          ap (λ x. x && list_all p (lent b c os)) parts.0 ∙ kept p b c os parts.1
      | false ↦ λ e. kept p b c os e
    ] h

-- two tests that each row passes, as one
all_both : {R : Type 0} (p q r : R → Bool) → ((x : R) → p x ≡ true → q x ≡ true → r x ≡ true) → (xs : List R)
    → list_all p xs ≡ true → list_all q xs ≡ true → list_all r xs ≡ true
all_both p q r step [] hp hq = refl
all_both p q r step (x ∷ xs) hp hq =
    let ps = and_parts (p x) (list_all p xs) hp in
    let qs = and_parts (q x) (list_all q xs) hq in
    ap (λ b. b && list_all r xs) (step x ps.0 qs.0) ∙ all_both p q r step xs ps.1 qs.1

-- numbers that rise from m on are within these bounds
numbers_within : {R : Type 0} (number : R → ℕ) (top : ℕ) (rs : List R) (m : ℕ) → is_numbered_from number m rs ≡ true
    → 0 < m → m + length rs ≤ top + 1
    → list_all (λ r. nat_lt 0 (number r) && nat_le (number r) top) rs ≡ true
numbers_within number top [] m h some most = refl
numbers_within number top (r ∷ rs) m h some most =
    let parts = and_parts (number r == m) (is_numbered_from number (m + 1) rs) h in
    let is : number r ≡ m = grind (arith, nat_tests, parts.0) in
    let low : m ≤ top = omega (arith, most) in
    let here : (nat_lt 0 (number r) && nat_le (number r) top) ≡ true = grind (arith, nat_tests, is, some, low) in
    ap (λ b. b && list_all (λ s. nat_lt 0 (number s) && nat_le (number s) top) rs) here
    ∙ numbers_within number top rs (m + 1) parts.1 (omega arith) (omega (arith, most))

-- the row that is found passes the test, and what all pass
found_one : {R : Type 0} (p q : R → Bool) (rs : List R) (r : R) → find p rs ≡ Some r → list_all q rs ≡ true
    → (p r ≡ true) × (q r ≡ true)
found_one p q [] r found all = absurd (cc)
found_one p q (u ∷ rs) r found all =
    let parts = and_parts (q u) (list_all q rs) all in
    elim (p u) as (λ b. p u ≡ b → (if b then Some u else find p rs) ≡ Some r → (p r ≡ true) × (q r ≡ true)) [
      | true ↦ λ e is. let same : u ≡ r = cc in (ap p (sym same) ∙ e, ap q (sym same) ∙ parts.0)
      | false ↦ λ e rest. found_one p q rs r rest parts.1
    ] refl found

-- UMIDs of the same bytes have one instance number
bytes_same : (xs ys : List ℕ) → bytes_eq xs ys ≡ true → xs ≡ ys
bytes_same xs ys h = (bytes_eq-Decides xs ys).0 h

same_instance : (a b : UmidParts) → bytes_eq (basic_umid a) (basic_umid b) ≡ true
    → a.instance_number ≡ b.instance_number
same_instance a b h =
    let same : parts_in (basic_umid a) ≡ parts_in (basic_umid b) =
    ap parts_in (bytes_same (basic_umid a) (basic_umid b) h) in
    ap (λ (u : UmidParts). u.instance_number) (sym (parts_in-basic_umid a) ∙ same ∙ parts_in-basic_umid b)

-- an offer that has what its clip has
copied : (plan : PlanRow) (b c : ℕ) (o : Offer) (k : Clip) → is_copy plan o k ≡ true → (o.grantee == c) ≡ true
    → (k.n == o.clip) ≡ true
    → (nat_lt 0 k.n && nat_le k.n 20000) ≡ true → is_clip_range plan k.src_first k.frames ≡ true
    → is_clip_lent_to c (grant_by b o) ≡ true
unfolding is_copy
copied plan b c o k copy to named number range =
    let umid : bytes_eq (basic_umid o.umid) (basic_umid (granted_umid k.umid o.grantee)) ≡ true = grind (arith, copy) in
    let rate : is_same_rate o.rate plan.rate ≡ true = grind (arith, copy) in
    let first : (o.src_first == k.src_first) ≡ true = grind (arith, copy) in
    let frames : (o.frames == k.frames) ≡ true = grind (arith, copy) in
    let first_is : o.src_first ≡ k.src_first = grind (arith, nat_tests, first) in
    let frames_is : o.frames ≡ k.frames = grind (arith, nat_tests, frames) in
    let clip_is : k.n ≡ o.clip = grind (arith, nat_tests, named) in
    let grantee_is : o.grantee ≡ c = grind (arith, nat_tests, to) in
    let instance : o.umid.instance_number ≡ c =
    same_instance o.umid (granted_umid k.umid o.grantee) umid ∙ grantee_is in
    let day : day_length o.rate ≡ day_length plan.rate = ap day_length (rate_is o.rate plan.rate rate) in
    let one : (nat_lt 0 o.clip && nat_le o.clip 20000) ≡ true =
    subst (λ n. (nat_lt 0 n && nat_le n 20000) ≡ true) clip_is number in
    let two : (o.umid.instance_number == c) ≡ true = grind (arith, nat_tests, instance) in
    let three : (nat_lt 0 o.frames && nat_le (o.src_first + o.frames) (day_length o.rate)) ≡ true =
    subst (λ n. (nat_lt 0 o.frames && nat_le (o.src_first + o.frames) n) ≡ true) (sym day)
    (subst (λ n. (nat_lt 0 n && nat_le (o.src_first + n) (day_length plan.rate)) ≡ true) (sym frames_is)
    (subst (λ n. (nat_lt 0 k.frames && nat_le (n + k.frames) (day_length plan.rate)) ≡ true) (sym first_is) range)) in
    grind (arith, one, two, three)

of_found : (plan : PlanRow) (tapes b c : ℕ) (ks : List Clip) (o : Offer) (x : Option Clip)
    → find (λ k. k.n == o.clip) ks ≡ x → matches_clip plan o x ≡ true → (o.grantee == c) ≡ true
    → list_all (is_clip plan tapes) ks ≡ true → list_all (λ k. nat_lt 0 k.n && nat_le k.n 20000) ks ≡ true
    → is_clip_lent_to c (grant_by b o) ≡ true
of_found plan tapes b c ks o None found copy to fields numbers = absurd (cc)
of_found plan tapes b c ks o (Some k) found copy to fields numbers =
    let one = found_one (λ (k : Clip). k.n == o.clip) (is_clip plan tapes) ks k found fields in
    let two =
    found_one (λ (k : Clip). k.n == o.clip) (λ (k : Clip). nat_lt 0 k.n && nat_le k.n 20000) ks k found numbers in
    copied plan b c o k copy to one.0 two.1 (grind (arith, one.1))

-- one of each offer's own
clip_of : (plan : PlanRow) (tapes b c : ℕ) (ks : List Clip) → list_all (is_clip plan tapes) ks ≡ true
    → list_all (λ k. nat_lt 0 k.n && nat_le k.n 20000) ks ≡ true
    → (o : Offer) → is_offer plan ks o ≡ true → (not (o.grantee == c) || is_clip_lent_to c (grant_by b o)) ≡ true
clip_of plan tapes b c ks fields numbers o h =
    let copy : matches_clip plan o (find (λ k. k.n == o.clip) ks) ≡ true = grind (arith, h) in
    elim (o.grantee == c) as (λ t. (o.grantee == c) ≡ t → (not t || is_clip_lent_to c (grant_by b o)) ≡ true) [
      | true ↦ λ to. of_found plan tapes b c ks o (find (λ k. k.n == o.clip) ks) refl copy to fields numbers
      | false ↦ λ to. refl
    ] refl

lent_one : (plan : PlanRow) (c : ℕ) (ks : List Clip) → (nat_lt 0 plan.ch && nat_le plan.ch 999) ≡ true
    → (o : Offer) → is_offer plan ks o ≡ true → (nat_lt 0 o.n && nat_le o.n 9999) ≡ true
    → (not (o.grantee == c) || is_lent_to c (grant_by plan.ch o)) ≡ true
lent_one plan c ks owner o h number =
    let other : (o.grantee == plan.ch) ≡ false = grind (arith, h) in
    elim (o.grantee == c) as (λ t. (o.grantee == c) ≡ t → (not t || is_lent_to c (grant_by plan.ch o)) ≡ true) [
      | true ↦ λ to.
          let is : o.grantee ≡ c = grind (arith, nat_tests, to) in
          let apart : (plan.ch == c) ≡ false = grind (arith, nat_tests, other, is) in
          grind (arith, to, owner, apart, number)
      | false ↦ λ to. refl
    ] refl

-- in the order of their numbers
first_behind : (b c : ℕ) (u : Offer) (os : List Offer) (m : ℕ) → u.n < m → is_numbered_from (λ o. o.n) m os ≡ true
    → is_before_first (grant_by b u) (lent b c os) ≡ true
first_behind b c u [] m lt h = refl
first_behind b c u (o ∷ os) m lt h =
    let parts = and_parts (o.n == m) (is_numbered_from (λ o. o.n) (m + 1) os) h in
    let is : o.n ≡ m = grind (arith, nat_tests, parts.0) in
    let later : nat_lt u.n o.n ≡ true = grind (arith, nat_tests, is, lt) in
    let same : (b == b) ≡ true = grind (arith, nat_tests) in
    elim (o.grantee == c)
    as (λ t. is_before_first (grant_by b u)
    (map (grant_by b) (if t then o ∷ filter (λ o. o.grantee == c) os else filter (λ o. o.grantee == c) os))
    ≡ true) [
      | true ↦ grind (arith, later, same)
      | false ↦ first_behind b c u os (m + 1) (omega (arith, lt)) parts.1
    ]

lent_in_order : (b c : ℕ) (os : List Offer) (m : ℕ) → is_numbered_from (λ o. o.n) m os ≡ true
    → are_in_order (lent b c os) ≡ true
lent_in_order b c [] m h = refl
lent_in_order b c (o ∷ os) m h =
    let parts = and_parts (o.n == m) (is_numbered_from (λ o. o.n) (m + 1) os) h in
    let is : o.n ≡ m = grind (arith, nat_tests, parts.0) in
    let rest = lent_in_order b c os (m + 1) parts.1 in
    elim (o.grantee == c)
    as (λ t. are_in_order
    (map (grant_by b) (if t then o ∷ filter (λ o. o.grantee == c) os else filter (λ o. o.grantee == c) os))
    ≡ true) [
      | true ↦ ap (λ x. x && are_in_order (lent b c os)) (first_behind b c o os (m + 1) (omega (arith, is)) parts.1)
          ∙ rest
      | false ↦ rest
    ]

-- and no two that are open of one clip
none_after_withdrawn : (g : Grant) (gs : List Grant) → g.offer.withdrawn ≡ true → list_any (lend_the_same g) gs ≡ false
none_after_withdrawn g [] off = refl
none_after_withdrawn g (h ∷ gs) off =
    ap
    (λ w. (not w && not h.offer.withdrawn && (g.owner == h.owner && g.offer.clip == h.offer.clip))
    || list_any (lend_the_same g) gs) off ∙ none_after_withdrawn g gs off

or_parts : (a d : Bool) → (a || d) ≡ false → (a ≡ false) × (d ≡ false)
or_parts true d e = absurd (cc)
or_parts false d e = (refl, e)

none_after : (b c : ℕ) (o : Offer) (os : List Offer) → (o.grantee == c) ≡ true
    → list_any (is_same_grant (o.clip, o.grantee)) (open_grants os) ≡ false
    → list_any (lend_the_same (grant_by b o)) (lent b c os) ≡ false
none_after b c o [] to h = refl
none_after b c o (u ∷ os) to h =
    elim (u.grantee == c)
    as (λ t. (u.grantee == c) ≡ t
    → list_any (lend_the_same (grant_by b o))
    (map (grant_by b) (if t then u ∷ filter (λ u. u.grantee == c) os else filter (λ u. u.grantee == c) os))
    ≡ false) [
      | true ↦ λ here.
          elim u.withdrawn
          as (λ w. list_any (is_same_grant (o.clip, o.grantee))
          (cons_option (if w then None else Some (u.clip, u.grantee)) (open_grants os)) ≡ false
          → ((not o.withdrawn && not w && (b == b && o.clip == u.clip))
          || list_any (lend_the_same (grant_by b o)) (lent b c os)) ≡ false) [
            | true ↦ λ e. let rest = none_after b c o os to e in grind (arith, rest)
            | false ↦ λ e.
                let parts =
                or_parts (is_same_grant (o.clip, o.grantee) (u.clip, u.grantee))
                (list_any (is_same_grant (o.clip, o.grantee)) (open_grants os)) e in
                let grantees : (o.grantee == u.grantee) ≡ true = grind (arith, nat_tests, to, here) in
                let clips : (o.clip == u.clip) ≡ false = grind (arith, parts.0, grantees) in
                let rest = none_after b c o os to parts.1 in
                grind (arith, clips, rest)
          ] h
      | false ↦ λ here.
          none_after b c o os to
          (elim u.withdrawn
          as (λ w. list_any (is_same_grant (o.clip, o.grantee))
          (cons_option (if w then None else Some (u.clip, u.grantee)) (open_grants os)) ≡ false
          → list_any (is_same_grant (o.clip, o.grantee)) (open_grants os) ≡ false) [
            | true ↦ λ e. e
            | false ↦ λ e.
                (or_parts (is_same_grant (o.clip, o.grantee) (u.clip, u.grantee))
                (list_any (is_same_grant (o.clip, o.grantee)) (open_grants os)) e).1
          ] h)
    ] refl

not_true : (x : Bool) → not x ≡ true → x ≡ false
not_true true h = absurd (cc)
not_true false h = refl

lent_apart : (b c : ℕ) (os : List Offer) → are_apart is_same_grant (open_grants os) ≡ true
    → are_apart lend_the_same (lent b c os) ≡ true
lent_apart b c [] h = refl
lent_apart b c (o ∷ os) h =
    let rest_of : are_apart is_same_grant (open_grants os) ≡ true =
    elim o.withdrawn
    as (λ w. are_apart is_same_grant (cons_option (if w then None else Some (o.clip, o.grantee)) (open_grants os))
    ≡ true → are_apart is_same_grant (open_grants os) ≡ true) [
      | true ↦ λ e. e
      | false ↦ λ e.
          (and_parts (not (list_any (is_same_grant (o.clip, o.grantee)) (open_grants os)))
          (are_apart is_same_grant (open_grants os)) e).1
    ] h in
    let rest = lent_apart b c os rest_of in
    elim (o.grantee == c)
    as (λ t. (o.grantee == c) ≡ t
    → are_apart lend_the_same
    (map (grant_by b) (if t then o ∷ filter (λ o. o.grantee == c) os else filter (λ o. o.grantee == c) os))
    ≡ true) [
      | true ↦ λ to.
          let none : list_any (lend_the_same (grant_by b o)) (lent b c os) ≡ false =
          elim o.withdrawn
          as (λ w. o.withdrawn ≡ w
          → are_apart is_same_grant (cons_option (if w then None else Some (o.clip, o.grantee)) (open_grants os))
          ≡ true → list_any (lend_the_same (grant_by b o)) (lent b c os) ≡ false) [
            | true ↦ λ off e. none_after_withdrawn (grant_by b o) (lent b c os) off
            | false ↦ λ on e. none_after b c o os to
                (not_true (list_any (is_same_grant (o.clip, o.grantee)) (open_grants os))
                (and_parts (not (list_any (is_same_grant (o.clip, o.grantee)) (open_grants os)))
                (are_apart is_same_grant (open_grants os)) e).0)
          ] refl h in
          ap (λ x. not x && are_apart lend_the_same (lent b c os)) none ∙ rest
      | false ↦ λ to. rest
    ] refl

-- no two clash of grants that all have what rules it out
apart_by : (clash : Grant → Grant → Bool) (p : Grant → Bool)
    → ((g h : Grant) → p g ≡ true → p h ≡ true → clash g h ≡ false) → (gs : List Grant) → list_all p gs ≡ true
    → are_apart clash gs ≡ true
apart_by clash p none [] all = refl
apart_by clash p none (g ∷ gs) all =
    let parts = and_parts (p g) (list_all p gs) all in
    ap (λ b. not b && are_apart clash gs) (none_behind gs parts.1) ∙ apart_by clash p none gs parts.1
  where
    none_behind : (hs : List Grant) → list_all p hs ≡ true → list_any (clash g) hs ≡ false
    none_behind [] every = refl
    none_behind (h ∷ hs) every =
        let these = and_parts (p h) (list_all p hs) every in
        ap (λ b. b || list_any (clash g) hs) (none g h (and_parts (p g) (list_all p gs) all).0 these.0)
        ∙ none_behind hs these.1

-- copies of one clip to one grantee are one copy, at the owner's rate
copy_rate : (plan : PlanRow) (o : Offer) (x : Option Clip) → matches_clip plan o x ≡ true
    → is_same_rate o.rate plan.rate ≡ true
unfolding is_copy
copy_rate plan o None h = absurd (cc)
copy_rate plan o (Some k) h = grind (arith, h)

bytes_one : (xs ys zs : List ℕ) → bytes_eq xs zs ≡ true → bytes_eq ys zs ≡ true → bytes_eq xs ys ≡ true
bytes_one xs ys zs a b = (bytes_eq-Decides xs ys).1 (bytes_same xs zs a ∙ sym (bytes_same ys zs b))

rate_one : (a b c : Rate) → is_same_rate a c ≡ true → is_same_rate b c ≡ true → is_same_rate a b ≡ true
rate_one a b c first second =
    subst (λ r. is_same_rate a r ≡ true) (rate_is a c first ∙ sym (rate_is b c second)) (rate_same a)

number_one : (x y z : ℕ) → (x == z) ≡ true → (y == z) ≡ true → (x == y) ≡ true
number_one x y z a b = grind (arith, nat_tests, a, b)

-- what an offer to this grantee has of its clip
abbrev copies_to : PlanRow → List Clip → ℕ → Grant → Bool
copies_to plan ks c g = matches_clip plan g.offer (find (λ k. k.n == g.offer.clip) ks) && g.offer.grantee == c

one_rate : (plan : PlanRow) (ks : List Clip) (c : ℕ) (g h : Grant) → copies_to plan ks c g ≡ true
    → copies_to plan ks c h ≡ true → differ_in_rate g h ≡ false
one_rate plan ks c g h gs hs =
    let g_parts =
    and_parts (matches_clip plan g.offer (find (λ k. k.n == g.offer.clip) ks)) (g.offer.grantee == c) gs in
    let h_parts =
    and_parts (matches_clip plan h.offer (find (λ k. k.n == h.offer.clip) ks)) (h.offer.grantee == c) hs in
    let same =
    rate_one g.offer.rate h.offer.rate plan.rate
    (copy_rate plan g.offer _ g_parts.0) (copy_rate plan h.offer _ h_parts.0) in
    ap (λ b. g.owner == h.owner && not b) same ∙ and_false (g.owner == h.owner)
  where
    and_false : (b : Bool) → (b && false) ≡ false
    and_false true = refl
    and_false false = refl

-- what a copy of a clip to a grantee has of it
record OfClip (o : Offer) (k : Clip) (to : ℕ) : Type 0 where
  title : bytes_eq o.title k.title ≡ true
  umid : bytes_eq (basic_umid o.umid) (basic_umid (granted_umid k.umid to)) ≡ true
  first : (o.src_first == k.src_first) ≡ true
  frames : (o.frames == k.frames) ≡ true

of_clip : (plan : PlanRow) (o : Offer) (k : Clip) → is_copy plan o k ≡ true → OfClip o k o.grantee
unfolding is_copy
of_clip plan o k copy =
    record {
      title = grind (arith, copy);
      umid = grind (arith, copy);
      first = grind (arith, copy);
      frames =
          grind (arith, copy);
    }

four : (a b c d : Bool) → a ≡ true → b ≡ true → c ≡ true → d ≡ true → (a && b && (c && d)) ≡ true
four a b c d e f g h = grind (arith, e, f, g, h)

of_one_clip : (o p : Offer) (k : Clip) (to : ℕ) → OfClip o k to → OfClip p k to → is_same_copy o p ≡ true
unfolding is_same_copy
of_one_clip o p k to a b =
    four (bytes_eq o.title p.title) (bytes_eq (basic_umid o.umid) (basic_umid p.umid)) (o.src_first == p.src_first)
    (o.frames == p.frames)
    (bytes_one o.title p.title k.title a.title b.title)
    (bytes_one (basic_umid o.umid) (basic_umid p.umid) (basic_umid (granted_umid k.umid to)) a.umid b.umid)
    (number_one o.src_first p.src_first k.src_first a.first b.first)
    (number_one o.frames p.frames k.frames a.frames b.frames)

same_copies : (plan : PlanRow) (o p : Offer) (x : Option Clip) → o.grantee ≡ p.grantee → matches_clip plan o x ≡ true
    → matches_clip plan p x ≡ true → is_same_copy o p ≡ true
same_copies plan o p None to a b = absurd (cc)
same_copies plan o p (Some k) to a b =
    of_one_clip o p k p.grantee (subst (OfClip o k) to (of_clip plan o k a)) (of_clip plan p k b)

one_copy : (plan : PlanRow) (ks : List Clip) (c : ℕ) (g h : Grant) → copies_to plan ks c g ≡ true
    → copies_to plan ks c h ≡ true → differ_as_copies g h ≡ false
one_copy plan ks c g h gs hs =
    let g_parts =
    and_parts (matches_clip plan g.offer (find (λ k. k.n == g.offer.clip) ks)) (g.offer.grantee == c) gs in
    let h_parts =
    and_parts (matches_clip plan h.offer (find (λ k. k.n == h.offer.clip) ks)) (h.offer.grantee == c) hs in
    elim (g.offer.clip == h.offer.clip)
    as (λ b. (g.offer.clip == h.offer.clip) ≡ b
    → ((g.owner == h.owner && b) && not (is_same_copy g.offer h.offer)) ≡ false) [
      | true ↦ λ e.
          let clip : g.offer.clip ≡ h.offer.clip = grind (arith, nat_tests, e) in
          let to : g.offer.grantee ≡ h.offer.grantee = grind (arith, nat_tests, g_parts.1, h_parts.1) in
          let of_h = subst (λ n. matches_clip plan h.offer (find (λ k. k.n == n) ks) ≡ true) (sym clip) h_parts.0 in
          let same = same_copies plan g.offer h.offer (find (λ k. k.n == g.offer.clip) ks) to g_parts.0 of_h in
          ap (λ b. (g.owner == h.owner && true) && not b) same ∙ and_false (g.owner == h.owner && true)
      | false ↦ λ e. none (g.owner == h.owner) (not (is_same_copy g.offer h.offer))
    ] refl
  where
    and_false : (b : Bool) → (b && false) ≡ false
    and_false true = refl
    and_false false = refl

    none : (a d : Bool) → ((a && false) && d) ≡ false
    none true d = refl
    none false d = refl

copies_one : (plan : PlanRow) (c : ℕ) (ks : List Clip) (b : ℕ) (o : Offer) → is_offer plan ks o ≡ true
    → (not (o.grantee == c) || copies_to plan ks c (grant_by b o)) ≡ true
copies_one plan c ks b o h =
    let copy : matches_clip plan o (find (λ k. k.n == o.clip) ks) ≡ true =
    (and_parts (is_grantee plan o.grantee) (matches_clip plan o (find (λ k. k.n == o.clip) ks)) h).1 in
    elim (o.grantee == c) as (λ t. (not t || (matches_clip plan o (find (λ k. k.n == o.clip) ks) && t)) ≡ true) [
      | true ↦ ap (λ r. r && true) copy
      | false ↦ refl
    ]

pub own_lent : (own : Own) (c : ℕ) → KeepsOwnRules own → KeepsLentRules c (lent_by own c)
own_lent own c rules =
    let plan = own.plan in
    let b = plan.ch in
    let few_clips : length own.clips ≤ 20000 = grind (arith, nat_tests, rules.clips.at_most) in
    let few : length own.offers ≤ 9999 = grind (arith, nat_tests, rules.offers.at_most) in
    let clip_numbers =
    numbers_within (λ (k : Clip). k.n) 20000 own.clips 1 rules.clips.numbers (lit< tt) (omega (arith, few_clips)) in
    let numbers =
    numbers_within (λ (o : Offer). o.n) 9999 own.offers 1 rules.offers.numbers (lit< tt) (omega (arith, few)) in
    let owner : (nat_lt 0 b && nat_le b 999) ≡ true = grind (arith, rules.plan) in
    let copied_all = kept (copies_to plan own.clips c) b c own.offers
    (all_both (is_offer plan own.clips) (is_offer plan own.clips)
    (λ (o : Offer). not (o.grantee == c) || copies_to plan own.clips c (grant_by b o))
    (λ o h again. copies_one plan c own.clips b o h) own.offers rules.offers.fields rules.offers.fields) in
    record {
      fields = kept (is_lent_to c) b c own.offers
          (all_both (is_offer plan own.clips) (λ (o : Offer). nat_lt 0 o.n && nat_le o.n 9999)
          (λ (o : Offer). not (o.grantee == c) || is_lent_to c (grant_by b o)) (lent_one plan c own.clips owner)
          own.offers rules.offers.fields numbers);
      clips = kept (is_clip_lent_to c) b c own.offers
          (all_both (is_offer plan own.clips) (is_offer plan own.clips)
          (λ (o : Offer). not (o.grantee == c) || is_clip_lent_to c (grant_by b o))
          (λ o h again. clip_of plan (length own.tapes) b c own.clips rules.clips.fields clip_numbers o h)
          own.offers rules.offers.fields rules.offers.fields);
      order = lent_in_order b c own.offers 1 rules.offers.numbers;
      apart = lent_apart b c own.offers rules.offers.grants;
      rates =
          apart_by differ_in_rate (copies_to plan own.clips c) (one_rate plan own.clips c) (lent_by own c) copied_all;
      copies =
          apart_by differ_as_copies (copies_to plan own.clips c) (one_copy plan own.clips c) (lent_by own c) copied_all;
    }

-- grants behind those of owners that come before theirs
first_of_both : (g : Grant) (gs hs : List Grant) → is_before_first g gs ≡ true
    → list_all (λ h. nat_lt g.owner h.owner) hs ≡ true → is_before_first g (gs ++ hs) ≡ true
first_of_both g [] [] first before = refl
first_of_both g [] (h ∷ hs) first before =
    let parts = and_parts (nat_lt g.owner h.owner) (list_all (λ h. nat_lt g.owner h.owner) hs) before in
    grind (arith, parts.0)
first_of_both g (k ∷ gs) hs first before = first

both_in_order : (gs hs : List Grant) → are_in_order gs ≡ true → are_in_order hs ≡ true → owners_before gs hs ≡ true
    → are_in_order (gs ++ hs) ≡ true
both_in_order [] hs front back before = back
both_in_order (g ∷ gs) hs front back before =
    let fronts = and_parts (is_before_first g gs) (are_in_order gs) front in
    let befores = and_parts (list_all (λ h. nat_lt g.owner h.owner) hs) (owners_before gs hs) before in
    ap (λ b. b && are_in_order (gs ++ hs)) (first_of_both g gs hs fronts.0 befores.0)
    ∙ both_in_order gs hs fronts.1 back befores.1

-- a test that no two grants of different owners pass
module _ (clash : Grant → Grant → Bool) (others_pass : (g h : Grant) → (g.owner == h.owner) ≡ false → clash g h ≡ false)
  where
    none_of_others : (g : Grant) (hs : List Grant) → list_all (λ h. nat_lt g.owner h.owner) hs ≡ true
        → list_any (clash g) hs ≡ false
    none_of_others g [] before = refl
    none_of_others g (h ∷ hs) before =
        let parts = and_parts (nat_lt g.owner h.owner) (list_all (λ h. nat_lt g.owner h.owner) hs) before in
        let other : (g.owner == h.owner) ≡ false = grind (arith, nat_tests, parts.0) in
        ap (λ b. b || list_any (clash g) hs) (others_pass g h other) ∙ none_of_others g hs parts.1

    both_apart : (gs hs : List Grant) → are_apart clash gs ≡ true → are_apart clash hs ≡ true
        → owners_before gs hs ≡ true
        → are_apart clash (gs ++ hs) ≡ true
    both_apart [] hs front back before = back
    both_apart (g ∷ gs) hs front back before =
        let fronts = and_parts (not (list_any (clash g) gs)) (are_apart clash gs) front in
        let befores = and_parts (list_all (λ h. nat_lt g.owner h.owner) hs) (owners_before gs hs) before in
        let none = not_true (list_any (clash g) gs) fronts.0 in
        let none_behind = none_of_others g hs befores.0 in
        let all : list_any (clash g) (gs ++ hs) ≡ false =
        list_any-append (clash g) gs hs ∙ grind (arith, none, none_behind) in
        ap (λ b. not b && are_apart clash (gs ++ hs)) all ∙ both_apart gs hs fronts.1 back befores.1

others_not_same : (g h : Grant) → (g.owner == h.owner) ≡ false → lend_the_same g h ≡ false
others_not_same g h other = grind (arith, other)

others_any_rate : (g h : Grant) → (g.owner == h.owner) ≡ false → differ_in_rate g h ≡ false
others_any_rate g h other = ap (λ b. b && not (is_same_rate g.offer.rate h.offer.rate)) other

others_any_copy : (g h : Grant) → (g.owner == h.owner) ≡ false → differ_as_copies g h ≡ false
others_any_copy g h other = ap (λ b. (b && g.offer.clip == h.offer.clip) && not (is_same_copy g.offer h.offer)) other

pub both_lent : (c : ℕ) (gs hs : List Grant) → KeepsLentRules c gs → KeepsLentRules c hs → owners_before gs hs ≡ true
    → KeepsLentRules c (gs ++ hs)
both_lent c gs hs front back before = record {
  fields = list_all-append (is_lent_to c) gs hs ∙ ap (λ b. b && list_all (is_lent_to c) hs) front.fields ∙ back.fields;
  clips =
      list_all-append (is_clip_lent_to c) gs hs ∙ ap (λ b. b && list_all (is_clip_lent_to c) hs) front.clips
      ∙ back.clips;
  order = both_in_order gs hs front.order back.order before;
  apart = both_apart lend_the_same others_not_same gs hs front.apart back.apart before;
  rates = both_apart differ_in_rate others_any_rate gs hs front.rates back.rates before;
  copies = both_apart differ_as_copies others_any_copy gs hs front.copies back.copies before;
}
