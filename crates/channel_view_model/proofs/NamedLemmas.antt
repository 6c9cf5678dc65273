-- What the rows that sources name find, and what all rows find.
use Rattle.std.proofs.Common.{◌≡◌, ℕ, ◌+◌, ◌<◌, List, [], ◌∷◌, ◌++◌, length, take, get_or, Bool, true, false, ◌&&◌}
use Rattle.std.proofs.Common.{refl, sym, ◌∙◌, ap, subst, arith}
use Rattle.std.specs.Prelude.{◌==◌, find, Option, Some, None, if◌then◌else◌}
use Rattle.std.specs.List.{All, Contains, flat_map}
use Rattle.std.proofs.lemmas.Bool.Decides.{nat_tests}
use Rattle.std.proofs.lemmas.Grind.{flat_map-append}
use Rattle.std.proofs.lemmas.List.{append-nil, take_more}
use Rattle.std.proofs.lemmas.List.Elements.{All-nil, All-cons, All-append, All-weaker, All-contains_itself}
use Rattle.std.proofs.lemmas.List.Elements.{Contains-append_right}
use Rattle.vault_core.specs.declared.clip.Clip.{Clip}
use Rattle.grant_core.specs.declared.grant.Grant.{Grant}
use Rattle.playlist_core.specs.declared.source.Source.{Source}
use Rattle.playlist_core.specs.declared.source.Source.TheVariants.{Black, Bars, Own as OwnClip, Lent as LentClip}
use Rattle.playlist_core.specs.Source.{found, seen_of, of_clip, of_grant}
use Rattle.channel_view_model.specs.Need.{NamesAlike, clips_of, grants_of}

-- all rows find what all rows find
pub all_alike : (sources : List Source) (clips ks : List Clip) (grants gs : List Grant) → ks ≡ clips → gs ≡ grants
    → NamesAlike sources clips grants ks gs
all_alike sources clips ks grants gs all_clips all_grants =
    subst (λ l. NamesAlike sources clips grants l gs) (sym all_clips)
    (subst (λ l. NamesAlike sources clips grants clips l) (sym all_grants)
    (record { named = λ k d lt. refl; own = All-contains_itself clips; lent = All-contains_itself grants }))

-- what is found is one of the rows, and passes
one_of : {R : Type 0} (p : R → Bool) (rows : List R) (r : R) → find p rows ≡ Some r → Contains rows r
one_of p [] r is = absurd (cc)
one_of p (s ∷ ss) r is =
    elim (p s) as (λ b. (if b then Some s else find p ss) ≡ Some r → Contains (s ∷ ss) r) [
      | true ↦ λ here. let same : s ≡ r = cc in (0, omega arith, same)
      | false ↦ λ there. Contains-append_right (s ∷ []) ss r (one_of p ss r there)
    ] is

pub passes : {R : Type 0} (p : R → Bool) (rows : List R) (r : R) → find p rows ≡ Some r → p r ≡ true
passes p [] r is = absurd (cc)
passes p (s ∷ ss) r is =
    elim (p s) as (λ b. p s ≡ b → (if b then Some s else find p ss) ≡ Some r → p r ≡ true) [
      | true ↦ λ here e. let same : s ≡ r = cc in subst (λ x. p x ≡ true) same here
      | false ↦ λ other e. passes p ss r e
    ] refl is

-- what one element more gives stands behind what those before it give
flat_more : {X A : Type 0} (f : X → List A) (xs : List X) (k : ℕ) (x : X) → k < length xs → x ≡ get_or xs k x
    → flat_map f (take k xs) ++ f x ≡ flat_map f (take (k + 1) xs)
flat_more f xs k x lt is =
    ap (λ l. flat_map f (take k xs) ++ l) (ap f is ∙ sym (append-nil (f (get_or xs k x))))
    ∙ sym (flat_map-append f (take k xs) (get_or xs k x ∷ [])) ∙ ap (flat_map f) (sym (take_more xs k x lt))

module _ (clips : List Clip) (grants : List Grant) where
  -- the rows that sources name, one after another
  abbrev pub clips_named : List Source → List Clip
  clips_named = flat_map (λ s. clips_of (found (seen_of clips grants) s))

  abbrev pub grants_named : List Source → List Grant
  grants_named = flat_map (λ s. grants_of (found (seen_of clips grants) s))

  -- a row in front leaves what is found behind it, where this is what all find
  own_kept : (n : ℕ) (j : Source) (ks : List Clip)
      → of_clip (find (λ k. k.n == n) ks) ≡ of_clip (find (λ k. k.n == n) clips)
      → of_clip (find (λ k. k.n == n) (clips_of (found (seen_of clips grants) j) ++ ks))
      ≡ of_clip (find (λ k. k.n == n) clips)
  own_kept n Black ks same = same
  own_kept n Bars ks same = same
  own_kept n (OwnClip m) ks same = by (find (λ k. k.n == m) clips) refl
    where
      by : (o : Option Clip) → find (λ k. k.n == m) clips ≡ o
          → of_clip (find (λ k. k.n == n) (clips_of (of_clip o) ++ ks)) ≡ of_clip (find (λ k. k.n == n) clips)
      by None is = same
      by (Some k) is =
          elim (k.n == n)
          as (λ b. (k.n == n) ≡ b
          → of_clip (if b then Some k else find (λ x. x.n == n) ks) ≡ of_clip (find (λ x. x.n == n) clips)) [
            | true ↦ λ here.
                let its = passes (λ (x : Clip). x.n == m) clips k is in
                let number : m ≡ n = grind (arith, nat_tests, here, its) in
                ap of_clip (sym (subst (λ a. find (λ x. x.n == a) clips ≡ Some k) number is))
            | false ↦ λ other. same
          ] refl
  own_kept n (LentClip owner m) ks same = by (find (λ g. g.owner == owner && g.offer.n == m) grants)
    where
      by : (o : Option Grant)
          → of_clip (find (λ k. k.n == n) (clips_of (of_grant o) ++ ks)) ≡ of_clip (find (λ k. k.n == n) clips)
      by None = same
      by (Some g) = same

  lent_kept : (owner n : ℕ) (j : Source) (gs : List Grant)
      → of_grant (find (λ g. g.owner == owner && g.offer.n == n) gs)
      ≡ of_grant (find (λ g. g.owner == owner && g.offer.n == n) grants)
      → of_grant
      (find (λ g. g.owner == owner && g.offer.n == n) (grants_of (found (seen_of clips grants) j) ++ gs))
      ≡ of_grant (find (λ g. g.owner == owner && g.offer.n == n) grants)
  lent_kept owner n Black gs same = same
  lent_kept owner n Bars gs same = same
  lent_kept owner n (OwnClip m) gs same = by (find (λ k. k.n == m) clips)
    where
      by : (o : Option Clip)
          → of_grant (find (λ g. g.owner == owner && g.offer.n == n) (grants_of (of_clip o) ++ gs))
          ≡ of_grant (find (λ g. g.owner == owner && g.offer.n == n) grants)
      by None = same
      by (Some k) = same
  lent_kept owner n (LentClip lender m) gs same = by (find (λ g. g.owner == lender && g.offer.n == m) grants) refl
    where
      by : (o : Option Grant) → find (λ g. g.owner == lender && g.offer.n == m) grants ≡ o
          → of_grant (find (λ g. g.owner == owner && g.offer.n == n) (grants_of (of_grant o) ++ gs))
          ≡ of_grant (find (λ g. g.owner == owner && g.offer.n == n) grants)
      by None is = same
      by (Some g) is =
          elim (g.owner == owner && g.offer.n == n)
          as (λ b. (g.owner == owner && g.offer.n == n) ≡ b
          → of_grant (if b then Some g else find (λ x. x.owner == owner && x.offer.n == n) gs)
          ≡ of_grant (find (λ x. x.owner == owner && x.offer.n == n) grants)) [
            | true ↦ λ here.
                let its = passes (λ (x : Grant). x.owner == lender && x.offer.n == m) grants g is in
                let same_owner : lender ≡ owner = grind (arith, nat_tests, here, its) in
                let number : m ≡ n = grind (arith, nat_tests, here, its) in
                ap of_grant
                (sym
                (subst (λ a. find (λ x. x.owner == owner && x.offer.n == a) grants ≡ Some g) number
                (subst (λ a. find (λ x. x.owner == a && x.offer.n == m) grants ≡ Some g) same_owner is)))
            | false ↦ λ other. same
          ] refl

  kept : (s j : Source) (ks : List Clip) (gs : List Grant) → found (seen_of ks gs) s ≡ found (seen_of clips grants) s
      → found
      (seen_of (clips_of (found (seen_of clips grants) j) ++ ks) (grants_of (found (seen_of clips grants) j) ++ gs)) s
      ≡ found (seen_of clips grants) s
  kept Black j ks gs same = refl
  kept Bars j ks gs same = refl
  kept (OwnClip n) j ks gs same = own_kept n j ks same
  kept (LentClip owner n) j ks gs same = lent_kept owner n j gs same

  -- where all find nothing, the rows of sources find nothing
  nothing_found : (s : Source) → found (seen_of [] []) s ≡ None
  nothing_found Black = refl
  nothing_found Bars = refl
  nothing_found (OwnClip n) = refl
  nothing_found (LentClip owner n) = refl

  none_named : (s : Source) (sources : List Source) → found (seen_of clips grants) s ≡ None
      → found (seen_of (clips_named sources) (grants_named sources)) s ≡ found (seen_of clips grants) s
  none_named s [] none = nothing_found s ∙ sym none
  none_named s (j ∷ js) none = kept s j (clips_named js) (grants_named js) (none_named s js none)

  -- the row that a source names, in front of those of others, is found
  own_here : (n : ℕ) (ks : List Clip)
      → (of_clip (find (λ k. k.n == n) clips) ≡ None → of_clip (find (λ k. k.n == n) ks) ≡ None)
      → of_clip (find (λ k. k.n == n) (clips_of (of_clip (find (λ k. k.n == n) clips)) ++ ks))
      ≡ of_clip (find (λ k. k.n == n) clips)
  own_here n ks none = by (find (λ k. k.n == n) clips) refl
    where
      by : (o : Option Clip) → find (λ k. k.n == n) clips ≡ o
          → of_clip (find (λ k. k.n == n) (clips_of (of_clip o) ++ ks)) ≡ of_clip o
      by None is = none (ap of_clip is)
      by (Some k) is =
          ap (λ b. of_clip (if b then Some k else find (λ x. x.n == n) ks))
          (passes (λ (x : Clip). x.n == n) clips k is)

  lent_here : (owner n : ℕ) (gs : List Grant)
      → (of_grant (find (λ g. g.owner == owner && g.offer.n == n) grants) ≡ None
      → of_grant (find (λ g. g.owner == owner && g.offer.n == n) gs) ≡ None)
      → of_grant
      (find (λ g. g.owner == owner && g.offer.n == n)
      (grants_of (of_grant (find (λ g. g.owner == owner && g.offer.n == n) grants)) ++ gs))
      ≡ of_grant (find (λ g. g.owner == owner && g.offer.n == n) grants)
  lent_here owner n gs none = by (find (λ g. g.owner == owner && g.offer.n == n) grants) refl
    where
      by : (o : Option Grant) → find (λ g. g.owner == owner && g.offer.n == n) grants ≡ o
          → of_grant (find (λ g. g.owner == owner && g.offer.n == n) (grants_of (of_grant o) ++ gs)) ≡ of_grant o
      by None is = none (ap of_grant is)
      by (Some g) is =
          ap (λ b. of_grant (if b then Some g else find (λ x. x.owner == owner && x.offer.n == n) gs))
          (passes (λ (x : Grant). x.owner == owner && x.offer.n == n) grants g is)

  here : (s : Source) (js : List Source)
      → found
      (seen_of (clips_of (found (seen_of clips grants) s) ++ clips_named js)
      (grants_of (found (seen_of clips grants) s) ++ grants_named js)) s
      ≡ found (seen_of clips grants) s
  here Black js = refl
  here Bars js = refl
  here (OwnClip n) js = own_here n (clips_named js) (λ none. none_named (OwnClip n) js none ∙ none)
  here (LentClip owner n) js =
      lent_here owner n (grants_named js) (λ none. none_named (LentClip owner n) js none ∙ none)

  each_named : (sources : List Source)
      → All (λ s. found (seen_of (clips_named sources) (grants_named sources)) s ≡ found (seen_of clips grants) s)
      sources
  each_named [] = All-nil (λ (s : Source). found (seen_of [] []) s ≡ found (seen_of clips grants) s)
  each_named (j ∷ js) =
      All-cons (λ s. found (seen_of (clips_named (j ∷ js)) (grants_named (j ∷ js))) s ≡ found (seen_of clips grants) s)
      j js (here j js)
      (All-weaker (λ s. found (seen_of (clips_named js) (grants_named js)) s ≡ found (seen_of clips grants) s)
      (λ s. found (seen_of (clips_named (j ∷ js)) (grants_named (j ∷ js))) s ≡ found (seen_of clips grants) s)
      (λ s same. kept s j (clips_named js) (grants_named js) same) js (each_named js))

  -- and each of them is one of all
  clip_seen : (s : Source) → All (Contains clips) (clips_of (found (seen_of clips grants) s))
  clip_seen Black = All-nil (Contains clips)
  clip_seen Bars = All-nil (Contains clips)
  clip_seen (OwnClip n) = by (find (λ k. k.n == n) clips) refl
    where
      by : (o : Option Clip) → find (λ k. k.n == n) clips ≡ o → All (Contains clips) (clips_of (of_clip o))
      by None is = All-nil (Contains clips)
      by (Some k) is =
          All-cons (Contains clips) k [] (one_of (λ (x : Clip). x.n == n) clips k is) (All-nil (Contains clips))
  clip_seen (LentClip owner n) = by (find (λ g. g.owner == owner && g.offer.n == n) grants)
    where
      by : (o : Option Grant) → All (Contains clips) (clips_of (of_grant o))
      by None = All-nil (Contains clips)
      by (Some g) = All-nil (Contains clips)

  grant_seen : (s : Source) → All (Contains grants) (grants_of (found (seen_of clips grants) s))
  grant_seen Black = All-nil (Contains grants)
  grant_seen Bars = All-nil (Contains grants)
  grant_seen (OwnClip n) = by (find (λ k. k.n == n) clips)
    where
      by : (o : Option Clip) → All (Contains grants) (grants_of (of_clip o))
      by None = All-nil (Contains grants)
      by (Some k) = All-nil (Contains grants)
  grant_seen (LentClip owner n) = by (find (λ g. g.owner == owner && g.offer.n == n) grants) refl
    where
      by : (o : Option Grant) → find (λ g. g.owner == owner && g.offer.n == n) grants ≡ o
          → All (Contains grants) (grants_of (of_grant o))
      by None is = All-nil (Contains grants)
      by (Some g) is =
          All-cons (Contains grants) g [] (one_of (λ (x : Grant). x.owner == owner && x.offer.n == n) grants g is)
          (All-nil (Contains grants))

  clips_seen : (sources : List Source) → All (Contains clips) (clips_named sources)
  clips_seen [] = All-nil (Contains clips)
  clips_seen (j ∷ js) =
      All-append (Contains clips) (clips_of (found (seen_of clips grants) j)) (clips_named js) (clip_seen j)
      (clips_seen js)

  grants_seen : (sources : List Source) → All (Contains grants) (grants_named sources)
  grants_seen [] = All-nil (Contains grants)
  grants_seen (j ∷ js) =
      All-append (Contains grants) (grants_of (found (seen_of clips grants) j)) (grants_named js) (grant_seen j)
      (grants_seen js)

  pub named_alike : (sources : List Source) (ks : List Clip) (gs : List Grant) → ks ≡ clips_named sources
      → gs ≡ grants_named sources → NamesAlike sources clips grants ks gs
  named_alike sources ks gs clips_are grants_are =
      subst (λ l. NamesAlike sources clips grants l gs) (sym clips_are)
      (subst (λ l. NamesAlike sources clips grants (clips_named sources) l) (sym grants_are)
      (record { named = each_named sources; own = clips_seen sources; lent = grants_seen sources }))

  -- one source more
  pub clips_more : (sources : List Source) (k : ℕ) (s : Source) (ks one : List Clip) → k < length sources
      → s ≡ get_or sources k s → ks ≡ clips_named (take k sources) → one ≡ clips_of (found (seen_of clips grants) s)
      → ks ++ one ≡ clips_named (take (k + 1) sources)
  clips_more sources k s ks one lt is front its =
      (λ j. front j ++ its j) ∙ flat_more (λ x. clips_of (found (seen_of clips grants) x)) sources k s lt is

  pub grants_more : (sources : List Source) (k : ℕ) (s : Source) (gs one : List Grant) → k < length sources
      → s ≡ get_or sources k s → gs ≡ grants_named (take k sources)
      → one ≡ grants_of (found (seen_of clips grants) s) → gs ++ one ≡ grants_named (take (k + 1) sources)
  grants_more sources k s gs one lt is front its =
      (λ j. front j ++ its j) ∙ flat_more (λ x. grants_of (found (seen_of clips grants) x)) sources k s lt is
