-- A run of requests over a store: what it served, and what a stop may leave.
use Rattle.std.proofs.Common.{◌≡◌, ◌≢◌, ◌⊎◌, inl, inr, ℕ, suc, List, [], ◌∷◌, ◌++◌, length, false, refl, sym, ◌∙◌, ap}
use Rattle.std.proofs.Common.{subst, arith}
use Rattle.std.specs.Prelude.{Option, Some, None, Contains}
use Rattle.std.proofs.lemmas.List.{length-append}
use Rattle.channel_plan.specs.declared.plan.PlanRow.{PlanRow}
use Rattle.channel_view_model.specs.declared.command.Change.{Change}
use Rattle.channel_view_model.specs.declared.command.Change.TheVariants.{Nothing, Vault, Day as OnDay}
use Rattle.channel_view_model.specs.declared.command.Change.TheVariants.{Airing as OnAiring}
use Rattle.channel_view_model.specs.declared.command.Outcome.{Outcome}
use Rattle.channel_view_model.specs.declared.command.Outcome.TheVariants.{Replied, NoChannel, Unavailable}
use Rattle.channel_view_model.specs.Decide.{decision}
use Rattle.channel_view_model.specs.Centre.{Centre, Request, plan_of, seen_by, changed, view_of, reply_at, reply_to}
use Rattle.channel_view_model.specs.Centre.{after_at, after, outcomes, after_all}
use Rattle.channel_view_model.specs.Rules.{KeepsRules}
use Rattle.channel_view_model.specs.Solo.{own_part, hears, events_of, solo_outcomes, feed, outcomes_to, replies_to}
use Rattle.channel_view_model.specs.Solo.{purge}
use Rattle.channel_view_laws.specs.Requests.{UnlessUnavailable, rows_after, is_made, changes_at, changes, stop_after}
use Rattle.channel_view_laws.specs.Runs.{kept, kept_outcomes, stop_after_all, in_doubt_after, in_doubt_after_all, MayRemain}
use Rattle.channel_view_model.proofs.ViewLemmas.{view_of-after_other}
use Rattle.channel_view_laws.proofs.RunLemmas.{alone_law, purge_law}

nothing_made : (c : ℕ) (ch : Change) (rows : Centre) → is_made ch ≡ false → changed c ch rows ≡ rows
unfolding changed
nothing_made c Nothing rows e = refl
nothing_made c (Vault put change) rows e = absurd (cc)
nothing_made c (OnDay change) rows e = absurd (cc)
nothing_made c (OnAiring airing) rows e = absurd (cc)

-- a request that changes none leaves them
unchanged_after : (rows : Centre) (r : Request) → changes rows r ≡ false → after rows r ≡ rows
unfolding changes after
unchanged_after rows r e = under (plan_of r.0 rows) e
  where
    under : (p : Option PlanRow) → changes_at p rows r ≡ false → after_at p rows r ≡ rows
    under None e = refl
    under (Some p) e = nothing_made r.0 (decision (seen_by r.0 p rows) r.1).1 rows e

no_channel_after : (rows : Centre) (r : Request) → NoChannel ≡ reply_to rows r → after rows r ≡ rows
unfolding reply_to after
no_channel_after rows r e = under (plan_of r.0 rows) e
  where
    under : (p : Option PlanRow) → NoChannel ≡ reply_at p rows r → after_at p rows r ≡ rows
    under None e = refl
    under (Some p) e = absurd (cc)

-- so many requests, and what they were answered
pub record Served (rows : Centre) (rs : List Request) (os : List Outcome) : Type 0 where
  pub count : length os ≡ length rs
  pub told : kept_outcomes os ≡ outcomes rows (kept rs os)

kept-append : (rs : List Request) (os : List Outcome) (r : Request) (o : Outcome) → length os ≡ length rs
    → kept (rs ++ r ∷ []) (os ++ o ∷ []) ≡ kept rs os ++ kept (r ∷ []) (o ∷ [])
kept-append [] [] r o e = refl
kept-append [] (p ∷ os) r o e = absurd (omega arith)
kept-append (q ∷ rs) [] r o e = absurd (omega arith)
kept-append (q ∷ rs) (Unavailable ∷ os) r o e = kept-append rs os r o (omega arith)
kept-append (q ∷ rs) (NoChannel ∷ os) r o e = ap (λ xs. q ∷ xs) (kept-append rs os r o (omega arith))
kept-append (q ∷ rs) (Replied x ∷ os) r o e = ap (λ xs. q ∷ xs) (kept-append rs os r o (omega arith))

kept_outcomes-append : (os ps : List Outcome) → kept_outcomes (os ++ ps) ≡ kept_outcomes os ++ kept_outcomes ps
kept_outcomes-append [] ps = refl
kept_outcomes-append (Unavailable ∷ os) ps = kept_outcomes-append os ps
kept_outcomes-append (NoChannel ∷ os) ps = ap (λ xs. NoChannel ∷ xs) (kept_outcomes-append os ps)
kept_outcomes-append (Replied x ∷ os) ps = ap (λ xs. Replied x ∷ xs) (kept_outcomes-append os ps)

outcomes-append : (rows : Centre) (rs ss : List Request)
    → outcomes rows (rs ++ ss) ≡ outcomes rows rs ++ outcomes (after_all rows rs) ss
outcomes-append rows [] ss = refl
outcomes-append rows (r ∷ rs) ss = ap (λ xs. reply_to rows r ∷ xs) (outcomes-append (after rows r) rs ss)

after_all-append : (rows : Centre) (rs ss : List Request) → after_all rows (rs ++ ss) ≡ after_all (after_all rows rs) ss
after_all-append rows [] ss = refl
after_all-append rows (r ∷ rs) ss = after_all-append (after rows r) rs ss

-- one more request
pub served_more : (rows : Centre) (rs : List Request) (os : List Outcome) (r : Request) (o : Outcome)
    → Served rows rs os → UnlessUnavailable o (o ≡ reply_to (after_all rows (kept rs os)) r)
    → Served rows (rs ++ r ∷ []) (os ++ o ∷ [])
served_more rows rs os r o s h =
    record {
      count = omega (arith, s.count, length-append {A = Outcome}, length-append {A = Request});
      told =
          kept_outcomes-append os (o ∷ [])
          ∙ ap (λ xs. xs ++ kept_outcomes (o ∷ [])) s.told
          ∙ ap (λ xs. outcomes rows (kept rs os) ++ xs) (one o h)
          ∙ sym (outcomes-append rows (kept rs os) (kept (r ∷ []) (o ∷ [])))
          ∙ ap (outcomes rows) (sym (kept-append rs os r o s.count));
    }
  where
    one : (o : Outcome) → UnlessUnavailable o (o ≡ reply_to (after_all rows (kept rs os)) r)
        → kept_outcomes (o ∷ []) ≡ outcomes (after_all rows (kept rs os)) (kept (r ∷ []) (o ∷ []))
    one Unavailable h = refl
    one NoChannel h = ap (λ x. x ∷ []) h
    one (Replied x) h = ap (λ x. x ∷ []) h

-- the set after one more
pub rows_more : (rows : Centre) (rs : List Request) (os : List Outcome) (r : Request) (o : Outcome)
    → length os ≡ length rs
    → rows_after (after_all rows (kept rs os)) r o ≡ after_all rows (kept (rs ++ r ∷ []) (os ++ o ∷ []))
rows_more rows rs os r o e =
    one o ∙ sym (after_all-append rows (kept rs os) (kept (r ∷ []) (o ∷ [])))
    ∙ ap (after_all rows) (sym (kept-append rs os r o e))
  where
    one : (o : Outcome)
        → rows_after (after_all rows (kept rs os)) r o
        ≡ after_all (after_all rows (kept rs os)) (kept (r ∷ []) (o ∷ []))
    one Unavailable = refl
    one NoChannel = refl
    one (Replied x) = refl

-- where one was answered, the set kept the rules
pub rules_more : (rows : Centre) (rs : List Request) (os : List Outcome) (r : Request) (o : Outcome)
    → length os ≡ length rs → (kept rs os ≡ []) ⊎ KeepsRules rows
    → UnlessUnavailable o
    (KeepsRules (after_all rows (kept rs os)) × KeepsRules (rows_after (after_all rows (kept rs os)) r o))
    → (kept (rs ++ r ∷ []) (os ++ o ∷ []) ≡ []) ⊎ KeepsRules rows
rules_more rows rs os r o e (inr rules) h = inr rules
rules_more rows rs os r Unavailable e (inl none) h =
    inl (kept-append rs os r Unavailable e ∙ ap (λ (xs : List Request). xs ++ []) none)
rules_more rows rs os r NoChannel e (inl none) h = inr (subst KeepsRules (ap (after_all rows) none) h.0)
rules_more rows rs os r (Replied x) e (inl none) h = inr (subst KeepsRules (ap (after_all rows) none) h.0)

-- what was kept, of a set that keeps the rules where something was
of_kept : (rows : Centre) (ks : List Request) (P : List Request → Type 0) → P [] → (KeepsRules rows → P ks)
    → (ks ≡ []) ⊎ KeepsRules rows → P ks
of_kept rows ks P at_none at (inl none) = subst P (sym none) at_none
of_kept rows ks P at_none at (inr rules) = at rules

pub served_alone : (rows : Centre) (rs : List Request) (os : List Outcome)
    → kept_outcomes os ≡ outcomes rows (kept rs os) → (kept rs os ≡ []) ⊎ KeepsRules rows → (c : ℕ)
    → outcomes_to c (kept rs os) (kept_outcomes os) ≡ solo_outcomes (view_of c rows) (feed c rows (kept rs os))
served_alone rows rs os told k c =
    ap (outcomes_to c (kept rs os)) told
    ∙ of_kept rows (kept rs os) (λ ks. replies_to c rows ks ≡ solo_outcomes (view_of c rows) (feed c rows ks)) refl
    (λ rules. alone_law rows rules (kept rs os) c) k

pub served_purged : (rows : Centre) (rs : List Request) (os : List Outcome)
    → kept_outcomes os ≡ outcomes rows (kept rs os) → (kept rs os ≡ []) ⊎ KeepsRules rows → (c : ℕ)
    → outcomes_to c (kept rs os) (kept_outcomes os) ≡ replies_to c rows (purge c rows (kept rs os))
served_purged rows rs os told k c =
    ap (outcomes_to c (kept rs os)) told
    ∙ of_kept rows (kept rs os) (λ ks. replies_to c rows ks ≡ replies_to c rows (purge c rows ks)) refl
    (λ rules. purge_law rows rules (kept rs os) c) k

-- what a stop may leave after one more
pub stops_more : (P Q : Centre → Type 0) (rows : Centre) (rs : List Request) (os : List Outcome) (r : Request)
    (o : Outcome) → length os ≡ length rs → ((left : Centre) → Q left → stop_after_all P rows rs os left)
    → (left : Centre) → stop_after Q (after_all rows (kept rs os)) r o left
    → stop_after_all P rows (rs ++ r ∷ []) (os ++ o ∷ []) left
stops_more P Q rows [] [] r o e before left h = at o h
  where
    at : (o : Outcome) → stop_after Q rows r o left → stop_after P rows r o left
    at Unavailable (inl q) = inl (before left q)
    at Unavailable (inr l) = inr l
    at NoChannel q = before left q
    at (Replied x) (inl l) = inl l
    at (Replied x) (inr q) = inr (q.0, before left q.1)
stops_more P Q rows [] (p ∷ os) r o e before left h = absurd (omega arith)
stops_more P Q rows (q ∷ rs) [] r o e before left h = absurd (omega arith)
stops_more P Q rows (q ∷ rs) (Unavailable ∷ os) r o e before left h =
    stops_more (stop_after P rows q Unavailable) Q rows rs os r o (omega arith) before left h
stops_more P Q rows (q ∷ rs) (NoChannel ∷ os) r o e before left h =
    stops_more (stop_after P rows q NoChannel) Q (after rows q) rs os r o (omega arith) before left h
stops_more P Q rows (q ∷ rs) (Replied x ∷ os) r o e before left h =
    stops_more (stop_after P rows q (Replied x)) Q (after rows q) rs os r o (omega arith) before left h

contains_later : (in_doubt : List Request) (r q : Request) → Contains in_doubt q → Contains (r ∷ in_doubt) q
contains_later in_doubt r q h = (suc h.0, omega (arith, h.1), h.2)

moved : (in_doubt : List Request) (rows new left : Centre) → new ≡ rows → MayRemain in_doubt rows left
    → MayRemain in_doubt new left
moved in_doubt rows new left e (inl l) = inl (l ∙ sym e)
moved in_doubt rows new left e (inr w) = inr (w.0, w.1, w.2 ∙ ap (λ m. after m w.0) (sym e))

head_of : {A : Type 0} (x y : A) (xs ys : List A) → x ∷ xs ≡ y ∷ ys → x ≡ y
head_of x y xs ys e = cc

tail_of : {A : Type 0} (x y : A) (xs ys : List A) → x ∷ xs ≡ y ∷ ys → xs ≡ ys
tail_of x y xs ys e = cc

-- what a stop may leave is the set, or that with a request done that waits
pub remains_one : (P : Centre → Type 0) (in_doubt : List Request) (rows : Centre) (r : Request) (o : Outcome)
    → UnlessUnavailable o (o ≡ reply_to rows r) → ((left : Centre) → P left → MayRemain in_doubt rows left)
    → (left : Centre) → stop_after P rows r o left
    → MayRemain (in_doubt_after in_doubt rows r o) (rows_after rows r o) left
remains_one P in_doubt rows r Unavailable answer before left (inr l) = inr (r, (0, omega arith, refl), l)
remains_one P in_doubt rows r Unavailable answer before left (inl p) = elim (before left p) [
  | inl l ↦ inl l
  | inr w ↦ inr (w.0, contains_later in_doubt r w.0 w.1, w.2)
]
remains_one P in_doubt rows r NoChannel answer before left p =
    moved in_doubt rows (after rows r) left (no_channel_after rows r answer) (before left p)
remains_one P in_doubt rows r (Replied x) answer before left (inl l) = inl l
remains_one P in_doubt rows r (Replied x) answer before left (inr p) =
    rw (p.0) (moved in_doubt rows (after rows r) left (unchanged_after rows r p.0) (before left p.1))

pub remains_all : (P : Centre → Type 0) (in_doubt : List Request) (rows : Centre) (rs : List Request)
    (os : List Outcome) → kept_outcomes os ≡ outcomes rows (kept rs os)
    → ((left : Centre) → P left → MayRemain in_doubt rows left) → (left : Centre) → stop_after_all P rows rs os left
    → MayRemain (in_doubt_after_all in_doubt rows rs os) (after_all rows (kept rs os)) left
remains_all P in_doubt rows [] os told before left h = before left h
remains_all P in_doubt rows (r ∷ rs) [] told before left h = before left h
remains_all P in_doubt rows (r ∷ rs) (Unavailable ∷ os) told before left h =
    remains_all (stop_after P rows r Unavailable) (r ∷ in_doubt) rows rs os told
    (remains_one P in_doubt rows r Unavailable tt before) left h
remains_all P in_doubt rows (r ∷ rs) (NoChannel ∷ os) told before left h =
    remains_all (stop_after P rows r NoChannel) in_doubt (after rows r) rs os (tail_of _ _ _ _ told)
    (remains_one P in_doubt rows r NoChannel (head_of _ _ _ _ told) before) left h
remains_all P in_doubt rows (r ∷ rs) (Replied x ∷ os) told before left h =
    remains_all (stop_after P rows r (Replied x)) (in_doubt_after in_doubt rows r (Replied x)) (after rows r) rs os
    (tail_of _ _ _ _ told) (remains_one P in_doubt rows r (Replied x) (head_of _ _ _ _ told) before) left h

-- What a stop may leave beside the set is one request that waits, which is nothing to c.
pub stop_unseen : (rows left : Centre) (in_doubt : List Request) → KeepsRules rows → MayRemain in_doubt rows left
    → (c : ℕ)
    → ((r : Request) → Contains in_doubt r → (r.0 ≢ c) × (events_of c r.0 (own_part (view_of r.0 rows)) r.1 ≡ []))
    → view_of c left ≡ view_of c rows
stop_unseen rows left in_doubt rules (inl same) c unseen = ap (view_of c) same
stop_unseen rows left in_doubt rules (inr (r, waits, done)) c unseen =
    let nothing = unseen r waits in
    ap (view_of c) done ∙ view_of-after_other c r.0 r.1 rows rules nothing.0
    ∙ ap (λ es. hears es (view_of c rows)) nothing.1
