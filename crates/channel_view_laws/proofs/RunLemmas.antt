-- The two laws, over whole runs. Nothing here looks into a decision or a view, and of changes only at what they are to
-- others.
use Rattle.std.proofs.Common.{◌≡◌, ◌≢◌, ℕ, List, [], ◌∷◌, ◌++◌, Bool, true, false, ◌&&◌, ◌||◌, cond, refl, sym, ◌∙◌, ap}
use Rattle.std.proofs.Common.{arith}
use Rattle.std.specs.Prelude.{filter, ◌==◌, Option, Some, None, if◌then◌else◌}
use Rattle.std.specs.List.{list_any}
use Rattle.std.proofs.lemmas.Bool.Decides.{nat_tests}
use Rattle.std.proofs.lemmas.List.Folds.{list_any-append}
use Rattle.vault_core.specs.declared.offer.Offer.{Offer}
use Rattle.vault_core.specs.Own.{Own}
use Rattle.channel_view_model.specs.declared.view.View.{View}
use Rattle.channel_view_model.specs.declared.command.Command.{Command}
use Rattle.channel_view_model.specs.declared.command.Change.{Change}
use Rattle.channel_view_model.specs.declared.command.Change.TheVariants.{Nothing, Vault as OnVault, Day as OnDay}
use Rattle.channel_view_model.specs.declared.command.Change.TheVariants.{Airing as OnAiring}
use Rattle.channel_view_model.specs.declared.command.VaultChange.TheVariants.{Tape as TapeRow, Clip as ClipRow}
use Rattle.channel_view_model.specs.declared.command.VaultChange.TheVariants.{Offer as OfferRow}
use Rattle.channel_view_model.specs.Centre.{Centre, Request, view_of, reply_to, after, outcomes}
use Rattle.channel_view_model.specs.Rules.{KeepsRules}
use Rattle.channel_view_model.specs.Solo.{Event, Asked, Granted, Withdrawn, event_of_offer, hears, solo_reply}
use Rattle.channel_view_model.specs.Solo.{solo_outcomes, own_part, own_step, change_of, events_of_change, events_of}
use Rattle.channel_view_model.specs.Solo.{owns_after, heard_of, feed_from, feed, outcomes_to, replies_to, is_grant_of}
use Rattle.channel_view_model.specs.Solo.{lends, purge}
use Rattle.channel_view_model.proofs.StepLemmas.{reply_is}
use Rattle.channel_view_model.proofs.ViewLemmas.{view_of-after_own, view_of-after_other, own_part-solo_after}
use Rattle.channel_view_model.proofs.ViewLemmas.{own_part-hears}
use Rattle.channel_view_model.proofs.RuleLemmas.{KeepsRules-after}
use Rattle.channel_view_laws.proofs.LenderLemmas.{silent, is_event_of}

same : (a b : ℕ) → (a == b) ≡ true → a ≡ b
same a b e = grind (arith, nat_tests, e)

differ : (a b : ℕ) → (a == b) ≡ false → a ≢ b
differ a b e h = grind (arith, nat_tests, e, h)

-- the own rows of each channel, gone through by themselves, are those of the set
pub owns_next : (owns : ℕ → Option Own) (r : Request) (rows : Centre) → KeepsRules rows
    → ((b : ℕ) → owns b ≡ own_part (view_of b rows)) → (b : ℕ)
    → owns_after owns r b ≡ own_part (view_of b (after rows r))
owns_next owns r rows k are b =
    elim (r.0 == b)
    as (λ v. (r.0 == b) ≡ v → (if v then own_step (owns b) r.1 else owns b) ≡ own_part (view_of b (after rows r))) [
      | true ↦ λ e.
          ap (λ o. own_step o r.1) (are b)
          ∙ sym (own_part-solo_after (view_of b rows) r.1)
          ∙ ap own_part (sym (view_of-after_own b r.1 rows k))
          ∙ ap (λ x. own_part (view_of b (after rows (x, r.1)))) (sym (same r.0 b e))
      | false ↦ λ e. are b ∙ sym (own_part-hears (events_of b r.0 (own_part (view_of r.0 rows)) r.1) (view_of b rows))
          ∙ ap own_part (sym (view_of-after_other b r.0 r.1 rows k (differ r.0 b e)))
    ] refl

-- another channel's events only reach the view
event_passes : (b : ℕ) (o : Offer) (v : Option View) (es : List Event)
    → solo_outcomes v (event_of_offer b o ∷ es) ≡ solo_outcomes (hears (event_of_offer b o ∷ []) v) es
event_passes b o v es =
    elim o.withdrawn
    as (λ w. solo_outcomes v ((if w then Withdrawn b o.n else Granted (record { owner = b; offer = o })) ∷ es)
    ≡ solo_outcomes (hears ((if w then Withdrawn b o.n else Granted (record { owner = b; offer = o })) ∷ []) v) es)
    [ true ↦ refl | false ↦ refl ]

told_passes : (c b : ℕ) (ch : Change) (v : Option View) (es : List Event)
    → solo_outcomes v (events_of_change c b ch ++ es) ≡ solo_outcomes (hears (events_of_change c b ch) v) es
told_passes c b Nothing v es = refl
told_passes c b (OnDay day) v es = refl
told_passes c b (OnAiring airing) v es = refl
told_passes c b (OnVault put (TapeRow t)) v es = refl
told_passes c b (OnVault put (ClipRow k)) v es = refl
told_passes c b (OnVault put (OfferRow o)) v es =
    elim (o.grantee == c)
    as (λ x. solo_outcomes v ((if x then event_of_offer b o ∷ [] else []) ++ es)
    ≡ solo_outcomes (hears (if x then event_of_offer b o ∷ [] else []) v) es)
    [ true ↦ event_passes b o v es | false ↦ refl ]

events_pass : (c b : ℕ) (own : Option Own) (q : Command) (v : Option View) (es : List Event)
    → solo_outcomes v (events_of c b own q ++ es) ≡ solo_outcomes (hears (events_of c b own q) v) es
unfolding events_of
events_pass c b None q v es = refl
events_pass c b (Some own) q v es = told_passes c b (change_of own q) v es

-- the first law, with the own rows of each channel at hand
alone : (c : ℕ) (rs : List Request) (rows : Centre) (owns : ℕ → Option Own) → KeepsRules rows
    → ((b : ℕ) → owns b ≡ own_part (view_of b rows))
    → replies_to c rows rs ≡ solo_outcomes (view_of c rows) (feed_from c owns rs)
alone c [] rows owns k are = refl
alone c (r ∷ rs) rows owns k are =
    let rest =
    alone c rs (after rows r) (owns_after owns r) (KeepsRules-after rows r k) (owns_next owns r rows k are) in
    elim (r.0 == c)
    as (λ v. (r.0 == c) ≡ v
    → (if v then reply_to rows r
    ∷ outcomes_to c rs (outcomes (after rows r) rs) else outcomes_to c rs (outcomes (after rows r) rs))
    ≡ solo_outcomes (view_of c rows)
    ((if v then Asked r.1 ∷ [] else events_of c r.0 (owns r.0) r.1) ++ feed_from c (owns_after owns r) rs)) [
      | true ↦ λ e.
          let own : r.0 ≡ c = same r.0 c e in
          ap (λ x. reply_to rows (x, r.1) ∷ replies_to c (after rows r) rs) own
          ∙ ap (λ o. o ∷ replies_to c (after rows r) rs) (reply_is c r.1 rows)
          ∙ ap (λ os. solo_reply (view_of c rows) r.1 ∷ os)
          (rest
          ∙ ap (λ v. solo_outcomes v (feed_from c (owns_after owns r) rs))
          (ap (λ x. view_of c (after rows (x, r.1))) own ∙ view_of-after_own c r.1 rows k))
      | false ↦ λ e.
          rest
          ∙ ap (λ v. solo_outcomes v (feed_from c (owns_after owns r) rs))
          (view_of-after_other c r.0 r.1 rows k (differ r.0 c e))
          ∙ ap
          (λ o. solo_outcomes (hears (events_of c r.0 o r.1) (view_of c rows)) (feed_from c (owns_after owns r) rs))
          (sym (are r.0))
          ∙ sym (events_pass c r.0 (owns r.0) r.1 (view_of c rows) (feed_from c (owns_after owns r) rs))
    ] refl

-- The first law.
pub alone_law : (rows : Centre) → KeepsRules rows → (rs : List Request) (c : ℕ)
    → replies_to c rows rs ≡ solo_outcomes (view_of c rows) (feed c rows rs)
alone_law rows k rs c = alone c rs rows (λ b. own_part (view_of b rows)) k (λ b. refl)

-- b's events are b's
event_own : (b : ℕ) (o : Offer) → is_event_of b (event_of_offer b o) ≡ true
event_own b o =
    elim o.withdrawn
    as (λ w. is_event_of b (if w then Withdrawn b o.n else Granted (record { owner = b; offer = o })) ≡ true)
    [ true ↦ grind (arith, nat_tests) | false ↦ grind (arith, nat_tests) ]

told_none : (c b : ℕ) (ch : Change) → list_any (is_event_of b) (events_of_change c b ch) ≡ false
    → events_of_change c b ch ≡ []
told_none c b Nothing h = refl
told_none c b (OnDay day) h = refl
told_none c b (OnAiring airing) h = refl
told_none c b (OnVault put (TapeRow t)) h = refl
told_none c b (OnVault put (ClipRow k)) h = refl
told_none c b (OnVault put (OfferRow o)) h = by (o.grantee == c) h
  where
    by : (v : Bool) → list_any (is_event_of b) (if v then event_of_offer b o ∷ [] else []) ≡ false
        → (if v then event_of_offer b o ∷ [] else []) ≡ []
    by true e = let here = event_own b o in absurd (let no : true ≡ false = grind (arith, e, here) in cc)
    by false e = refl

events_none : (c b : ℕ) (own : Option Own) (q : Command) → list_any (is_event_of b) (events_of c b own q) ≡ false
    → events_of c b own q ≡ []
unfolding events_of
events_none c b None q h = refl
events_none c b (Some own) q h = told_none c b (change_of own q) h

itself : (c : ℕ) → (c == c) ≡ true
itself c = grind (arith, nat_tests)

or_true : (a b : Bool) → b ≡ true → (a || b) ≡ true
or_true true b h = refl
or_true false b h = h

-- who isn't among these is none of them
apart_of : (mine : ℕ → Bool) (a : ℕ) → mine a ≡ false → (b : ℕ) → mine b ≡ true → (a == b) ≡ false
apart_of mine a out b is =
    elim (a == b) as (λ v. (a == b) ≡ v → v ≡ false)
    [ true ↦ λ e. sym is ∙ ap mine (sym (same a b e)) ∙ out | false ↦ λ e. refl ] refl

or_left : (a b : Bool) → (a || b) ≡ false → a ≡ false
or_left true b h = h
or_left false b h = refl

or_right : (a b : Bool) → (a || b) ≡ false → b ≡ false
or_right true b h = absurd (cc)
or_right false b h = h

-- requests of channels without events may go: the feed stays
feed_same : (c : ℕ) (mine : ℕ → Bool) → mine c ≡ true → (rs : List Request) (owns owns' : ℕ → Option Own)
    → ((b : ℕ) → mine b ≡ true → owns' b ≡ owns b)
    → ((b : ℕ) → mine b ≡ false → list_any (is_event_of b) (feed_from c owns rs) ≡ false)
    → feed_from c owns' (filter (λ r. mine r.0) rs) ≡ feed_from c owns rs
feed_same c mine holds [] owns owns' agree silent = refl
feed_same c mine holds (r ∷ rs) owns owns' agree silent =
    let silent_then : (b : ℕ) → mine b ≡ false → list_any (is_event_of b) (feed_from c (owns_after owns r) rs) ≡ false =
    λ b no. or_right _ _
    (sym (list_any-append (is_event_of b) (heard_of c owns r) (feed_from c (owns_after owns r) rs)) ∙ silent b no)
    in
    elim (mine r.0)
    as (λ v. mine r.0 ≡ v
    → feed_from c owns' (cond v (r ∷ filter (λ r. mine r.0) rs) (filter (λ r. mine r.0) rs))
    ≡ feed_from c owns (r ∷ rs)) [
      | true ↦ λ yes.
          ap (λ o. (if r.0 == c then Asked r.1 ∷ [] else events_of c r.0 o r.1)
          ++ feed_from c (owns_after owns' r) (filter (λ r. mine r.0) rs)) (agree r.0 yes)
          ∙ ap (λ es. heard_of c owns r ++ es)
          (feed_same c mine holds rs (owns_after owns r) (owns_after owns' r)
          (λ b is. ap (λ o. if r.0 == b then own_step o r.1 else o) (agree b is)) silent_then)
      | false ↦ λ no.
          let apart : (b : ℕ) → mine b ≡ true → (r.0 == b) ≡ false = apart_of mine r.0 no in
          let other : (r.0 == c) ≡ false = apart c holds in
          let nothing : heard_of c owns r ≡ [] =
          ap (λ v. if v then Asked r.1 ∷ [] else events_of c r.0 (owns r.0) r.1) other
          ∙ events_none c r.0 (owns r.0) r.1
          (ap (λ v. list_any (is_event_of r.0) (if v then Asked r.1 ∷ [] else events_of c r.0 (owns r.0) r.1))
          (sym other)
          ∙ or_left _ _
          (sym (list_any-append (is_event_of r.0) (heard_of c owns r) (feed_from c (owns_after owns r) rs))
          ∙ silent r.0 no)) in
          feed_same c mine holds rs (owns_after owns r) owns'
          (λ b is. agree b is ∙ ap (λ v. if v then own_step (owns b) r.1 else owns b) (sym (apart b is)))
          silent_then
          ∙ ap (λ es. es ++ feed_from c (owns_after owns r) rs) (sym nothing)
    ] refl

-- A channel of two runs, whatever the rows and requests of the others: what it sees at first and what comes to it
-- decide.
pub feeds_law : (rows others : Centre) → KeepsRules rows → KeepsRules others → (rs ss : List Request) (c : ℕ)
    → view_of c rows ≡ view_of c others → feed c rows rs ≡ feed c others ss
    → replies_to c rows rs ≡ replies_to c others ss
feeds_law rows others k l rs ss c views feeds =
    alone_law rows k rs c
    ∙ ap (λ v. solo_outcomes v (feed c rows rs)) views
    ∙ ap (solo_outcomes (view_of c others)) feeds
    ∙ sym (alone_law others l ss c)

-- What comes to c stays where the requests of some channels are kept alone, c and its lenders among them, over the own
-- rows of these.
pub feed_kept : (rows : Centre) (rs : List Request) (c : ℕ) (mine : ℕ → Bool) → mine c ≡ true
    → ((b : ℕ) → lends c rows rs b ≡ true → mine b ≡ true)
    → (owns : ℕ → Option Own) → ((b : ℕ) → mine b ≡ true → owns b ≡ own_part (view_of b rows))
    → feed_from c owns (filter (λ r. mine r.0) rs) ≡ feed c rows rs
unfolding lends
feed_kept rows rs c mine holds lenders owns agree =
    feed_same c mine holds rs (λ b. own_part (view_of b rows)) owns agree quiet
  where
    quiet : (b : ℕ) → mine b ≡ false → list_any (is_event_of b) (feed c rows rs) ≡ false
    quiet b out =
        let none : lends c rows rs b ≡ false =
        elim (lends c rows rs b) as (λ v. lends c rows rs b ≡ v → v ≡ false)
        [ true ↦ λ e. sym (lenders b e) ∙ out | false ↦ λ e. refl ] refl in
        let other : (b == c) ≡ false = apart_of mine b out c holds in
        let lent : Bool = list_any (λ r. r.0 == b && r.1.grantee == c) rows.offers in
        let offers : Bool = list_any (is_grant_of b) (feed c rows rs) in
        silent c b rows rs other (or_left lent offers none) (or_right lent offers none)

-- Only the requests of some channels, c and its lenders among them.
pub part_law : (rows : Centre) → KeepsRules rows → (rs : List Request) (c : ℕ) (mine : ℕ → Bool) → mine c ≡ true
    → ((b : ℕ) → lends c rows rs b ≡ true → mine b ≡ true)
    → replies_to c rows rs ≡ replies_to c rows (filter (λ r. mine r.0) rs)
part_law rows k rs c mine holds lenders =
    feeds_law rows rows k k rs (filter (λ r. mine r.0) rs) c refl
    (sym (feed_kept rows rs c mine holds lenders (λ b. own_part (view_of b rows)) (λ b is. refl)))

-- The second law.
pub purge_law : (rows : Centre) → KeepsRules rows → (rs : List Request) (c : ℕ)
    → replies_to c rows rs ≡ replies_to c rows (purge c rows rs)
purge_law rows k rs c =
    part_law rows k rs c (λ b. b == c || lends c rows rs b) (ap (λ v. v || lends c rows rs c) (itself c))
    (λ b e. or_true (b == c) (lends c rows rs b) e)
