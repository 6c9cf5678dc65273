-- The law of parts: the channels of a closed part are answered alike without the others, and their rows go by
-- themselves.
use Rattle.std.proofs.Common.{◌≡◌, ℕ, List, [], ◌∷◌, Bool, true, false, ◌||◌, cond, map, refl, sym, ◌∙◌, ap}
use Rattle.std.specs.Prelude.{filter, ◌==◌, Option, Some, None, if◌then◌else◌}
use Rattle.std.specs.List.{list_any}
use Rattle.channel_plan.specs.declared.plan.PlanRow.{PlanRow}
use Rattle.channel_view_model.specs.declared.command.Outcome.{Outcome}
use Rattle.channel_view_model.specs.declared.command.Outcome.TheVariants.{NoChannel}
use Rattle.channel_view_model.specs.Centre.{Centre, Request, plan_of, view_of, reply_at, reply_to, after, after_all}
use Rattle.channel_view_model.specs.Centre.{outcomes}
use Rattle.channel_view_model.specs.Rules.{KeepsRules}
use Rattle.channel_view_model.specs.Solo.{own_part, feed, outcomes_to, replies_to, is_grant_of, lends}
use Rattle.channel_view_model.proofs.RuleLemmas.{KeepsRules-after}
use Rattle.channel_view_model.proofs.WalkLemmas.{found_planned}
use Rattle.channel_view_laws.proofs.RunLemmas.{feed_kept, feeds_law}
use Rattle.channel_view_laws.specs.Runs.{kept, kept_outcomes}
use Rattle.channel_view_laws.specs.Parts.{rows_part, requests_part, IsClosed, IsClosedPart}
use Rattle.channel_view_laws.proofs.PartTableLemmas.{equal, filter-filter}
use Rattle.channel_view_laws.proofs.PartViewLemmas.{OffersWithin, plan_of-part, own_part-part, view_of-part}
use Rattle.channel_view_laws.proofs.PartRuleLemmas.{KeepsRules-part}
use Rattle.channel_view_laws.proofs.PartChangeLemmas.{after-out, after-in}
use Rattle.channel_view_laws.proofs.PartLendLemmas.{plan_of-after, closed-after}

-- in a closed part are all that offer to a channel of it
offers_within : (mine : ℕ → Bool) (rows : Centre) (rs : List Request) → IsClosed mine rows rs → (c : ℕ) → mine c ≡ true
    → (p : PlanRow) → plan_of c rows ≡ Some p → OffersWithin mine rows c
unfolding lends
offers_within mine rows rs closed c is p known b offers =
    closed c b is (found_planned rows.channels c p known)
    (ap (λ x. x || list_any (is_grant_of b) (feed c rows rs)) offers)

-- each request of a channel that isn't in the plan is told so
unplanned : (c : ℕ) (rs : List Request) (rows : Centre) → plan_of c rows ≡ None
    → replies_to c rows rs ≡ map (λ r. NoChannel) (filter (λ r. r.0 == c) rs)
unfolding reply_to
unplanned c [] rows none = refl
unplanned c (r ∷ rs) rows none =
    let rest = unplanned c rs (after rows r) (plan_of-after c rows r ∙ none) in
    elim (r.0 == c)
    as (λ v. (r.0 == c) ≡ v
    → (if v then reply_at (plan_of r.0 rows) rows r
    ∷ replies_to c (after rows r) rs else replies_to c (after rows r) rs)
    ≡ map (λ r. NoChannel) (cond v (r ∷ filter (λ r. r.0 == c) rs) (filter (λ r. r.0 == c) rs))) [
      | true ↦ λ e.
          ap (λ o. reply_at o rows r ∷ replies_to c (after rows r) rs) (ap (λ d. plan_of d rows) (equal r.0 c e) ∙ none)
          ∙ ap (λ os. NoChannel ∷ os) rest
      | false ↦ λ e. rest
    ] refl

module _ (mine : ℕ → Bool) where
  pub rules-part : (rows : Centre) → KeepsRules rows → (rs : List Request) → IsClosed mine rows rs
      → KeepsRules (rows_part mine rows)
  rules-part rows rules rs closed = KeepsRules-part mine rows (offers_within mine rows rs closed) rules

  pub replies-part : (rows : Centre) → KeepsRules rows → (rs : List Request) → IsClosed mine rows rs → (c : ℕ)
      → mine c ≡ true → replies_to c rows rs ≡ replies_to c (rows_part mine rows) (requests_part mine rs)
  replies-part rows rules rs closed c is = by (plan_of c rows) refl
    where
      by : (o : Option PlanRow) → plan_of c rows ≡ o
          → replies_to c rows rs ≡ replies_to c (rows_part mine rows) (requests_part mine rs)
      by None none =
          unplanned c rs rows none
          ∙ ap (map (λ r. NoChannel))
          (sym (filter-filter (λ r. mine r.0) (λ r. r.0 == c) (λ r e. ap mine (equal r.0 c e) ∙ is) rs))
          ∙ sym (unplanned c (requests_part mine rs) (rows_part mine rows) (plan_of-part mine rows c is ∙ none))
      by (Some p) known =
          feeds_law rows (rows_part mine rows) rules (rules-part rows rules rs closed) rs (requests_part mine rs) c
          (sym (view_of-part mine rows c is (offers_within mine rows rs closed c is)))
          (sym (feed_kept rows rs c mine is (λ b lent. closed c b is (found_planned rows.channels c p known) lent)
          (λ b. own_part (view_of b (rows_part mine rows))) (λ b its. own_part-part mine rows b its)))

  pub rows-part : (rs : List Request) (rows : Centre) → KeepsRules rows → IsClosed mine rows rs
      → rows_part mine (after_all rows rs) ≡ after_all (rows_part mine rows) (requests_part mine rs)
  rows-part [] rows rules closed = refl
  rows-part (r ∷ rs) rows rules closed =
      rows-part rs (after rows r) (KeepsRules-after rows r rules) (closed-after mine rows rules r rs closed)
      ∙ elim (mine r.0)
      as (λ v. mine r.0 ≡ v
      → after_all (rows_part mine (after rows r)) (filter (λ r. mine r.0) rs)
      ≡ after_all (rows_part mine rows) (cond v (r ∷ filter (λ r. mine r.0) rs) (filter (λ r. mine r.0) rs))) [
        | true ↦ λ is. ap (λ s. after_all s (filter (λ r. mine r.0) rs))
            (after-in mine rows rules r is (offers_within mine rows (r ∷ rs) closed r.0 is))
        | false ↦ λ out. ap (λ s. after_all s (filter (λ r. mine r.0) rs)) (after-out mine rows r out)
      ] refl

-- over the rows and the requests of a closed part
module _ (mine : ℕ → Bool) (whole : Centre) (all : List Request) (rows : Centre) (rs : List Request)
    (part : IsClosedPart mine whole all rows rs) where
  pub replies-of_whole : (c : ℕ) → mine c ≡ true → replies_to c rows rs ≡ replies_to c whole all
  replies-of_whole c is =
      ap (λ s. replies_to c s rs) part.rows_are
      ∙ ap (replies_to c (rows_part mine whole)) part.requests_are
      ∙ sym (replies-part mine whole part.rules all part.closed c is)

  pub rows-of_whole : after_all rows rs ≡ rows_part mine (after_all whole all)
  rows-of_whole =
      ap (λ s. after_all s rs) part.rows_are
      ∙ ap (after_all (rows_part mine whole)) part.requests_are
      ∙ sym (rows-part mine all whole part.rules part.closed)

-- what a run served of a closed part
pub served_part : (rows : Centre) (rs : List Request) (os : List Outcome)
    → kept_outcomes os ≡ outcomes rows (kept rs os) → (mine : ℕ → Bool) (whole : Centre) (all : List Request)
    → IsClosedPart mine whole all rows (kept rs os)
    → (c : ℕ) → mine c ≡ true → outcomes_to c (kept rs os) (kept_outcomes os) ≡ replies_to c whole all
served_part rows rs os told mine whole all part c is =
    ap (outcomes_to c (kept rs os)) told ∙ replies-of_whole mine whole all rows (kept rs os) part c is
