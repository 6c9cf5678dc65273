-- What a prepared decision is to the step of its request.
use Rattle.std.proofs.Common.{◌≡◌, ℕ, refl, sym, ◌∙◌, ap}
use Rattle.std.specs.Prelude.{Option, Some, None, Result, Ok, Err, IfOk}
use Rattle.std.specs.Option.{option_map}
use Rattle.channel_plan.specs.declared.plan.PlanRow.{PlanRow}
use Rattle.channel_view_model.specs.declared.command.Command.{Command}
use Rattle.channel_view_model.specs.declared.command.Change.{Change}
use Rattle.channel_view_model.specs.declared.command.Reply.{Reply}
use Rattle.channel_view_model.specs.declared.command.Outcome.{Outcome}
use Rattle.channel_view_model.specs.declared.command.Outcome.TheVariants.{Replied, NoChannel, Unavailable}
use Rattle.channel_view_model.specs.Seen.{seen_in}
use Rattle.channel_view_model.specs.Decide.{Decided, decision}
use Rattle.channel_view_model.specs.Centre.{Centre, Request, plan_of, seen_by, changed, reply_at, reply_to, after_at}
use Rattle.channel_view_model.specs.Centre.{after, view_of, IsChangeOf}
use Rattle.channel_view_model.specs.Rules.{KeepsRules}
use Rattle.channel_view_laws.specs.Requests.{UnlessUnavailable, Prepares, rows_after, is_made, changes_at, changes}
use Rattle.channel_view_model.proofs.StepLemmas.{decision_is}

-- the decision on the set, where the channel is in the plan
abbrev pub decided : ℕ → Command → Centre → Option Decided
decided c q rows = option_map (λ p. decision (seen_by c p rows) q) (plan_of c rows)

pub step_none : (c : ℕ) (q : Command) (rows : Centre) → None ≡ decided c q rows
    → (NoChannel ≡ reply_to rows (c, q)) × (rows ≡ after rows (c, q))
unfolding reply_to after
step_none c q rows e = under (plan_of c rows) e
  where
    under : (p : Option PlanRow) → None ≡ option_map (λ p. decision (seen_by c p rows) q) p
        → (NoChannel ≡ reply_at p rows (c, q)) × (rows ≡ after_at p rows (c, q))
    under None e = (refl, refl)
    under (Some p) e = absurd (cc)

pub step_some : (c : ℕ) (q : Command) (rows : Centre) (reply : Reply) (ch : Change)
    → Some (reply, ch) ≡ decided c q rows
    → (Replied reply ≡ reply_to rows (c, q)) × (changed c ch rows ≡ after rows (c, q))
unfolding reply_to after
step_some c q rows reply ch e = under (plan_of c rows) e
  where
    under : (p : Option PlanRow) → Some (reply, ch) ≡ option_map (λ p. decision (seen_by c p rows) q) p
        → (Replied reply ≡ reply_at p rows (c, q)) × (changed c ch rows ≡ after_at p rows (c, q))
    under None e = absurd (cc)
    under (Some p) e =
        let both : (reply, ch) ≡ decision (seen_by c p rows) q = cc in
        (ap (λ d. Replied d.0) both, ap (λ d. changed c d.1 rows) both)

pub change_of : (c : ℕ) (q : Command) (rows : Centre) (reply : Reply) (ch : Change)
    → Some (reply, ch) ≡ decided c q rows → IsChangeOf c ch rows
change_of c q rows reply ch e = under (plan_of c rows) refl e
  where
    under : (p : Option PlanRow) → plan_of c rows ≡ p
        → Some (reply, ch) ≡ option_map (λ p. decision (seen_by c p rows) q) p → IsChangeOf c ch rows
    under None is e = absurd (cc)
    under (Some p) is e = let both : (reply, ch) ≡ decision (seen_by c p rows) q = cc in (q, p, is, ap (λ d. d.1) both)

-- what was prepared changes rows where its request does
pub change_made : (c : ℕ) (q : Command) (rows : Centre) (reply : Reply) (ch : Change)
    → Some (reply, ch) ≡ decided c q rows → changes rows (c, q) ≡ is_made ch
unfolding changes
change_made c q rows reply ch e = under (plan_of c rows) e
  where
    under : (p : Option PlanRow) → Some (reply, ch) ≡ option_map (λ p. decision (seen_by c p rows) q) p
        → changes_at p rows (c, q) ≡ is_made ch
    under None e = absurd (cc)
    under (Some p) e = let both : (reply, ch) ≡ decision (seen_by c p rows) q = cc in ap (λ d. is_made d.1) (sym both)

-- what two sets that a channel sees alike answer it, and what it sees of them afterwards
pub answers_alike : (rows others : Centre) (r : Request) (o p : Outcome) → reply_to rows r ≡ reply_to others r
    → UnlessUnavailable o (o ≡ reply_to rows r) → UnlessUnavailable p (p ≡ reply_to others r)
    → UnlessUnavailable o (UnlessUnavailable p (o ≡ p))
answers_alike rows others r Unavailable p same h k = tt
answers_alike rows others r NoChannel Unavailable same h k = tt
answers_alike rows others r NoChannel NoChannel same h k = refl
answers_alike rows others r NoChannel (Replied y) same h k = h ∙ same ∙ sym k
answers_alike rows others r (Replied x) Unavailable same h k = tt
answers_alike rows others r (Replied x) NoChannel same h k = h ∙ same ∙ sym k
answers_alike rows others r (Replied x) (Replied y) same h k = h ∙ same ∙ sym k

pub views_alike : (rows others : Centre) (c : ℕ) (r : Request) (o p : Outcome)
    → (KeepsRules rows → KeepsRules others → view_of c (after rows r) ≡ view_of c (after others r))
    → UnlessUnavailable o (KeepsRules rows × KeepsRules (rows_after rows r o))
    → UnlessUnavailable p (KeepsRules others × KeepsRules (rows_after others r p))
    → UnlessUnavailable o (UnlessUnavailable p (view_of c (rows_after rows r o) ≡ view_of c (rows_after others r p)))
views_alike rows others c r Unavailable p same h k = tt
views_alike rows others c r NoChannel Unavailable same h k = tt
views_alike rows others c r NoChannel NoChannel same h k = same h.0 k.0
views_alike rows others c r NoChannel (Replied y) same h k = same h.0 k.0
views_alike rows others c r (Replied x) Unavailable same h k = tt
views_alike rows others c r (Replied x) NoChannel same h k = same h.0 k.0
views_alike rows others c r (Replied x) (Replied y) same h k = same h.0 k.0

-- What is decided of what the channel sees is decided of the set; so whatever gives it gives the request's step.
module _ {E : Type 0} (c : ℕ) (q : Command) (rows : Centre) where
  pub prepared : (r : Result (Option Decided) E)
      → IfOk r (λ d. d ≡ option_map (λ v. decision (seen_in v) q) (view_of c rows)) → IfOk r (Prepares rows c q)
  prepared (Ok None) is =
      let of_set = is ∙ decision_is c q rows in
      record {
        seen = is;
        of_set = of_set;
        may_commit = tt;
        step = step_none c q rows of_set;
        has_change = tt;
      }
  prepared (Ok (Some x)) is =
      let of_set = is ∙ decision_is c q rows in
      record {
        seen = is;
        of_set = of_set;
        may_commit = change_of c q rows x.0 x.1 of_set;
        step = step_some c q rows x.0 x.1 of_set;
        has_change = sym (change_made c q rows x.0 x.1 of_set);
      }
  prepared (Err e) is = tt
