-- What a channel sees of the rows of its part.
use Rattle.std.proofs.Common.{◌≡◌, ℕ, Bool, true, ◌&&◌, refl, sym, ◌∙◌, ap}
use Rattle.std.specs.Prelude.{◌==◌, Option, Some, None}
use Rattle.std.specs.List.{list_any}
use Rattle.std.specs.Option.{option_map}
use Rattle.channel_plan.specs.declared.plan.PlanRow.{PlanRow}
use Rattle.channel_view_model.specs.Seen.{seen_in}
use Rattle.channel_view_model.specs.Centre.{Centre, plan_of, seen_by, own_of, view_at, view_of}
use Rattle.channel_view_model.specs.Solo.{own_part}
use Rattle.channel_view_model.proofs.StepLemmas.{seen_is}
use Rattle.channel_view_laws.specs.Parts.{rows_part}
use Rattle.channel_view_laws.proofs.PartTableLemmas.{equal, find-filter, rows_of-part, grants_to-part}

-- all that offer to c are in the part
abbrev pub OffersWithin : (ℕ → Bool) → Centre → ℕ → Type 0
OffersWithin mine rows c = (b : ℕ) → list_any (λ r. r.0 == b && r.1.grantee == c) rows.offers ≡ true → mine b ≡ true

module _ (mine : ℕ → Bool) (rows : Centre) (c : ℕ) (is : mine c ≡ true) where
  pub plan_of-part : plan_of c (rows_part mine rows) ≡ plan_of c rows
  plan_of-part = find-filter (λ p. mine p.ch) (λ p. p.ch == c) (λ p e. ap mine (equal p.ch c e) ∙ is) rows.channels

  pub own_of-part : (p : PlanRow) → own_of c p (rows_part mine rows) ≡ own_of c p rows
  own_of-part p = λ i. record {
    plan = p;
    tapes = rows_of-part mine c is rows.tapes i;
    clips = rows_of-part mine c is rows.clips i;
    offers = rows_of-part mine c is rows.offers i;
  }

  -- its own rows, whoever offers to it
  pub own_part-part : own_part (view_of c (rows_part mine rows)) ≡ own_part (view_of c rows)
  unfolding view_of
  own_part-part =
      ap (λ o. own_part (option_map (view_at c (rows_part mine rows)) o)) plan_of-part ∙ under (plan_of c rows)
    where
      under : (o : Option PlanRow)
          → own_part (option_map (view_at c (rows_part mine rows)) o) ≡ own_part (option_map (view_at c rows) o)
      under None = refl
      under (Some p) = ap Some (own_of-part p)

  view_at-part : OffersWithin mine rows c → (p : PlanRow) → view_at c (rows_part mine rows) p ≡ view_at c rows p
  view_at-part within p = λ i. record {
    own = own_of-part p i;
    days = rows_of-part mine c is rows.days i;
    aired = rows_of-part mine c is rows.aired i;
    lent = grants_to-part mine c rows.offers within i;
  }

  -- all that it sees
  pub view_of-part : ((p : PlanRow) → plan_of c rows ≡ Some p → OffersWithin mine rows c)
      → view_of c (rows_part mine rows) ≡ view_of c rows
  unfolding view_of
  view_of-part within = ap (option_map (view_at c (rows_part mine rows))) plan_of-part ∙ under (plan_of c rows) refl
    where
      under : (o : Option PlanRow) → plan_of c rows ≡ o
          → option_map (view_at c (rows_part mine rows)) o ≡ option_map (view_at c rows) o
      under None known = refl
      under (Some p) known = ap Some (view_at-part (within p known) p)

  -- so it may ask the same of them
  pub seen_by-part : OffersWithin mine rows c → (p : PlanRow) → seen_by c p (rows_part mine rows) ≡ seen_by c p rows
  seen_by-part within p =
      seen_is c p (rows_part mine rows) ∙ ap seen_in (view_at-part within p) ∙ sym (seen_is c p rows)
