-- One request: its reply, and what it does to each channel's own rows.
use Rattle.std.proofs.Common.{◌≡◌, ◌≢◌, ℕ, true, refl, sym, ap}
use Rattle.std.specs.Prelude.{◌==◌, Option, Some, None}
use Rattle.std.specs.Option.{option_map}
use Rattle.channel_plan.specs.declared.plan.PlanRow.{PlanRow}
use Rattle.vault_core.specs.declared.tape.Tape.{Tape}
use Rattle.vault_core.specs.declared.clip.Clip.{Clip}
use Rattle.vault_core.specs.declared.offer.Offer.{Offer}
use Rattle.channel_view_model.specs.declared.command.Command.{Command}
use Rattle.channel_view_model.specs.declared.command.Change.{Change}
use Rattle.channel_view_model.specs.declared.command.Change.TheVariants.{Nothing, Vault, Day as OnDay}
use Rattle.channel_view_model.specs.declared.command.Change.TheVariants.{Airing as OnAiring}
use Rattle.channel_view_model.specs.declared.command.VaultChange.{VaultChange}
use Rattle.channel_view_model.specs.declared.command.VaultChange.TheVariants.{Tape as TapeRow, Clip as ClipRow}
use Rattle.channel_view_model.specs.declared.command.VaultChange.TheVariants.{Offer as OfferRow}
use Rattle.channel_view_model.specs.declared.command.Outcome.TheVariants.{Replied}
use Rattle.channel_view_model.specs.Tables.{rows_of, is_in_order}
use Rattle.channel_view_model.specs.Seen.{grant_of, seen_in}
use Rattle.channel_view_model.specs.Decide.{decision, own_after}
use Rattle.channel_view_model.specs.Solo.{solo_reply}
use Rattle.channel_view_model.specs.Centre.{Centre, plan_of, seen_by, own_of, own_changed, changed, view_at, view_of}
use Rattle.channel_view_model.specs.Centre.{reply_at, reply_to}
use Rattle.channel_view_model.proofs.TableLemmas.{picked_is, rows_of-replace_same, rows_of-replace_other}

-- the rows of each table are in the order of their channels
abbrev pub AreInOrder : Centre → Type 0
AreInOrder rows = (is_in_order rows.tapes ≡ true) × (is_in_order rows.clips ≡ true) × (is_in_order rows.offers ≡ true)

-- each question over the whole set is one over what the channel sees
pub seen_is : (c : ℕ) (p : PlanRow) (rows : Centre) → seen_by c p rows ≡ seen_in (view_at c rows p)
seen_is c p rows = λ i. record {
  own = record {
    plan = p;
    tapes = picked_is (λ r. r.0 == c) (λ r. r.1) rows.tapes i;
    clips = picked_is (λ r. r.0 == c) (λ r. r.1) rows.clips i;
    offers = picked_is (λ r. r.0 == c) (λ r. r.1) rows.offers i;
  };
  days = picked_is (λ r. r.0 == c) (λ r. r.1) rows.days i;
  aired = picked_is (λ r. r.0 == c) (λ r. r.1) rows.aired i;
  lent = picked_is (λ r. r.1.grantee == c) grant_of rows.offers i;
}

-- the reply rests on what the channel sees
pub reply_is : (c : ℕ) (q : Command) (rows : Centre) → reply_to rows (c, q) ≡ solo_reply (view_of c rows) q
unfolding reply_to view_of solo_reply
reply_is c q rows = under (plan_of c rows)
  where
    under : (p : Option PlanRow) → reply_at p rows (c, q) ≡ solo_reply (option_map (view_at c rows) p) q
    under None = refl
    under (Some p) = ap (λ s. Replied (decision s q).0) (seen_is c p rows)

-- a change leaves the plan
pub plan_of-changed : (c b : ℕ) (ch : Change) (rows : Centre) → plan_of c (changed b ch rows) ≡ plan_of c rows
unfolding changed
plan_of-changed c b Nothing rows = refl
plan_of-changed c b (Vault put (TapeRow t)) rows = refl
plan_of-changed c b (Vault put (ClipRow k)) rows = refl
plan_of-changed c b (Vault put (OfferRow o)) rows = refl
plan_of-changed c b (OnDay change) rows = refl
plan_of-changed c b (OnAiring airing) rows = refl

-- a change of channel c's own rows is one of these
pub own_of-changed_own : (c : ℕ) (p : PlanRow) (ch : VaultChange) (rows : Centre) → AreInOrder rows
    → own_of c p (own_changed c ch rows) ≡ own_after ch (own_of c p rows)
own_of-changed_own c p (TapeRow t) rows order =
    λ i. record {
      plan = p;
      tapes = rows_of-replace_same (λ (u : Tape). u.n) c t rows.tapes order.0 i;
      clips =
          rows_of c rows.clips;
      offers = rows_of c rows.offers;
    }
own_of-changed_own c p (ClipRow k) rows order =
    λ i. record {
      plan = p;
      tapes = rows_of c rows.tapes;
      clips =
          rows_of-replace_same (λ (u : Clip). u.n) c k rows.clips order.1 i;
      offers = rows_of c rows.offers;
    }
own_of-changed_own c p (OfferRow o) rows order =
    λ i. record {
      plan = p;
      tapes = rows_of c rows.tapes;
      clips = rows_of c rows.clips;
      offers =
          rows_of-replace_same (λ (u : Offer). u.n) c o rows.offers order.2 i;
    }

-- and nothing to another's
pub own_of-changed_other : (c b : ℕ) (p : PlanRow) (ch : VaultChange) (rows : Centre) → b ≢ c
    → own_of c p (own_changed b ch rows) ≡ own_of c p rows
own_of-changed_other c b p (TapeRow t) rows differ =
    λ i. record {
      plan = p;
      tapes = rows_of-replace_other (λ (u : Tape). u.n) b c t rows.tapes differ i;
      clips =
          rows_of c rows.clips;
      offers = rows_of c rows.offers;
    }
own_of-changed_other c b p (ClipRow k) rows differ =
    λ i. record {
      plan = p;
      tapes = rows_of c rows.tapes;
      clips =
          rows_of-replace_other (λ (u : Clip). u.n) b c k rows.clips differ i;
      offers = rows_of c rows.offers;
    }
own_of-changed_other c b p (OfferRow o) rows differ =
    λ i. record {
      plan = p;
      tapes = rows_of c rows.tapes;
      clips = rows_of c rows.clips;
      offers =
          rows_of-replace_other (λ (u : Offer). u.n) b c o rows.offers differ i;
    }

-- the decision over what the channel sees is the decision over the set
pub decision_is : (c : ℕ) (q : Command) (rows : Centre)
    → option_map (λ v. decision (seen_in v) q) (view_of c rows)
    ≡ option_map (λ p. decision (seen_by c p rows) q) (plan_of c rows)
unfolding view_of
decision_is c q rows = under (plan_of c rows)
  where
    under : (p : Option PlanRow)
        → option_map (λ v. decision (seen_in v) q) (option_map (view_at c rows) p)
        ≡ option_map (λ p. decision (seen_by c p rows) q) p
    under None = refl
    under (Some p) = ap (λ s. Some (decision s q)) (sym (seen_is c p rows))
