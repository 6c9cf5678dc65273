-- A lent clip at the place of its number among its owner's offers.
use Rattle.std.proofs.Common.{◌≡◌, ◌≢◌, ◌<◌, ℕ, ◌+◌, List, [], ◌∷◌, Bool, true, false, ◌&&◌, refl, sym, ◌∙◌, ap, arith}
use Rattle.std.specs.Prelude.{◌==◌, ◌||◌, find, Option, Some, None, if◌then◌else◌}
use Rattle.std.specs.List.{list_all}
use Rattle.std.specs.Option.{option_map}
use Rattle.std.proofs.lemmas.Bool.Decides.{nat_tests}
use Rattle.channel_plan.specs.declared.plan.PlanRow.{PlanRow}
use Rattle.vault_core.specs.declared.offer.Offer.{Offer}
use Rattle.vault_core.specs.Rules.{is_numbered_from}
use Rattle.grant_core.specs.declared.grant.Grant.{Grant}
use Rattle.channel_view_model.specs.Tables.{Table, rows_of}
use Rattle.channel_view_model.specs.Seen.{grant_of, grants_to}
use Rattle.channel_view_model.specs.Centre.{Centre, plan_of}
use Rattle.channel_view_model.specs.Rules.{is_planned, is_table_of, are_tables, KeepsRules}
use Rattle.channel_view.specs.Places.{AreSourcesNumbered}
use Rattle.channel_view.proofs.DayPlaceLemmas.{grant_among}

-- an offer of this owner as a lent clip, if it is to channel c
abbrev pub if_lent : ℕ → ℕ → Option Offer → Option Grant
if_lent c owner None = None
if_lent c owner (Some o) = if o.grantee == c then Some (record { owner = owner; offer = o }) else None

pub if_lent-is : (c owner : ℕ) (o : Offer) → o.grantee ≡ c
    → Some (record { owner = owner; offer = o }) ≡ if_lent c owner (Some o)
if_lent-is c owner o to = let is : (o.grantee == c) ≡ true = grind (arith, nat_tests, to) in rw is refl

pub if_lent-not : (c owner : ℕ) (o : Offer) → o.grantee ≢ c → None ≡ if_lent c owner (Some o)
if_lent-not c owner o other = let is : (o.grantee == c) ≡ false = grind (arith, nat_tests, other) in rw is refl

module _ (c owner n : ℕ) where
  abbrev is_grant : ℕ × Offer → Bool
  is_grant r = r.1.grantee == c && (r.0 == owner && r.1.n == n)

  -- none has a number below those that there are
  none_lower : (m : ℕ) (rs : Table Offer) → n < m → is_numbered_from (λ o. o.n) m (rows_of owner rs) ≡ true
      → find is_grant rs ≡ None
  none_lower m [] less h = refl
  none_lower m (r ∷ rs) less h = by (r.0 == owner) refl h (none_lower (m + 1) rs (omega arith)) (none_lower m rs less)
    where
      by : (b : Bool) → (r.0 == owner) ≡ b → is_numbered_from (λ o. o.n) m (rows_of owner (r ∷ rs)) ≡ true
          → (is_numbered_from (λ o. o.n) (m + 1) (rows_of owner rs) ≡ true → find is_grant rs ≡ None)
          → (is_numbered_from (λ o. o.n) m (rows_of owner rs) ≡ true → find is_grant rs ≡ None)
          → find is_grant (r ∷ rs) ≡ None
      by true mine h behind others =
          let here : is_numbered_from (λ o. o.n) m (r.1 ∷ rows_of owner rs) ≡ true = rw mine at h in
          let other : is_grant r ≡ false = grind (arith, nat_tests, here, less) in
          rw other (behind (grind (arith, here)))
      by false other h behind others =
          let not_it : is_grant r ≡ false = grind (arith, other) in
          rw not_it (others (rw other at h))

  -- where numbers begin with m, the lent clip is the owner's offer of number n, if it is to c
  abbrev Found : ℕ → Table Offer → Type 0
  Found m rs =
      is_numbered_from (λ o. o.n) m (rows_of owner rs) ≡ true
      → option_map grant_of (find is_grant rs) ≡ if_lent c owner (find (λ o. o.n == n) (rows_of owner rs))

  found_from : (m : ℕ) (rs : Table Offer) → Found m rs
  found_from m [] h = refl
  found_from m (r ∷ rs) h = by (r.0 == owner) refl h (found_from (m + 1) rs) (found_from m rs)
    where
      lent : (g : Bool) → (r.1.grantee == c) ≡ g → (r.1.n == n) ≡ true → (r.0 == owner) ≡ true
          → is_numbered_from (λ o. o.n) m (r.1 ∷ rows_of owner rs) ≡ true
          → option_map grant_of (find is_grant (r ∷ rs))
          ≡ (if g then Some (record { owner = owner; offer = r.1 }) else None)
      lent true to_it its mine here =
          let is : is_grant r ≡ true = grind (arith, its, mine, to_it) in
          let same : r.0 ≡ owner = grind (arith, nat_tests, mine) in
          rw is (ap (λ o. Some (record { owner = o; offer = r.1 })) same)
      lent false other its mine here =
          let not_it : is_grant r ≡ false = grind (arith, other) in
          let less : n < m + 1 = grind (arith, nat_tests, its, here) in
          rw not_it (ap (option_map grant_of) (none_lower (m + 1) rs less (grind (arith, here))))

      at : (b : Bool) → (r.1.n == n) ≡ b → (r.0 == owner) ≡ true
          → is_numbered_from (λ o. o.n) m (r.1 ∷ rows_of owner rs) ≡ true → Found (m + 1) rs
          → option_map grant_of (find is_grant (r ∷ rs))
          ≡ if_lent c owner (if b then Some r.1 else find (λ o. o.n == n) (rows_of owner rs))
      at true its mine here behind = lent (r.1.grantee == c) refl its mine here
      at false other mine here behind =
          let not_it : is_grant r ≡ false = grind (arith, other) in
          rw not_it (behind (grind (arith, here)))

      by : (b : Bool) → (r.0 == owner) ≡ b → is_numbered_from (λ o. o.n) m (rows_of owner (r ∷ rs)) ≡ true
          → Found (m + 1) rs → Found m rs
          → option_map grant_of (find is_grant (r ∷ rs))
          ≡ if_lent c owner (find (λ o. o.n == n) (rows_of owner (r ∷ rs)))
      by true mine h behind others =
          let whole : rows_of owner (r ∷ rs) ≡ r.1 ∷ rows_of owner rs = rw mine refl in
          at (r.1.n == n) refl mine (rw mine at h) behind
          ∙ ap (λ l. if_lent c owner (find (λ o. o.n == n) l)) (sym whole)
      by false other h behind others =
          let not_it : is_grant r ≡ false = grind (arith, other) in
          rw (not_it, other) (others (rw other at h))

  -- the lent clip is the owner's offer of this number, if it is to c
  pub lent_found : (offers : Table Offer) → is_numbered_from (λ o. o.n) 1 (rows_of owner offers) ≡ true
      → if_lent c owner (find (λ o. o.n == n) (rows_of owner offers))
      ≡ find (λ g. g.owner == owner && g.offer.n == n) (grants_to c offers)
  lent_found offers h = sym (found_from 1 offers h) ∙ grant_among c owner n offers

-- a channel that isn't in the plan has no row
not_planned : (plan : List PlanRow) (c : ℕ) → find (λ p. p.ch == c) plan ≡ None → is_planned plan c ≡ false
not_planned [] c none = refl
not_planned (p ∷ plan) c none =
    elim (p.ch == c)
    as (λ b. (if b then Some p else find (λ q. q.ch == c) plan) ≡ None → (b || is_planned plan c) ≡ false) [
      | true ↦ λ e. absurd (cc)
      | false ↦ λ e. not_planned plan c e
    ] none

no_row : {A : Type 0} (plan : List PlanRow) (c : ℕ) (t : Table A) → is_planned plan c ≡ false
    → list_all (λ r. is_planned plan r.0) t ≡ true → rows_of c t ≡ []
no_row plan c [] absent h = refl
no_row plan c (r ∷ rs) absent h = by (r.0 == c) refl (no_row plan c rs absent (grind (arith, h)))
  where
    by : (b : Bool) → (r.0 == c) ≡ b → rows_of c rs ≡ [] → rows_of c (r ∷ rs) ≡ []
    by true mine none =
        let same : r.0 ≡ c = grind (arith, nat_tests, mine) in
        let planned : is_planned plan r.0 ≡ true = grind (arith, h) in
        absurd (let never : is_planned plan c ≡ true = ap (is_planned plan) (sym same) ∙ planned in cc)
    by false other none = rw other none

-- the rules number the clips and all offers
pub sources_numbered : (rows : Centre) (c : ℕ) (p : PlanRow) → KeepsRules rows → plan_of c rows ≡ Some p
    → AreSourcesNumbered c rows
sources_numbered rows c p rules known =
    record { clips = (rules.own c p known).clips.numbers; offers = λ owner. by owner (plan_of owner rows) refl }
  where
    planned : list_all (λ r. is_planned rows.channels r.0) rows.offers ≡ true
    planned = let h : are_tables rows ≡ true = rules.tables in grind (arith, h)

    by : (owner : ℕ) (o : Option PlanRow) → plan_of owner rows ≡ o
        → is_numbered_from (λ o. o.n) 1 (rows_of owner rows.offers) ≡ true
    by owner None absent =
        ap (is_numbered_from (λ (o : Offer). o.n) 1)
        (no_row rows.channels owner rows.offers (not_planned rows.channels owner absent) planned)
    by owner (Some q) there = (rules.own owner q there).offers.numbers
