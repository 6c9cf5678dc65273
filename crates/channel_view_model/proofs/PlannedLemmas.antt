-- A table of the channels of a plan, channel by channel.
use Rattle.std.proofs.Common.{◌≡◌, ◌<◌, ℕ, ◌+◌, List, [], ◌∷◌, ◌++◌, length, take, get_or, Bool, true, false, ◌&&◌, filter}
use Rattle.std.proofs.Common.{refl, sym, ◌∙◌, ap, arith}
use Rattle.std.specs.Prelude.{◌==◌, ◌||◌, nat_lt, nat_le}
use Rattle.std.specs.List.{flat_map, list_all}
use Rattle.std.proofs.lemmas.Bool.Decides.{nat_tests}
use Rattle.std.proofs.lemmas.Grind.{flat_map-append}
use Rattle.std.proofs.lemmas.List.{append-nil, take_more}
use Rattle.channel_plan.specs.declared.plan.PlanRow.{PlanRow}
use Rattle.channel_plan.specs.Plan.{is_plan_in_order}
use Rattle.channel_view_model.specs.Tables.{Table, is_in_order}
use Rattle.channel_view_model.specs.Rules.{is_planned, is_table_of}

-- the rows of these channels, channel after channel
abbrev pub rows_planned : {A : Type 0} → Table A → List PlanRow → Table A
rows_planned table plan = flat_map (λ p. filter (λ s. s.0 == p.ch) table) plan

-- a channel of a plan in order, behind the first
same_past : (c k : ℕ) (plan : List PlanRow) → c ≡ k → list_all (λ q. nat_lt c q.ch) plan ≡ true
    → list_all (λ q. nat_lt k q.ch) plan ≡ true
same_past c k plan same h = ap (λ n. list_all (λ (q : PlanRow). nat_lt n q.ch) plan) (sym same) ∙ h

later : (c d : ℕ) (plan : List PlanRow) → list_all (λ q. nat_lt c q.ch) plan ≡ true → is_planned plan d ≡ true
    → nat_lt c d ≡ true
later c d [] past planned = absurd (cc)
later c d (p ∷ plan) past planned = grind (arith, nat_tests, past, planned, later c d plan)

module _ {A : Type 0} where
  -- the rows of one channel more
  pub planned_more : (table : Table A) (plan : List PlanRow) (k : ℕ) (d : PlanRow) (rows more : Table A)
      → k < length plan → rows ≡ rows_planned table (take k plan) → more ≡ filter (λ s. s.0 == (get_or plan k d).ch) table
      → rows ++ more ≡ rows_planned table (take (k + 1) plan)
  planned_more table plan k d rows more lt front its =
      let f = λ (q : PlanRow). filter (λ s. s.0 == q.ch) table in
      (λ j. front j ++ its j)
      ∙ ap (λ l. flat_map f (take k plan) ++ l) (sym (append-nil (f (get_or plan k d))))
      ∙ sym (flat_map-append f (take k plan) (get_or plan k d ∷ []))
      ∙ ap (flat_map f) (sym (take_more plan k d lt))

  -- a row of a channel that none of these is
  planned_past : (r : ℕ × A) (rs : Table A) (plan : List PlanRow) → list_all (λ q. nat_lt r.0 q.ch) plan ≡ true
      → rows_planned (r ∷ rs) plan ≡ rows_planned rs plan
  planned_past r rs [] past = refl
  planned_past r rs (p ∷ plan) past =
      let other : (r.0 == p.ch) ≡ false = grind (arith, nat_tests, past) in
      let rest = planned_past r rs plan (grind (arith, past)) in
      rw other (ap (λ l. filter (λ s. s.0 == p.ch) rs ++ l) rest)

  -- a channel in front of all rows has none
  none_before : (c : ℕ) (rs : Table A) → list_all (λ s. nat_lt c s.0) rs ≡ true → filter (λ s. s.0 == c) rs ≡ []
  none_before c [] past = refl
  none_before c (r ∷ rs) past =
      let other : (r.0 == c) ≡ false = grind (arith, nat_tests, past) in
      rw other (none_before c rs (grind (arith, past)))

  further : (c k : ℕ) (rs : Table A) → nat_lt c k ≡ true → list_all (λ s. nat_le k s.0) rs ≡ true
      → list_all (λ s. nat_lt c s.0) rs ≡ true
  further c k [] less h = refl
  further c k (r ∷ rs) less h = grind (arith, nat_tests, less, h, further c k rs)

  -- the first row of a table in order stands first
  planned_first : (r : ℕ × A) (rs : Table A) (plan : List PlanRow) → is_plan_in_order plan ≡ true
      → list_all (λ s. nat_le r.0 s.0) rs ≡ true → is_planned plan r.0 ≡ true
      → rows_planned (r ∷ rs) plan ≡ r ∷ rows_planned rs plan
  planned_first r rs [] order after planned = absurd (cc)
  planned_first r rs (p ∷ plan) order after planned =
      by (r.0 == p.ch) refl (planned_first r rs plan (grind (arith, order)) after)
    where
      past : list_all (λ q. nat_lt p.ch q.ch) plan ≡ true
      past = grind (arith, order)

      by : (b : Bool) → (r.0 == p.ch) ≡ b
          → (is_planned plan r.0 ≡ true → rows_planned (r ∷ rs) plan ≡ r ∷ rows_planned rs plan)
          → rows_planned (r ∷ rs) (p ∷ plan) ≡ r ∷ rows_planned rs (p ∷ plan)
      by true mine rest =
          let same : p.ch ≡ r.0 = grind (arith, nat_tests, mine) in
          rw mine
          (ap (λ l. r ∷ filter (λ s. s.0 == p.ch) rs ++ l) (planned_past r rs plan (same_past p.ch r.0 plan same past)))
      by false other rest =
          let its : is_planned plan r.0 ≡ true = grind (arith, nat_tests, other, planned) in
          let less : nat_lt p.ch r.0 ≡ true = later p.ch r.0 plan past its in
          let none = none_before p.ch rs (further p.ch r.0 rs less after) in
          rw other
          (ap (λ l. l ++ rows_planned (r ∷ rs) plan) none
          ∙ rest its
          ∙ ap (λ l. r ∷ (l ++ rows_planned rs plan)) (sym none))

  -- the rows of all channels of the plan are the table
  pub planned_all : (plan : List PlanRow) (table : Table A) → is_plan_in_order plan ≡ true
      → is_table_of plan table ≡ true → rows_planned table plan ≡ table
  planned_all plan table order h = by table (grind (arith, h)) (grind (arith, h))
    where
      none : (ps : List PlanRow) → rows_planned {A = A} [] ps ≡ []
      none [] = refl
      none (p ∷ ps) = none ps

      by : (t : Table A) → is_in_order t ≡ true → list_all (λ r. is_planned plan r.0) t ≡ true
          → rows_planned t plan ≡ t
      by [] order_of planned = none plan
      by (r ∷ rs) order_of planned =
          planned_first r rs plan order (grind (arith, order_of)) (grind (arith, planned))
          ∙ ap (λ l. r ∷ l) (by rs (grind (arith, order_of)) (grind (arith, planned)))
