-- A request that is sent again right after it was done, and a run that is gone on with.
use Rattle.std.proofs.Common.{◌≡◌, ◌⊎◌, ℕ, List, [], ◌∷◌, ◌++◌, Bool, true, false, ◌&&◌, ◌||◌, cond, refl, sym, ◌∙◌, ap}
use Rattle.std.proofs.Common.{subst, inl, inr, ◌<◌, arith}
use Rattle.std.specs.Prelude.{◌==◌, nat_lt, nat_le, find, Option, Some, None, filter, map, Contains, if◌then◌else◌}
use Rattle.std.specs.Option.{option_map}
use Rattle.std.specs.List.{list_all}
use Rattle.std.proofs.lemmas.Bool.Decides.{nat_tests}
use Rattle.channel_plan.specs.declared.plan.PlanRow.{PlanRow}
use Rattle.channel_plan.specs.declared.refusal.Code.{Code}
use Rattle.channel_plan.specs.declared.refusal.Code.TheVariants.{NoDay}
use Rattle.channel_plan.specs.declared.refusal.Refusal.{Refusal}
use Rattle.channel_plan.specs.Refusal.{refused}
use Rattle.vault_core.specs.Own.{own_seen}
use Rattle.vault_core.specs.Rules.{KeepsOwnRules}
use Rattle.playlist_core.specs.declared.day.DayState.TheVariants.{Open}
use Rattle.playlist_core.specs.Source.{SourcesSeen}
use Rattle.playlist_core.specs.Day.{Day}
use Rattle.playlist_core.specs.Difference.{changed_day}
use Rattle.asrun_match.specs.declared.day.DayAsRun.{DayAsRun}
use Rattle.channel_view_model.specs.declared.view.View.{View}
use Rattle.channel_view_model.specs.declared.command.Command.{Command}
use Rattle.channel_view_model.specs.declared.command.Command.TheVariants as commands
use Rattle.channel_view_model.specs.declared.command.Outcome.TheVariants.{Replied}
use Rattle.channel_view_model.specs.declared.command.Reply.{Reply}
use Rattle.channel_view_model.specs.declared.command.Reply.TheVariants as replies
use Rattle.channel_view_model.specs.declared.command.Change.{Change}
use Rattle.channel_view_model.specs.declared.command.Change.TheVariants.{Nothing, Vault as OnVault, Day as OnDay}
use Rattle.channel_view_model.specs.declared.command.Change.TheVariants.{Airing as OnAiring}
use Rattle.channel_view_model.specs.declared.day_command.DayCommand.{DayCommand}
use Rattle.channel_view_model.specs.declared.command.AiringCommand.{AiringCommand}
use Rattle.channel_view_model.specs.Tables.{Table, rows_of, replace_row, is_in_order}
use Rattle.vault_core.specs.Questions.{replaced}
use Rattle.channel_view_model.specs.Seen.{seen_in, sources_seen}
use Rattle.channel_view_model.specs.Days.{is_day_number, no_day, day_or, day_at}
use Rattle.channel_view_model.specs.Airings.{airing_or, airing_at}
use Rattle.channel_view_model.specs.Decide.{Decided, vault_decision, day_decision, airing_decision, numbers_in_range}
use Rattle.channel_view_model.specs.Decide.{decision}
use Rattle.channel_view_model.specs.Centre.{Centre, Request, plan_of, seen_by, changed, reply_at, after_at, reply_to}
use Rattle.channel_view_model.specs.Centre.{after, after_all, view_at, view_of}
use Rattle.channel_view_model.specs.Rules.{KeepsRules, are_days_of}
use Rattle.channel_view_model.specs.Solo.{view_after, solo_after, changed_own}
use Rattle.channel_view_model.proofs.StepLemmas.{seen_is, plan_of-changed}
use Rattle.channel_view_model.proofs.ViewLemmas.{view_of-after_own}
use Rattle.channel_view_model.proofs.RuleLemmas.{KeepsRules-after, days_in_order}
use Rattle.channel_view_laws.specs.Again.{own_done, done_already, may_repeat, IsRefusedByOne, IsDoneOnce, MayBeFound}
use Rattle.channel_view_laws.specs.Runs.{MayRemain}
use Rattle.vault_core.proofs.AgainLemmas.{itself, has_its_number}
use Rattle.channel_view_laws.proofs.AgainOwnLemmas.{OwnAgain, own_again}
use Rattle.channel_view_laws.proofs.AgainDayLemmas.{DayAgain, Refuses, Repeats, day_again}
use Rattle.channel_view_laws.proofs.AgainAiringLemmas.{TakenOnce, airing_again}

-- a day that takes another's place, or its own, is found by its number
module _ {A : Type 0} (key : A → ℕ) where
  pub found_replaced : (n : ℕ) (x : A) (xs : List A) → key x ≡ n → find (λ a. key a == n) (replaced key x xs) ≡ Some x
  found_replaced n x [] is = ap (λ b. cond b (Some x) None) (ap (λ k. k == n) is ∙ itself n)
  found_replaced n x (a ∷ rest) is =
      let here : (key x == n) ≡ true = ap (λ k. k == n) is ∙ itself n in
      elim (key a == key x)
      as (λ b. (key a == key x) ≡ b
      → find (λ a. key a == n)
      (if b then x ∷ rest else if nat_lt (key x) (key a) then x ∷ a ∷ rest else a ∷ replaced key x rest) ≡ Some x) [
        | true ↦ λ e. ap (λ b. cond b (Some x) (find (λ a. key a == n) rest)) here
        | false ↦ λ e.
            elim (nat_lt (key x) (key a))
            as (λ b. find (λ a. key a == n) (if b then x ∷ a ∷ rest else a ∷ replaced key x rest) ≡ Some x) [
              | true ↦ ap (λ b. cond b (Some x) (find (λ a. key a == n) (a ∷ rest))) here
              | false ↦
                  let other : (key a == n) ≡ false = ap (λ k. key a == k) (sym is) ∙ e in
                  ap (λ b. cond b (Some a) (find (λ a. key a == n) (replaced key x rest))) other
                  ∙ found_replaced n x rest is
            ]
      ] refl

-- What comes of a command that is decided again over what its own change left.
data Again (v : View) (q : Command) (d : Decided) : Type 0 where
  Unchanged : d.1 ≡ Nothing → Again v q d
  SameDay : (day : Day) → find (λ x. x.number == day.number) v.days ≡ Some day → d.1 ≡ OnDay (changed_day day day)
      → Again v q d
  Done : (reply : Reply) → IsRefusedByOne (done_already q) (Replied reply)
      → decision (seen_in (view_after d.1 v)) q ≡ (reply, Nothing) → Again v q d
  Repeated : (day : Day) → may_repeat q ≡ true → find (λ x. x.number == day.number) (view_after d.1 v).days ≡ Some day
      → decision (seen_in (view_after d.1 v)) q ≡ (d.0, OnDay (changed_day day day)) → Again v q d
  AsBefore : done_already q ≡ [] → decision (seen_in (view_after d.1 v)) q ≡ (d.0, Nothing) → Again v q d

own_case : (v : View) (q : _) → KeepsOwnRules v.own
    → Again v (commands.Vault q) (decision (seen_in v) (commands.Vault q))
unfolding decision
own_case v q rules = by (own_again v.own q rules)
  where
    after_own : (ch : Change) → (view_after ch v).own ≡ changed_own ch v.own
    after_own Nothing = refl
    after_own (OnVault put change) = refl
    after_own (OnDay change) = refl
    after_own (OnAiring airing) = refl

    by : OwnAgain q (vault_decision (own_seen v.own) q) v.own
        → Again v (commands.Vault q) (vault_decision (own_seen v.own) q)
    by (inl e) = Unchanged e
    by (inr e) =
        Done (replies.Refused (refused (own_done q))) (inl refl)
        (ap (λ own. vault_decision (own_seen own) q) (after_own (vault_decision (own_seen v.own) q).1) ∙ e)

-- the day that a command is about
abbrev day_of : View → ℕ → Day
day_of v n = day_at v.own.plan (seen_in v).days n

day_is : (v : View) (n : ℕ) → (day_of v n).number ≡ n
day_is v n = by (find (λ x. x.number == n) v.days) refl
  where
    by : (o : Option Day) → find (λ x. x.number == n) v.days ≡ o → (day_or (no_day v.own.plan n) o).number ≡ n
    by None e = refl
    by (Some x) e = has_its_number (λ (d : Day). d.number) n v.days x e

day_found : (v : View) (n : ℕ) → (day_of v n).state ≡ Open
    → find (λ x. x.number == (day_of v n).number) v.days ≡ Some (day_of v n)
day_found v n is_open =
    ap (λ k. find (λ x. x.number == k) v.days) (day_is v n) ∙ by (find (λ x. x.number == n) v.days) is_open
  where
    by : (o : Option Day) → (day_or (no_day v.own.plan n) o).state ≡ Open → o ≡ Some (day_or (no_day v.own.plan n) o)
    by None h = absurd (cc)
    by (Some x) h = refl

day_case : (v : View) (n : ℕ) (q : DayCommand) → Again v (commands.Day n q) (decision (seen_in v) (commands.Day n q))
unfolding decision
day_case v n q = by (numbers_in_range n q) refl
  where
    plan : PlanRow
    plan = v.own.plan

    sources : SourcesSeen
    sources = sources_seen (seen_in v)

    first : Decided
    first = day_decision plan (day_of v n) sources q

    of : numbers_in_range n q ≡ true → DayAgain plan sources q (day_of v n) first → Again v (commands.Day n q) first
    of is (inl e) = Unchanged e
    of is (inr (inl same)) = SameDay (day_of v n) (day_found v n same.0) same.1
    of is (inr (inr c)) = of_again c.again
      where
        again : decision (seen_in (view_after first.1 v)) (commands.Day n q) ≡ day_decision plan c.after sources q
        again =
            ap (λ ch. decision (seen_in (view_after ch v)) (commands.Day n q)) c.change
            ∙ ap
            (λ b. if b
            then day_decision plan
            (day_or (no_day plan n) (find (λ x. x.number == n) (replaced (λ d. d.number) c.after v.days))) sources q
            else (replies.Refused (refused NoDay), Nothing)) is
            ∙ ap (λ o. day_decision plan (day_or (no_day plan n) o) sources q)
            (found_replaced (λ (d : Day). d.number) n c.after v.days (c.number ∙ day_is v n))

        of_again : Refuses plan sources q c.after ⊎ Repeats plan sources q c.after first.0
            → Again v (commands.Day n q) first
        of_again (inl why) = Done why.reply why.says (again ∙ why.is)
        of_again (inr same) =
            Repeated c.after (same.may n)
            (ap (λ ch. find (λ x. x.number == c.after.number) (view_after ch v).days) c.change
            ∙ found_replaced (λ (d : Day). d.number) c.after.number c.after v.days refl)
            (again ∙ same.is)

    by : (b : Bool) → numbers_in_range n q ≡ b
        → Again v (commands.Day n q) (if b then first else (replies.Refused (refused NoDay), Nothing))
    by true is = of is (day_again plan sources (day_of v n) q)
    by false is = Unchanged refl

airing_case : (v : View) (n : ℕ) (q : AiringCommand)
    → Again v (commands.Airing n q) (decision (seen_in v) (commands.Airing n q))
unfolding decision
airing_case v n q = by (is_day_number n) refl
  where
    plan : PlanRow
    plan = v.own.plan

    first : Decided
    first = airing_decision plan (day_of v n) (airing_at plan (seen_in v).aired n) q

    of : is_day_number n ≡ true → (first.1 ≡ Nothing) ⊎ TakenOnce plan (day_of v n) q first
        → Again v (commands.Airing n q) first
    of is (inl e) = Unchanged e
    of is (inr t) =
        let taken : DayAsRun = record { day = (day_of v n).number; aired = t.after } in
        AsBefore refl
        (ap (λ ch. decision (seen_in (view_after ch v)) (commands.Airing n q)) t.change
        ∙ ap
        (λ b. if b
        then airing_decision plan (day_of v n)
        (airing_or plan (find (λ a. a.day == n) (replaced (λ a. a.day) taken v.aired))) q
        else (replies.Refused (refused NoDay), Nothing)) is
        ∙ ap (λ o. airing_decision plan (day_of v n) (airing_or plan o) q)
        (found_replaced (λ (a : DayAsRun). a.day) n taken v.aired (day_is v n))
        ∙ t.again)

    by : (b : Bool) → is_day_number n ≡ b
        → Again v (commands.Airing n q) (if b then first else (replies.Refused (refused NoDay), Nothing))
    by true is = of is (airing_again plan (day_of v n) (airing_at plan (seen_in v).aired n) q)
    by false is = Unchanged refl

table_case : (v : View) (table : _) → Again v (commands.Table table) (decision (seen_in v) (commands.Table table))
unfolding decision
table_case v table = Unchanged refl

row_case : (v : View) → Again v commands.PlanRow (decision (seen_in v) commands.PlanRow)
unfolding decision
row_case v = Unchanged refl

again : (v : View) (q : Command) → KeepsOwnRules v.own → Again v q (decision (seen_in v) q)
again v (commands.Vault q) rules = own_case v q rules
again v (commands.Day n q) rules = day_case v n q
again v (commands.Airing n q) rules = airing_case v n q
again v commands.PlanRow rules = row_case v
again v (commands.Table table) rules = table_case v table

-- a day that is put in its own place leaves the table
rows_none : (c a : ℕ) (rs : Table Day) → nat_lt c a ≡ true → list_all (λ s. nat_le a s.0) rs ≡ true → rows_of c rs ≡ []
rows_none c a [] lt h = refl
rows_none c a (r ∷ rs) lt h =
    let rest : rows_of c rs ≡ [] = rows_none c a rs lt (grind (arith, h)) in
    let other : (r.0 == c) ≡ false = grind (arith, nat_tests, lt, h) in
    ap (λ b. map (λ s. s.1) (cond b (r ∷ filter (λ s. s.0 == c) rs) (filter (λ s. s.0 == c) rs))) other ∙ rest

module _ (plan : PlanRow) (seen : SourcesSeen) where
  number_past : (last n : ℕ) (days : List Day) (day : Day) → are_days_of plan seen last days ≡ true
      → find (λ x. x.number == n) days ≡ Some day → last < day.number
  number_past last n [] day h found = absurd (cc)
  number_past last n (x ∷ days) day h found =
      let first : nat_lt last x.number ≡ true = grind (arith, h) in
      let rest : are_days_of plan seen x.number days ≡ true = grind (arith, h) in
      let less : last < x.number = grind (arith, nat_tests, first) in
      elim (x.number == n) as (λ b. cond b (Some x) (find (λ x. x.number == n) days) ≡ Some day → last < day.number) [
        | true ↦ λ e. let same : x ≡ day = cc in subst (λ (y : Day). last < y.number) same less
        | false ↦ λ e. let more = number_past x.number n days day rest e in omega (arith, less, more)
      ] found

  put_back : (c last : ℕ) (table : Table Day) (day : Day) → is_in_order table ≡ true
      → are_days_of plan seen last (rows_of c table) ≡ true
      → find (λ x. x.number == day.number) (rows_of c table) ≡ Some day
      → replace_row (λ d. d.number) c day table ≡ table
  put_back c last [] day order rise found = absurd (cc)
  put_back c last (r ∷ rs) day order rise found =
      let next : is_in_order rs ≡ true = grind (arith, order) in
      let rest : (from : ℕ) → are_days_of plan seen from (rows_of c rs) ≡ true
      → find (λ x. x.number == day.number) (rows_of c rs) ≡ Some day → replace_row (λ d. d.number) c day rs ≡ rs =
      λ from. put_back c from rs day next in
      elim (r.0 == c)
      as (λ b. (r.0 == c) ≡ b
      → are_days_of plan seen last
      (map (λ r. r.1) (cond b (r ∷ filter (λ r. r.0 == c) rs) (filter (λ r. r.0 == c) rs))) ≡ true
      → find (λ x. x.number == day.number)
      (map (λ r. r.1) (cond b (r ∷ filter (λ r. r.0 == c) rs) (filter (λ r. r.0 == c) rs))) ≡ Some day
      → (if b && r.1.number == day.number then (c, day) ∷ rs else if nat_lt c r.0
      || (b && nat_lt day.number r.1.number) then (c, day) ∷ r ∷ rs else r ∷ replace_row (λ d. d.number) c day rs)
      ≡ r ∷ rs) [
        | true ↦ λ is rise found. own is rest (grind (arith, rise)) found
        | false ↦ λ is rise found. other order rest rise found
      ] refl rise found
    where
      own : (r.0 == c) ≡ true
          → ((from : ℕ) → are_days_of plan seen from (rows_of c rs) ≡ true
          → find (λ x. x.number == day.number) (rows_of c rs) ≡ Some day → replace_row (λ d. d.number) c day rs ≡ rs)
          → are_days_of plan seen r.1.number (rows_of c rs) ≡ true
          → (if r.1.number == day.number then Some r.1 else find (λ x. x.number == day.number) (rows_of c rs))
          ≡ Some day
          → (if r.1.number == day.number then (c, day) ∷ rs else if nat_lt c r.0
          || nat_lt day.number r.1.number then (c, day) ∷ r ∷ rs else r ∷ replace_row (λ d. d.number) c day rs) ≡ r ∷ rs
      own is rest rise found =
          let channel : r.0 ≡ c = grind (arith, nat_tests, is) in
          elim (r.1.number == day.number)
          as (λ b. (if b then Some r.1 else find (λ x. x.number == day.number) (rows_of c rs)) ≡ Some day
          → (if b then (c, day) ∷ rs else if nat_lt c r.0
          || nat_lt day.number r.1.number then (c, day) ∷ r ∷ rs else r ∷ replace_row (λ d. d.number) c day rs)
          ≡ r ∷ rs) [
            | true ↦ λ h. let same : r.1 ≡ day = cc in λ i. (sym channel i, sym same i) ∷ rs
            | false ↦ λ h.
                let more : r.1.number < day.number = number_past r.1.number day.number (rows_of c rs) day rise h in
                let none : (nat_lt c r.0 || nat_lt day.number r.1.number) ≡ false =
                grind (arith, nat_tests, channel, more) in
                ap (λ b. if b then (c, day) ∷ r ∷ rs else r ∷ replace_row (λ d. d.number) c day rs) none
                ∙ ap (λ t. r ∷ t) (rest r.1.number rise h)
          ] found

      other : is_in_order (r ∷ rs) ≡ true
          → ((from : ℕ) → are_days_of plan seen from (rows_of c rs) ≡ true
          → find (λ x. x.number == day.number) (rows_of c rs) ≡ Some day → replace_row (λ d. d.number) c day rs ≡ rs)
          → are_days_of plan seen last (rows_of c rs) ≡ true
          → find (λ x. x.number == day.number) (rows_of c rs) ≡ Some day
          → (if nat_lt c r.0 || false then (c, day) ∷ r ∷ rs else r ∷ replace_row (λ d. d.number) c day rs) ≡ r ∷ rs
      other order rest rise found =
          elim (nat_lt c r.0)
          as (λ b. nat_lt c r.0 ≡ b
          → (if b || false then (c, day) ∷ r ∷ rs else r ∷ replace_row (λ d. d.number) c day rs) ≡ r ∷ rs) [
            | true ↦ λ lt. absurd
                (let none = rows_none c r.0 rs lt (grind (arith, order)) in
                let gone = sym (ap (find (λ x. x.number == day.number)) none) ∙ found in cc)
            | false ↦ λ isnt. ap (λ t. r ∷ t) (rest last rise found)
          ] refl

unchanged_once : (rows : Centre) (r : Request) → after rows r ≡ rows → IsDoneOnce rows r
unchanged_once rows r e =
    record {
      stays = ap (λ x. after x r) e;
      as_before = λ _. ap (λ x. reply_to x r) e;
      done =
          λ code codes says differs. absurd (differs e);
    }

-- A request of a channel in the plan, and what its command decides.
module _ (c : ℕ) (q : Command) (rows : Centre) (rules : KeepsRules rows) (p : PlanRow) (known : plan_of c rows ≡ Some p)
  where
    abbrev v : View
    v = view_at c rows p

    abbrev d : Decided
    d = decision (seen_in v) q

    -- the second decision
    abbrev second : Decided
    second = decision (seen_in (view_after d.1 v)) q

    abbrev later : Centre
    later = after rows (c, q)

    after_is : after rows (c, q) ≡ changed c d.1 rows
    unfolding after
    after_is = ap (λ o. after_at o rows (c, q)) known ∙ ap (λ s. changed c (decision s q).1 rows) (seen_is c p rows)

    first_reply : reply_to rows (c, q) ≡ Replied d.0
    unfolding reply_to
    first_reply = ap (λ o. reply_at o rows (c, q)) known ∙ ap (λ s. Replied (decision s q).0) (seen_is c p rows)

    still_known : plan_of c later ≡ Some p
    still_known = ap (plan_of c) after_is ∙ plan_of-changed c c d.1 rows ∙ known

    seen_later : view_at c later p ≡ view_after d.1 v
    unfolding view_of solo_after
    seen_later =
        let is : Some (view_at c later p) ≡ Some (view_after d.1 v) =
        sym (ap (option_map (view_at c later)) still_known) ∙ view_of-after_own c q rows rules
        ∙ ap (λ o. solo_after (option_map (view_at c rows) o) q) known in
        cc

    decided_later : decision (seen_by c p later) q ≡ second
    decided_later = ap (λ s. decision s q) (seen_is c p later ∙ ap seen_in seen_later)

    after_later : after later (c, q) ≡ changed c second.1 later
    unfolding after
    after_later = ap (λ o. after_at o later (c, q)) still_known ∙ ap (λ x. changed c x.1 later) decided_later

    reply_later : reply_to later (c, q) ≡ Replied second.0
    unfolding reply_to
    reply_later = ap (λ o. reply_at o later (c, q)) still_known ∙ ap (λ x. Replied x.0) decided_later

    by_case : Again v q d → IsDoneOnce rows (c, q)
    unfolding changed
    by_case (Unchanged none) = unchanged_once rows (c, q) (after_is ∙ ap (λ ch. changed c ch rows) none)
    by_case (SameDay day found none) =
        unchanged_once rows (c, q)
        (after_is ∙ ap (λ ch. changed c ch rows) none
        ∙ ap (λ (t : Table Day). let x : Centre = record rows { days = t } in x)
        (put_back p (sources_seen (seen_by c p rows)) c 0 rows.days day (days_in_order rows rules)
        (rules.days.seen c p known) found))
    by_case (Done reply says is) =
        record {
          stays = after_later ∙ ap (λ (x : Decided). changed c x.1 later) is;
          as_before = λ why. of_two why;
          done = λ code codes told differs.
              inl (subst (IsRefusedByOne (code ∷ codes)) (sym (reply_later ∙ ap (λ (x : Decided). Replied x.0) is))
              (subst (λ all. IsRefusedByOne all (Replied reply)) told says));
        }
      where
        of_two : (after rows (c, q) ≡ rows) ⊎ (done_already q ≡ []) → reply_to later (c, q) ≡ reply_to rows (c, q)
        of_two (inl same) = ap (λ x. reply_to x (c, q)) same
        of_two (inr none) = absurd (subst (λ all. IsRefusedByOne all (Replied reply)) none says)
    by_case (Repeated day may found is) =
        record {
          stays = after_later ∙ ap (λ (x : Decided). changed c x.1 later) is
              ∙ ap (λ (t : Table Day). let x : Centre = record later { days = t } in x)
              (put_back p (sources_seen (seen_by c p later)) c 0 later.days day (days_in_order later rules_later)
              (rules_later.days.seen c p still_known)
              (ap (λ (w : View). find (λ x. x.number == day.number) w.days) seen_later ∙ found));
          as_before = λ why. again;
          done = λ code codes told differs. inr (may, again);
        }
      where
        again : reply_to later (c, q) ≡ reply_to rows (c, q)
        again = reply_later ∙ ap (λ (x : Decided). Replied x.0) is ∙ sym first_reply

        rules_later : KeepsRules later
        rules_later = KeepsRules-after rows (c, q) rules
    by_case (AsBefore none is) =
        record {
          stays = after_later ∙ ap (λ (x : Decided). changed c x.1 later) is;
          as_before = λ why. reply_later ∙ ap (λ (x : Decided). Replied x.0) is ∙ sym first_reply;
          done = λ code codes says differs. absurd (let both = sym says ∙ none in cc);
        }

-- A request that is sent again is done once.
pub done_once : (rows : Centre) → KeepsRules rows → (r : Request) → IsDoneOnce rows r
unfolding after
done_once rows rules (c, q) = under (plan_of c rows) refl
  where
    under : (o : Option PlanRow) → plan_of c rows ≡ o → IsDoneOnce rows (c, q)
    under None e = unchanged_once rows (c, q) (ap (λ o. after_at o rows (c, q)) e)
    under (Some p) e = by_case c q rows rules p e (again (view_at c rows p) q (rules.own c p e))

-- runs one after the other
pub after_all-append : (rows : Centre) (rs ss : List Request)
    → after_all rows (rs ++ ss) ≡ after_all (after_all rows rs) ss
after_all-append rows [] ss = refl
after_all-append rows (r ∷ rs) ss = after_all-append (after rows r) rs ss

rules_kept : (rows : Centre) → KeepsRules rows → (rs : List Request) → KeepsRules (after_all rows rs)
rules_kept rows rules [] = rules
rules_kept rows rules (r ∷ rs) = rules_kept (after rows r) (KeepsRules-after rows r rules) rs

-- A run that is gone on with, from the first request that isn't known to be done, ends as one that wasn't cut short.
pub resumed : (rows : Centre) → KeepsRules rows → (known rest : List Request) (found : Centre)
    → MayBeFound rows known rest found → after_all found rest ≡ after_all rows (known ++ rest)
resumed rows rules known rest found (inl same) =
    ap (λ x. after_all x rest) same ∙ sym (after_all-append rows known rest)
resumed rows rules known [] found (inr next) = next ∙ sym (after_all-append rows known [])
resumed rows rules known (r ∷ rest) found (inr next) =
    ap (λ x. after_all (after x r) rest) next
    ∙ ap (λ x. after_all x rest) (done_once (after_all rows known) (rules_kept rows rules known) r).stays
    ∙ sym (after_all-append rows known (r ∷ rest))

-- So is one that a stop cut short, where each request was tried until it was done, so that no other is in doubt.
pub resumed_after_stop : (rows : Centre) → KeepsRules rows
    → (known : List Request) (next : Request) (rest in_doubt : List Request) (left : Centre)
    → MayRemain in_doubt (after_all rows known) left
    → ((r : Request) → Contains in_doubt r → r ≡ next)
    → after_all left (next ∷ rest) ≡ after_all rows (known ++ next ∷ rest)
resumed_after_stop rows rules known next rest in_doubt left (inl same) one =
    resumed rows rules known (next ∷ rest) left (inl same)
resumed_after_stop rows rules known next rest in_doubt left (inr (r, there, is)) one =
    resumed rows rules known (next ∷ rest) left (inr (is ∙ ap (after (after_all rows known)) (one r there)))
