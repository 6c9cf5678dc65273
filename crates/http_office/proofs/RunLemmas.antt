-- Things asked one after another.
use Rattle.std.proofs.Common.{◌≡◌, ◌⊎◌, ℕ, ◌+◌, ◌<◌, List, [], ◌∷◌, ◌++◌, length, map, take, get_or, inl, inr, refl}
use Rattle.std.proofs.Common.{sym, ap, subst, ◌∙◌, length-append, arith}
use Rattle.std.proofs.lemmas.List.{take_more, map-append}
use Rattle.std.proofs.Common.{Vec, Global}
use Rattle.channel_view_model.specs.declared.command.Outcome.{Outcome}
use Rattle.channel_view_model.specs.declared.command.Outcome.TheVariants as outcome
use Rattle.channel_view_model.specs.Centre.{Centre, Request, after, after_all}
use Rattle.channel_view_model.specs.Rules.{KeepsRules}
use Rattle.channel_view_laws.specs.Requests.{stop_after}
use Rattle.http_office_requests.specs.Request.{Asked, refused, command}
use Rattle.http_office.specs.Message.{Answers, IsAskedBy, rows_left, stop_asked, outcome_of}
use Rattle.http_office.specs.Run.{HasAnswered, AreAskedBy, AnswersAll, rows_left_by, stop_after_messages}
use Rattle.http_office.specs.Alone.{kept_commands}
use Rattle.http_office_answers.specs.declared.answers.Answer.{Answer}
use Rattle.http_office_answers.specs.declared.answers.Answer.TheVariants.{Given, Unavailable}
use Rattle.http_office.proofs.MessageLemmas.{rows_left-refused}

-- ---- more is asked after what was asked before

module _ (bs : List Asked) (ys : List Answer) where
  answers_then : (rows : Centre) (before : List Asked) (xs : List Answer) → AnswersAll rows before xs
      → AnswersAll (rows_left_by rows before xs) bs ys → AnswersAll rows (before ++ bs) (xs ++ ys)
  answers_then rows [] [] h k = k
  answers_then rows (a ∷ before) (x ∷ xs) h k = (h.0, answers_then (rows_left rows a x) before xs h.1 k)
  answers_then rows [] (x ∷ xs) h k = absurd h
  answers_then rows (a ∷ before) [] h k = absurd h

  rows_then : (rows : Centre) (before : List Asked) (xs : List Answer) → AnswersAll rows before xs
      → rows_left_by (rows_left_by rows before xs) bs ys ≡ rows_left_by rows (before ++ bs) (xs ++ ys)
  rows_then rows [] [] h = refl
  rows_then rows (a ∷ before) (x ∷ xs) h = rows_then (rows_left rows a x) before xs h.1
  rows_then rows [] (x ∷ xs) h = absurd h
  rows_then rows (a ∷ before) [] h = absurd h

  stop_then : (P : Centre → Type 0) (rows : Centre) (before : List Asked) (xs : List Answer) (left : Centre)
      → AnswersAll rows before xs
      → stop_after_messages (stop_after_messages P rows before xs) (rows_left_by rows before xs) bs ys left
      → stop_after_messages P rows (before ++ bs) (xs ++ ys) left
  stop_then P rows [] [] left h k = k
  stop_then P rows (a ∷ before) (x ∷ xs) left h k =
      stop_then (stop_asked P rows a x) (rows_left rows a x) before xs left h.1 k
  stop_then P rows [] (x ∷ xs) left h k = absurd h
  stop_then P rows (a ∷ before) [] left h k = absurd h

-- the commands that were kept, and the rows after them
kept_then : (before bs : List Asked) (xs ys : List Answer) → length before ≡ length xs
    → kept_commands (before ++ bs) (xs ++ ys) ≡ kept_commands before xs ++ kept_commands bs ys
kept_then [] bs [] ys e = refl
kept_then [] bs (x ∷ xs) ys e = absurd (omega arith)
kept_then (a ∷ before) bs [] ys e = absurd (omega arith)
kept_then (refused status ∷ before) bs (Given bytes ∷ xs) ys e = kept_then before bs xs ys (omega arith)
kept_then (refused status ∷ before) bs (Unavailable ∷ xs) ys e = kept_then before bs xs ys (omega arith)
kept_then (command b q ∷ before) bs (Unavailable ∷ xs) ys e = kept_then before bs xs ys (omega arith)
kept_then (command b q ∷ before) bs (Given bytes ∷ xs) ys e =
    ap (λ ks. (b, q) ∷ ks) (kept_then before bs xs ys (omega arith))

pub left_is : (rows : Centre) (asked : List Asked) (answers : List Answer)
    → rows_left_by rows asked answers ≡ after_all rows (kept_commands asked answers)
left_is rows [] xs = refl
left_is rows (a ∷ asked) [] = refl
left_is rows (refused status ∷ asked) (Given bytes ∷ answers) = left_is rows asked answers
left_is rows (refused status ∷ asked) (Unavailable ∷ answers) = left_is rows asked answers
left_is rows (command b q ∷ asked) (Unavailable ∷ answers) = left_is rows asked answers
left_is rows (command b q ∷ asked) (Given bytes ∷ answers) = left_is (after rows (b, q)) asked answers

rules_then : (bs : List Asked) (ys : List Answer) (rows : Centre) (before : List Asked) (xs : List Answer)
    → length before ≡ length xs → (kept_commands before xs ≡ []) ⊎ KeepsRules rows
    → (kept_commands bs ys ≡ []) ⊎ KeepsRules (rows_left_by rows before xs)
    → (kept_commands (before ++ bs) (xs ++ ys) ≡ []) ⊎ KeepsRules rows
rules_then bs ys rows before xs e (inr rules) k = inr rules
rules_then bs ys rows before xs e (inl none) (inl more) =
    inl (kept_then before bs xs ys e ∙ ap (λ ks. ks ++ kept_commands bs ys) none ∙ more)
rules_then bs ys rows before xs e (inl none) (inr rules) =
    inr (subst KeepsRules (left_is rows before xs ∙ ap (after_all rows) none) rules)

-- ---- what a stop may leave, where it might leave less before

stop_after_within : (P Q : Centre → Type 0) → ((l : Centre) → P l → Q l)
    → (rows : Centre) (r : Request) (o : Outcome) (left : Centre) → stop_after P rows r o left
    → stop_after Q rows r o left
stop_after_within P Q f rows r outcome.Unavailable left (inl p) = inl (f left p)
stop_after_within P Q f rows r outcome.Unavailable left (inr e) = inr e
stop_after_within P Q f rows r outcome.NoChannel left p = f left p
stop_after_within P Q f rows r (outcome.Replied reply) left (inl e) = inl e
stop_after_within P Q f rows r (outcome.Replied reply) left (inr (same, p)) = inr (same, f left p)

stop_asked_within : (P Q : Centre → Type 0) → ((l : Centre) → P l → Q l)
    → (rows : Centre) (a : Asked) (x : Answer) (left : Centre) → stop_asked P rows a x left → stop_asked Q rows a x left
stop_asked_within P Q f rows (refused status) x left p = f left p
stop_asked_within P Q f rows (command channel q) x left p =
    stop_after_within P Q f rows (channel, q) (outcome_of rows (channel, q) x) left p

pub stop_within : (P Q : Centre → Type 0) → ((l : Centre) → P l → Q l)
    → (rows : Centre) (asked : List Asked) (xs : List Answer) (left : Centre) → stop_after_messages P rows asked xs left
    → stop_after_messages Q rows asked xs left
stop_within P Q f rows [] xs left p = f left p
stop_within P Q f rows (a ∷ asked) [] left p = f left p
stop_within P Q f rows (a ∷ asked) (x ∷ xs) left p =
    stop_within (stop_asked P rows a x) (stop_asked Q rows a x) (λ l h. stop_asked_within P Q f rows a x l h)
    (rows_left rows a x) asked xs left p

-- ---- what a store did

module _ {S : Type 0} (is_clean : S → Type 0) (stands_for may_leave : S → Centre → Type 0) (leaves_sets : S → Type 0)
  where
    -- nothing was asked
    pub did_nothing : (store : S) → HasAnswered is_clean stands_for may_leave leaves_sets store store [] []
    did_nothing store = record {
      clean = λ clean. clean;
      each = refl;
      rules = λ clean rows stands. inl refl;
      answered = λ clean rows stands. tt;
      rows = λ clean rows stands. stands;
      stop = λ clean rows stands left may. may;
      sets = λ clean rows stands before. before;
    }

    -- a message that asks nothing of a channel
    pub refused_did : (store : S) (status : ℕ) (x : Answer) → ((rows : Centre) → Answers rows (refused status) x)
        → HasAnswered is_clean stands_for may_leave leaves_sets store store (refused status ∷ []) (x ∷ [])
    refused_did store status x h = record {
      clean = λ clean. clean;
      each = refl;
      rules = λ clean rows stands. inl refl;
      answered = λ clean rows stands. (h rows, tt);
      rows = λ clean rows stands. subst (stands_for store) (sym (rows_left-refused rows status x)) stands;
      stop = λ clean rows stands left may. may;
      sets = λ clean rows stands before. before;
    }

    -- this was asked, and then that
    pub did_then : (old mid new : S) (as_ bs : List Asked) (xs ys : List Answer)
        → HasAnswered is_clean stands_for may_leave leaves_sets old mid as_ xs
        → HasAnswered is_clean stands_for may_leave leaves_sets mid new bs ys
        → HasAnswered is_clean stands_for may_leave leaves_sets old new (as_ ++ bs) (xs ++ ys)
    did_then old mid new as_ bs xs ys h k = record {
      clean = λ clean. h.clean (k.clean clean);
      each = omega (arith, h.each, k.each, length-append as_ bs, length-append xs ys);
      rules = λ clean rows stands.
          rules_then bs ys rows as_ xs h.each (h.rules (k.clean clean) rows stands)
          (k.rules clean (rows_left_by rows as_ xs) (h.rows (k.clean clean) rows stands));
      answered = λ clean rows stands.
          answers_then bs ys rows as_ xs (h.answered (k.clean clean) rows stands)
          (k.answered clean (rows_left_by rows as_ xs) (h.rows (k.clean clean) rows stands));
      rows = λ clean rows stands.
          subst (stands_for new) (rows_then bs ys rows as_ xs (h.answered (k.clean clean) rows stands))
          (k.rows clean (rows_left_by rows as_ xs) (h.rows (k.clean clean) rows stands));
      stop = λ clean rows stands left may.
          stop_then bs ys (may_leave old) rows as_ xs left (h.answered (k.clean clean) rows stands)
          (stop_within (may_leave mid) (stop_after_messages (may_leave old) rows as_ xs)
          (λ l m. h.stop (k.clean clean) rows stands l m) (rows_left_by rows as_ xs) bs ys left
          (k.stop clean (rows_left_by rows as_ xs) (h.rows (k.clean clean) rows stands) left may));
      sets = λ clean rows stands before.
          k.sets clean (rows_left_by rows as_ xs) (h.rows (k.clean clean) rows stands)
          (h.sets (k.clean clean) rows stands before);
    }

    -- what was asked, of which it is known what it is
    pub did_asked : (old new : S) (a b : Asked) (x : Answer) → a ≡ b
        → HasAnswered is_clean stands_for may_leave leaves_sets old new (a ∷ []) (x ∷ [])
        → HasAnswered is_clean stands_for may_leave leaves_sets old new (b ∷ []) (x ∷ [])
    did_asked old new a b x e h =
        subst (λ (c : Asked). HasAnswered is_clean stands_for may_leave leaves_sets old new (c ∷ []) (x ∷ [])) e h

-- ---- messages by themselves

pub asked_then : (ms ns : List (List ℕ)) (as_ bs : List Asked) → AreAskedBy ms as_ → AreAskedBy ns bs
    → AreAskedBy (ms ++ ns) (as_ ++ bs)
asked_then [] ns [] bs h k = k
asked_then (m ∷ ms) ns (a ∷ as_) bs h k = (h.0, asked_then ms ns as_ bs h.1 k)
asked_then [] ns (a ∷ as_) bs h k = absurd h
asked_then (m ∷ ms) ns [] bs h k = absurd h

-- one more message
asked_more : (messages : List (Vec ℕ Global)) (i : ℕ) (item : Vec ℕ Global) (text : List ℕ) (as_ : List Asked)
    (a : Asked) → i < length messages
    → item ≡ get_or messages i item → text ≡ item.items → AreAskedBy (map (λ m. m.items) (take i messages)) as_
    → IsAskedBy text a
    → AreAskedBy (map (λ m. m.items) (take (i + 1) messages)) (as_ ++ a ∷ [])
asked_more messages i item text as_ a lt is seen h k =
    let text_is : text ≡ (get_or messages i item).items = seen ∙ ap (λ (v : Vec ℕ Global). v.items) is in
    rw (take_more messages i item lt, map-append)
    (asked_then (map (λ m. m.items) (take i messages)) _ as_ (a ∷ []) h
    (subst (λ (l : List ℕ). IsAskedBy l a) text_is k, tt))

module _ {S : Type 0} (is_clean : S → Type 0) (stands_for may_leave : S → Centre → Type 0) (leaves_sets : S → Type 0)
    (old mid new : S) where
  pub all_step : (messages : List (Vec ℕ Global)) (answers now : List Answer) (i : ℕ) (item : Vec ℕ Global)
      (text : List ℕ) (x : Answer) → i < length messages
      → ((asked : List Asked) × AreAskedBy (map (λ m. m.items) (take i messages)) asked
      × HasAnswered is_clean stands_for may_leave leaves_sets old mid asked answers)
      → item ≡ get_or messages i item → text ≡ item.items
      → ((a : Asked) × IsAskedBy text a
      × HasAnswered is_clean stands_for may_leave leaves_sets mid new (a ∷ []) (x ∷ []))
      → now ≡ answers ++ x ∷ []
      → (asked : List Asked) × AreAskedBy (map (λ m. m.items) (take (i + 1) messages)) asked
      × HasAnswered is_clean stands_for may_leave leaves_sets old new asked now
  all_step messages answers now i item text x lt so_far is seen one pushed = (
    so_far.0 ++ one.0 ∷ [],
    asked_more messages i item text so_far.0 one.0 lt is seen so_far.1 one.1,
    subst (HasAnswered is_clean stands_for may_leave leaves_sets old new (so_far.0 ++ one.0 ∷ [])) (sym pushed)
        (did_then is_clean stands_for may_leave leaves_sets old mid new so_far.0 (one.0 ∷ []) answers (x ∷ []) so_far.2
        one.2),
  )
