-- What each channel is given for its messages.
use Rattle.std.proofs.Common.{◌≡◌, ◌≤◌, ◌⊎◌, inl, inr, ℕ, List, [], ◌∷◌, Bool, true, false, map, take, length, refl}
use Rattle.std.proofs.Common.{sym, ap, subst, ◌∙◌, Vec, Global}
use Rattle.std.proofs.lemmas.List.{take_all}
use Rattle.std.specs.Prelude.{Option, Some, None, ◌==◌, if◌then◌else◌}
use Rattle.channel_plan.specs.declared.plan.PlanRow.{PlanRow}
use Rattle.channel_view_model.specs.declared.command.Outcome.{Outcome}
use Rattle.channel_view_model.specs.declared.command.Outcome.TheVariants as outcome
use Rattle.channel_view_model.specs.declared.command.Command.{Command}
use Rattle.channel_view_model.specs.Centre.{Centre, Request, reply_at, reply_to, after, after_all, plan_of, view_of}
use Rattle.channel_view_model.specs.Rules.{KeepsRules}
use Rattle.channel_view_model.specs.Solo.{solo_reply, solo_after, replies_to, solo_outcomes, feed, purge}
use Rattle.channel_view_laws.specs.Requests.{stop_after}
use Rattle.channel_view_laws.specs.Runs.{in_doubt_after, MayRemain}
use Rattle.channel_view_laws.specs.Parts.{rows_part, requests_part, IsClosed, IsClosedPart}
use Rattle.channel_view_laws.proofs.RunLemmas.{alone_law, purge_law}
use Rattle.channel_view_model.proofs.StepLemmas.{reply_is}
use Rattle.channel_view_model.proofs.ViewLemmas.{view_of-after_own}
use Rattle.channel_view_laws.proofs.ServedLemmas.{remains_one}
use Rattle.channel_view_laws.proofs.PartLemmas.{replies-of_whole, rows-of_whole}
use Rattle.http_office_requests.specs.Request.{Asked, refused, command}
use Rattle.http_office_answers.specs.Answer.{bytes_of}
use Rattle.http_office_answers.specs.Answer.{answer_bytes}
use Rattle.http_office.specs.Message.{IsAskedBy, Answers, rows_left, stop_asked}
use Rattle.http_office.specs.Run.{HasAnswered, AreAskedBy, AnswersAll, rows_left_by, stop_after_messages}
use Rattle.http_office.specs.Alone.{kept_commands, given_to, SeesAlike, OnBothGiven, in_doubt_behind}
use Rattle.http_office_answers.specs.declared.answers.Answer.{Answer}
use Rattle.http_office_answers.specs.declared.answers.Answer.TheVariants.{Given, Unavailable}
use Rattle.http_office.proofs.MessageLemmas.{one_request}
use Rattle.http_office.proofs.RunLemmas.{left_is}

-- what wasn't answered was no command that was kept
pub unavailable_kept : (a : Asked) → kept_commands (a ∷ []) (Unavailable ∷ []) ≡ []
unavailable_kept (refused status) = refl
unavailable_kept (command b q) = refl

-- one request more, of channel c or of another
given_more : (mine : Bool) (bytes : List ℕ) (o : Outcome) (given : List (List ℕ)) (told : List Outcome)
    → bytes ≡ bytes_of o → given ≡ map bytes_of told
    → (if mine then bytes ∷ given else given) ≡ map bytes_of (if mine then o ∷ told else told)
given_more true bytes o given told is so_far = ap (λ b. b ∷ given) is ∙ ap (λ g. bytes_of o ∷ g) so_far
given_more false bytes o given told is so_far = so_far

-- the bytes that c was given are those of the replies to it
pub given_is : (c : ℕ) (rows : Centre) (asked : List Asked) (answers : List Answer) → AnswersAll rows asked answers
    → given_to c asked answers ≡ map bytes_of (replies_to c rows (kept_commands asked answers))
given_is c rows [] [] h = refl
given_is c rows [] (x ∷ answers) h = absurd h
given_is c rows (a ∷ asked) [] h = absurd h
given_is c rows (refused status ∷ asked) (Given bytes ∷ answers) h = given_is c rows asked answers h.1
given_is c rows (refused status ∷ asked) (Unavailable ∷ answers) h = given_is c rows asked answers h.1
given_is c rows (command b q ∷ asked) (Unavailable ∷ answers) h = given_is c rows asked answers h.1
given_is c rows (command b q ∷ asked) (Given bytes ∷ answers) h =
    given_more (b == c) bytes.items (reply_to rows (b, q)) _ _ h.0 (given_is c (after rows (b, q)) asked answers h.1)

-- what was kept, over rows that keep the rules where something was
of_kept : (rows : Centre) (ks : List Request) (P : List Request → Type 0) → P [] → (KeepsRules rows → P ks)
    → (ks ≡ []) ⊎ KeepsRules rows → P ks
of_kept rows ks P at_none at (inl none) = subst P (sym none) at_none
of_kept rows ks P at_none at (inr rules) = at rules

pub given_alone : (c : ℕ) (rows : Centre) (asked : List Asked) (answers : List Answer) → AnswersAll rows asked answers
    → (kept_commands asked answers ≡ []) ⊎ KeepsRules rows
    → given_to c asked answers
    ≡ map bytes_of (solo_outcomes (view_of c rows) (feed c rows (kept_commands asked answers)))
given_alone c rows asked answers h k =
    given_is c rows asked answers h
    ∙ ap (λ os. map bytes_of os)
    (of_kept rows (kept_commands asked answers)
    (λ ks. replies_to c rows ks ≡ solo_outcomes (view_of c rows) (feed c rows ks)) refl
    (λ rules. alone_law rows rules (kept_commands asked answers) c) k)

pub given_purged : (c : ℕ) (rows : Centre) (asked : List Asked) (answers : List Answer) → AnswersAll rows asked answers
    → (kept_commands asked answers ≡ []) ⊎ KeepsRules rows
    → given_to c asked answers ≡ map bytes_of (replies_to c rows (purge c rows (kept_commands asked answers)))
given_purged c rows asked answers h k =
    given_is c rows asked answers h
    ∙ ap (λ os. map bytes_of os)
    (of_kept rows (kept_commands asked answers) (λ ks. replies_to c rows ks ≡ replies_to c rows (purge c rows ks)) refl
    (λ rules. purge_law rows rules (kept_commands asked answers) c) k)

-- two streams of which one is the other's purge
pub given_alike : (c : ℕ) (rows : Centre) (asked others : List Asked) (xs ys : List Answer) → KeepsRules rows
    → AnswersAll rows asked xs → AnswersAll rows others ys
    → kept_commands others ys ≡ purge c rows (kept_commands asked xs) → given_to c asked xs ≡ given_to c others ys
given_alike c rows asked others xs ys rules h k purged =
    given_purged c rows asked xs h (inr rules) ∙ ap (λ rs. map bytes_of (replies_to c rows rs)) (sym purged)
    ∙ sym (given_is c rows others ys k)

-- over a closed part of a whole
module _ (mine : ℕ → Bool) (whole : Centre) (all : List Request) (rows : Centre) (asked : List Asked)
    (answers : List Answer) (part : IsClosedPart mine whole all rows (kept_commands asked answers)) where
  pub given_of_whole : AnswersAll rows asked answers → (c : ℕ) → mine c ≡ true
      → given_to c asked answers ≡ map bytes_of (replies_to c whole all)
  given_of_whole h c is =
      given_is c rows asked answers h
      ∙ ap (λ os. map bytes_of os) (replies-of_whole mine whole all rows (kept_commands asked answers) part c is)

  pub left_of_whole : rows_left_by rows asked answers ≡ rows_part mine (after_all whole all)
  left_of_whole = left_is rows asked answers ∙ rows-of_whole mine whole all rows (kept_commands asked answers) part

-- one stream over all rows, and one over the rows of a closed part, which asks what the part's channels ask in the
-- first
module _ (mine : ℕ → Bool) (rows : Centre) (asked others : List Asked) (xs ys : List Answer) (rules : KeepsRules rows)
    (closed : IsClosed mine rows (kept_commands asked xs))
    (same : kept_commands others ys ≡ requests_part mine (kept_commands asked xs)) where
  is_part : IsClosedPart mine rows (kept_commands asked xs) (rows_part mine rows) (kept_commands others ys)
  is_part = record { rules = rules; closed = closed; rows_are = refl; requests_are = same }

  pub given_by_part : AnswersAll rows asked xs → AnswersAll (rows_part mine rows) others ys → (c : ℕ) → mine c ≡ true
      → given_to c asked xs ≡ given_to c others ys
  given_by_part h k c is =
      given_is c rows asked xs h
      ∙ sym (given_of_whole mine rows (kept_commands asked xs) (rows_part mine rows) others ys is_part k c is)

  pub left_by_part : rows_left_by (rows_part mine rows) others ys ≡ rows_part mine (rows_left_by rows asked xs)
  left_by_part =
      left_of_whole mine rows (kept_commands asked xs) (rows_part mine rows) others ys is_part
      ∙ ap (rows_part mine) (sym (left_is rows asked xs))

-- messages ask one thing each
pub one_asked : (messages : List (List ℕ)) (as_ bs : List Asked) → AreAskedBy messages as_ → AreAskedBy messages bs
    → as_ ≡ bs
one_asked [] [] [] h k = refl
one_asked [] (a ∷ as_) bs h k = absurd h
one_asked [] [] (b ∷ bs) h k = absurd k
one_asked (m ∷ messages) [] bs h k = absurd h
one_asked (m ∷ messages) (a ∷ as_) [] h k = absurd k
one_asked (m ∷ messages) (a ∷ as_) (b ∷ bs) h k =
    ap (λ x. x ∷ as_) (one_request m a b h.0 k.0) ∙ ap (λ l. b ∷ l) (one_asked messages as_ bs h.1 k.1)

-- where all messages are answered, what they ask is
module _ {S : Type 0} (is_clean : S → Type 0) (stands_for may_leave : S → Centre → Type 0) (leaves_sets : S → Type 0)
    (old new : S) where
  pub answered_all : (messages : List (Vec ℕ Global)) (answers : List Answer) (i : ℕ) → length messages ≤ i
      → ((asked : List Asked) × AreAskedBy (map (λ m. m.items) (take i messages)) asked
      × HasAnswered is_clean stands_for may_leave leaves_sets old new asked answers)
      → is_clean new → (rows : Centre) → stands_for old rows → (asked : List Asked)
      → AreAskedBy (map (λ m. m.items) messages) asked → AnswersAll rows asked answers
  answered_all messages answers i end done clean rows stands asked is =
      subst (λ (a : List Asked). AnswersAll rows a answers)
      (one_asked (map (λ m. m.items) messages) done.0 asked
      (subst (λ (ms : List (Vec ℕ Global)). AreAskedBy (map (λ m. m.items) ms) done.0) (take_all i messages end)
      done.1) is)
      (done.2.answered clean rows stands)

  -- and the rows kept the rules, where one was given its answer
  pub rules_all : (messages : List (Vec ℕ Global)) (answers : List Answer) (i : ℕ) → length messages ≤ i
      → ((asked : List Asked) × AreAskedBy (map (λ m. m.items) (take i messages)) asked
      × HasAnswered is_clean stands_for may_leave leaves_sets old new asked answers)
      → is_clean new → (rows : Centre) → stands_for old rows → (asked : List Asked)
      → AreAskedBy (map (λ m. m.items) messages) asked → (kept_commands asked answers ≡ []) ⊎ KeepsRules rows
  rules_all messages answers i end done clean rows stands asked is =
      subst (λ (a : List Asked). (kept_commands a answers ≡ []) ⊎ KeepsRules rows)
      (one_asked (map (λ m. m.items) messages) done.0 asked
      (subst (λ (ms : List (Vec ℕ Global)). AreAskedBy (map (λ m. m.items) ms) done.0) (take_all i messages end)
      done.1) is)
      (done.2.rules clean rows stands)

  -- and so are the rows that it stands for
  pub stands_so : (messages : List (Vec ℕ Global)) (answers : List Answer) (i : ℕ) → length messages ≤ i
      → ((asked : List Asked) × AreAskedBy (map (λ m. m.items) (take i messages)) asked
      × HasAnswered is_clean stands_for may_leave leaves_sets old new asked answers)
      → is_clean new → (rows : Centre) → stands_for old rows → (asked : List Asked)
      → AreAskedBy (map (λ m. m.items) messages) asked → stands_for new (rows_left_by rows asked answers)
  stands_so messages answers i end done clean rows stands asked is =
      subst (λ (a : List Asked). stands_for new (rows_left_by rows a answers))
      (one_asked (map (λ m. m.items) messages) done.0 asked
      (subst (λ (ms : List (Vec ℕ Global)). AreAskedBy (map (λ m. m.items) ms) done.0) (take_all i messages end)
      done.1) is)
      (done.2.rows clean rows stands)

-- ---- what a stop may leave

reply_stands : (rows : Centre) (r : Request) → outcome.Unavailable ≡ reply_to rows r → ⊥
unfolding reply_to
reply_stands rows r e = under (plan_of r.0 rows) e
  where
    under : (p : Option PlanRow) → outcome.Unavailable ≡ reply_at p rows r → ⊥
    under None e = absurd (cc)
    under (Some plan) e = absurd (cc)

given_behind : (P : Centre → Type 0) (in_doubt : List Request) (rows : Centre) (r : Request) (o : Outcome)
    → o ≡ reply_to rows r → ((left : Centre) → P left → MayRemain in_doubt rows left)
    → (left : Centre) → stop_after P rows r o left → MayRemain (in_doubt_after in_doubt rows r o) (after rows r) left
given_behind P in_doubt rows r outcome.Unavailable is before left h = absurd (reply_stands rows r is)
given_behind P in_doubt rows r outcome.NoChannel is before left h =
    remains_one P in_doubt rows r outcome.NoChannel is before left h
given_behind P in_doubt rows r (outcome.Replied x) is before left h =
    remains_one P in_doubt rows r (outcome.Replied x) is before left h

pub remains_behind : (P : Centre → Type 0) (rows left : Centre) (asked : List Asked) (answers : List Answer)
    (in_doubt : List Request)
    → ((l : Centre) → P l → MayRemain in_doubt rows l) → stop_after_messages P rows asked answers left
    → MayRemain (in_doubt_behind in_doubt rows asked answers) (rows_left_by rows asked answers) left
remains_behind P rows left [] xs in_doubt before h = before left h
remains_behind P rows left (a ∷ asked) [] in_doubt before h = before left h
remains_behind P rows left (refused status ∷ asked) (Given bytes ∷ answers) in_doubt before h =
    remains_behind (stop_asked P rows (refused status) (Given bytes)) rows left asked answers in_doubt before h
remains_behind P rows left (refused status ∷ asked) (Unavailable ∷ answers) in_doubt before h =
    remains_behind (stop_asked P rows (refused status) Unavailable) rows left asked answers in_doubt before h
remains_behind P rows left (command b q ∷ asked) (Unavailable ∷ answers) in_doubt before h =
    remains_behind (stop_asked P rows (command b q) Unavailable) rows left asked answers ((b, q) ∷ in_doubt)
    (remains_one P in_doubt rows (b, q) outcome.Unavailable tt before) h
remains_behind P rows left (command b q ∷ asked) (Given bytes ∷ answers) in_doubt before h =
    remains_behind (stop_asked P rows (command b q) (Given bytes)) (after rows (b, q)) left asked answers
    (in_doubt_after in_doubt rows (b, q) (reply_to rows (b, q)))
    (given_behind P in_doubt rows (b, q) (reply_to rows (b, q)) refl before) h

-- ---- two sets that a channel sees alike

seen_reply : (rows others : Centre) (c : ℕ) (q : Command) → view_of c rows ≡ view_of c others
    → reply_to rows (c, q) ≡ reply_to others (c, q)
seen_reply rows others c q alike = reply_is c q rows ∙ ap (λ v. solo_reply v q) alike ∙ sym (reply_is c q others)

pub bytes_alike : (rows others : Centre) (a : Asked) (x y : Answer) → SeesAlike a rows others → Answers rows a x
    → Answers others a y → OnBothGiven x y (answer_bytes x ≡ answer_bytes y)
bytes_alike rows others a Unavailable y alike h k = tt
bytes_alike rows others a (Given bytes) Unavailable alike h k = tt
bytes_alike rows others (refused status) (Given bytes) (Given more) alike h k = h ∙ sym k
bytes_alike rows others (command c q) (Given bytes) (Given more) alike h k =
    h ∙ ap bytes_of (seen_reply rows others c q alike) ∙ sym k

pub sets_alike : (rows others : Centre) (a : Asked) (x y : Answer)
    → (kept_commands (a ∷ []) (x ∷ []) ≡ []) ⊎ KeepsRules rows
    → (kept_commands (a ∷ []) (y ∷ []) ≡ []) ⊎ KeepsRules others → SeesAlike a rows others
    → OnBothGiven x y (SeesAlike a (rows_left rows a x) (rows_left others a y))
sets_alike rows others a Unavailable y rules rules_too alike = tt
sets_alike rows others a (Given bytes) Unavailable rules rules_too alike = tt
sets_alike rows others (refused status) (Given bytes) (Given more) rules rules_too alike = tt
sets_alike rows others (command c q) (Given bytes) (Given more) (inl none) rules_too alike = absurd (cc)
sets_alike rows others (command c q) (Given bytes) (Given more) (inr rules) (inl none) alike = absurd (cc)
sets_alike rows others (command c q) (Given bytes) (Given more) (inr rules) (inr rules_too) alike =
    view_of-after_own c q rows rules ∙ ap (λ v. solo_after v q) alike ∙ sym (view_of-after_own c q others rules_too)

-- what an answered message asks, known
pub answered_so : (Stands : Centre → Type 0) (message : List ℕ) (rows : Centre) (x : Answer) (a : Asked)
    → IsAskedBy message a
    → ((b : Asked) × IsAskedBy message b × Answers rows b x × Stands (rows_left rows b x))
    → Answers rows a x × Stands (rows_left rows a x)
answered_so Stands message rows x a is (b, is_b, answers, stands) =
    subst (λ (d : Asked). Answers rows d x × Stands (rows_left rows d x)) (one_request message b a is_b is)
    (answers, stands)
