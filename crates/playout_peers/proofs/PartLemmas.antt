-- The messages and the ends of one connection among those of all.
use Rattle.std.proofs.Common.{◌≡◌, ◌≢◌, refl, ℕ, suc, ◌+◌, Bool, true, false, List, [], ◌∷◌, ◌++◌, map, append-nil}
use Rattle.std.proofs.Common.{append_assoc, sym, ap, ◌∙◌, arith}
use Rattle.std.specs.Prelude.{◌==◌, ◌&&◌, filter, Result, Ok, Err, if◌then◌else◌}
use Rattle.std.proofs.lemmas.Bool.{eq-eqb, eqb-true}
use Rattle.std.proofs.lemmas.List.{map-append}
use Rattle.std.proofs.lemmas.List.Elements.{filter-append}
use Rattle.http_office_requests.specs.Piece.{Piece}
use Rattle.http_office_requests.specs.Request.{request_of}
use Rattle.http_office_answers.specs.declared.answers.Answer.{Answer}
use Rattle.http_office.specs.declared.serving.End.{End}
use Rattle.http_office.specs.declared.serving.ServeFault.{ServeFault}
use Rattle.playout_lists.specs.declared.streams.InputFault.{InputFault}
use Rattle.playout_peers.specs.Peers.{Done, Ending, over, failed, pieces_of, answers_of, asked_in, answers_in, ends_of}
use Rattle.playout_peers.specs.Peers.{count_of, is_well, are_well, line_at, lines_at}

-- a number is no other
pub is_not : (m n : ℕ) → m ≢ n → (m == n) ≡ false
is_not m n other = at (m == n) refl
  where
    at : (b : Bool) → (m == n) ≡ b → b ≡ false
    at false e = refl
    at true e = absurd (other (eqb-true m n e))

pub pieces_then : (n : ℕ) (done more : List Done) → pieces_of n (done ++ more) ≡ pieces_of n done ++ pieces_of n more
pieces_then n done more =
    ap (map (λ d. d.piece)) (filter-append (λ d. d.peer == n) done more)
    ∙ map-append (λ d. d.piece) (filter (λ d. d.peer == n) done) (filter (λ d. d.peer == n) more)

pub answers_then : (n : ℕ) (done more : List Done)
    → answers_of n (done ++ more) ≡ answers_of n done ++ answers_of n more
answers_then n done more =
    ap (map (λ d. d.answer)) (filter-append (λ d. d.peer == n) done more)
    ∙ map-append (λ d. d.answer) (filter (λ d. d.peer == n) done) (filter (λ d. d.peer == n) more)

pub asked_then : (done more : List Done) → asked_in (done ++ more) ≡ asked_in done ++ asked_in more
asked_then done more = map-append (λ d. request_of d.piece) done more

pub all_answers_then : (done more : List Done) → answers_in (done ++ more) ≡ answers_in done ++ answers_in more
all_answers_then done more = map-append (λ d. d.answer) done more

-- one message is its connection's, and no other's
module _ (n : ℕ) (p : Piece) (a : Answer) where
  abbrev pub one : List Done
  one = record { peer = n; piece = p; answer = a } ∷ []

  pub own_piece : pieces_of n one ≡ p ∷ []
  own_piece = rw (eq-eqb n n refl)

  pub own_answer : answers_of n one ≡ a ∷ []
  own_answer = rw (eq-eqb n n refl)

  pub other_piece : (m : ℕ) → m ≢ n → pieces_of m one ≡ []
  other_piece m other = rw (is_not n m (λ e. other (sym e)))

  pub other_answer : (m : ℕ) → m ≢ n → answers_of m one ≡ []
  other_answer m other = rw (is_not n m (λ e. other (sym e)))

-- ---- one end more

-- one more of a list of which one end is looked at
picked : (b : Bool) (h : Result End ServeFault) (xs ys zs : List (Result End ServeFault)) → xs ≡ ys ++ zs
    → (if b then h ∷ xs else xs) ≡ (if b then h ∷ ys else ys) ++ zs
picked true h xs ys zs e = ap (λ l. h ∷ l) e
picked false h xs ys zs e = e

picked_same : (b : Bool) (h : Result End ServeFault) (xs ys : List (Result End ServeFault)) → xs ≡ ys
    → (if b then h ∷ xs else xs) ≡ (if b then h ∷ ys else ys)
picked_same b h xs ys e = ap (λ l. if b then h ∷ l else l) e

pub own_end : (n : ℕ) (ends : List Ending) (how : Result End ServeFault)
    → ends_of n (ends ++ over n how ∷ []) ≡ ends_of n ends ++ how ∷ []
own_end n [] how = ap (λ (b : Bool). if b then how ∷ [] else []) (eq-eqb n n refl)
own_end n (over m h ∷ ends) how =
    picked (m == n) h (ends_of n (ends ++ over n how ∷ [])) (ends_of n ends) (how ∷ []) (own_end n ends how)
own_end n (failed fault ∷ ends) how = own_end n ends how

pub other_end : (n m : ℕ) (ends : List Ending) (how : Result End ServeFault) → n ≢ m
    → ends_of n (ends ++ over m how ∷ []) ≡ ends_of n ends
other_end n m [] how other = ap (λ (b : Bool). if b then how ∷ [] else []) (is_not m n (λ e. other (sym e)))
other_end n m (over k h ∷ ends) how other =
    picked_same (k == n) h (ends_of n (ends ++ over m how ∷ [])) (ends_of n ends) (other_end n m ends how other)
other_end n m (failed fault ∷ ends) how other = other_end n m ends how other

pub no_end : (n : ℕ) (ends : List Ending) (fault : InputFault) → ends_of n (ends ++ failed fault ∷ []) ≡ ends_of n ends
no_end n [] fault = refl
no_end n (over k h ∷ ends) fault =
    picked_same (k == n) h (ends_of n (ends ++ failed fault ∷ [])) (ends_of n ends) (no_end n ends fault)
no_end n (failed f ∷ ends) fault = no_end n ends fault

pub count_over : (ends : List Ending) (n : ℕ) (how : Result End ServeFault)
    → count_of (ends ++ over n how ∷ []) ≡ count_of ends + 1
count_over [] n how = refl
count_over (over m h ∷ ends) n how = omega (arith, count_over ends n how)
count_over (failed fault ∷ ends) n how = count_over ends n how

pub count_failed : (ends : List Ending) (fault : InputFault) → count_of (ends ++ failed fault ∷ []) ≡ count_of ends
count_failed [] fault = refl
count_failed (over m h ∷ ends) fault = ap suc (count_failed ends fault)
count_failed (failed f ∷ ends) fault = count_failed ends fault

and_then : (a b c : Bool) → (a && (b && c)) ≡ ((a && b) && c)
and_then true b c = refl
and_then false b c = refl

and_true : (a : Bool) → (a && true) ≡ a
and_true true = refl
and_true false = refl

pub well_then : (ends : List Ending) (e : Ending) → are_well (ends ++ e ∷ []) ≡ (are_well ends && is_well e)
well_then [] e = and_true (is_well e)
well_then (x ∷ ends) e = ap (λ b. is_well x && b) (well_then ends e) ∙ and_then (is_well x) (are_well ends) (is_well e)

pub lines_then : (ends : List Ending) (e : Ending) → lines_at (ends ++ e ∷ []) ≡ lines_at ends ++ line_at e
lines_then [] e = append-nil (line_at e)
lines_then (x ∷ ends) e =
    ap (λ l. line_at x ++ l) (lines_then ends e) ∙ sym (append_assoc (line_at x) (lines_at ends) (line_at e))
