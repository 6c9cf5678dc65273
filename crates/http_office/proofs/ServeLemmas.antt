-- A stream's run, step by step.
use Rattle.std.proofs.Common.{◌≡◌, ℕ, ◌≤◌, List, [], ◌∷◌, ◌++◌, length, map, take, drop, Some, None, Option, Ok, Err}
use Rattle.std.proofs.Common.{true, false, refl, sym, ap, subst, ◌∙◌, append-nil, take-append-drop, take_all}
use Rattle.std.proofs.Common.{length-drop, drop-drop, ◌+◌, ◌-◌, arith}
use Rattle.std.specs.Prelude.{slice_range, Result, OnErr, OnOk}
use Rattle.std.specs.Result.{is_err}
use Rattle.std.specs.Io.KnownBytes.{Consumes, Appends, Keeps}
use Rattle.std.proofs.KnownBytes.{Appends-nil, Appends-trans, Appends-kept, Consumes-nil, Consumes-trans, Consumes-kept}
use Rattle.std.proofs.lemmas.List.{length-map, map-append}
use Rattle.channel_view_model.specs.Centre.{Centre}
use Rattle.http_office_requests.specs.Piece.{Piece, message, last, IsPiece, IsPartial}
use Rattle.http_office_requests.specs.Request.{Asked, request_of}
use Rattle.http_office_answers.specs.Answer.{answer_bytes}
use Rattle.http_office_requests.specs.FoundPiece.{IsNext, IsFramingProgress, status_of}
use Rattle.http_office_requests.specs.Found.{OfPiece}
use Rattle.http_office.specs.Run.{HasAnswered}
use Rattle.report_texts.specs.Output.{AppendsPart}
use Rattle.http_office.specs.Stream.{goes_on, Begins, AllGoOn, bytes_of_all}
use Rattle.http_office.specs.Serving.{Serves}
use Rattle.http_office.specs.Turn.{ActsOn, TakesTurn, Stops, AnswersWhole, SoFar, HasServed, ReadsMore}
use Rattle.http_office_answers.specs.declared.answers.Answer.{Answer}
use Rattle.http_office_requests.specs.declared.piece.MessageSpans.{MessageSpans}
use Rattle.http_office_requests.specs.declared.piece.HttpError.{HttpError}
use Rattle.http_office_requests.specs.declared.piece.FramingProgress.{FramingProgress}
use Rattle.http_office_requests.specs.declared.piece.FramingProgress.TheVariants.{NoEnd}
use Rattle.http_office_requests.specs.declared.piece.FoundPiece.{FoundPiece}
use Rattle.http_office_requests.specs.declared.piece.FoundPiece.TheVariants.{Partial, Message, Last}
use Rattle.http_office.specs.declared.serving.ServeFault.{ServeFault}
use Rattle.http_office.specs.declared.serving.ServeFault.TheVariants.{Read, Write, Memory}
use Rattle.http_office.specs.declared.serving.Turn.TheVariants.{Answered, Ended, Waits}
use Rattle.http_office.specs.declared.serving.End.TheVariants.{Refused}
use Rattle.http_office_requests.proofs.PieceLemmas.{nothing_seen, one_piece, seen_more}
use Rattle.http_office.proofs.RunLemmas.{did_nothing, did_then}
use Rattle.http_office.proofs.StreamLemmas.{begins_more, begins_then, all_go_on_then, ends_after, bytes_then}
use Rattle.http_office.proofs.StreamLemmas.{bytes_more, stops_after, nothing_waits}

-- what is behind a place, as a slice to the end
pub behind : (bytes : List ℕ) (at : ℕ) → take (length bytes - at) (drop at bytes) ≡ drop at bytes
behind bytes at = take_all (length bytes - at) (drop at bytes) (omega (arith, length-drop at bytes))

-- what holds where a call failed, and where it didn't
pub on_failed : {T E : Type 0} (r : Result T E) (P : Type 0) → is_err r ≡ true → OnErr r P → P
on_failed (Ok v) P e h = cc
on_failed (Err x) P e h = h

pub on_done : {T E : Type 0} (r : Result T E) (P : Type 0) → is_err r ≡ false → OnOk r P → P
on_done (Ok v) P e h = h
on_done (Err x) P e h = cc

module _ {S : Type 0} (is_clean : S → Type 0) (stands_for may_leave : S → Centre → Type 0) (leaves_sets : S → Type 0)
  where
    abbrev Did : S → S → List Piece → List Answer → Type 0
    Did old new pieces answers =
        HasAnswered is_clean stands_for may_leave leaves_sets old new (map request_of pieces) answers

    -- ---- one turn

    pub turn_failed : (old new : S) (a b : Option (List ℕ)) (bytes : List ℕ) (next : FoundPiece)
        → (next_is : (s : FramingProgress) → next ≡ Partial s → ⊥)
        → OfPiece bytes next (ActsOn AppendsPart is_clean stands_for may_leave leaves_sets old new a b)
        → TakesTurn is_clean stands_for may_leave leaves_sets old new a b bytes (Err Write)
    turn_failed old new a b bytes (Partial s) not_partial h = absurd (not_partial s refl)
    turn_failed old new a b bytes (Message m) not_partial h = (m.len, h.0, h.1, h.2)
    turn_failed old new a b bytes (Last n status) not_partial h = (n, h.0, h.1, h.2)

    -- each piece has one answer
    one_each : (pieces : List Piece) (answers : List Answer) (old new : S) → Did old new pieces answers
        → length pieces ≡ length answers
    one_each pieces answers old new did = sym (length-map pieces request_of) ∙ did.each

    -- the piece that was found is the one that was acted on
    found_is : (bytes : List ℕ) (n : ℕ) (p q : Piece) → IsPiece (take n bytes) p → IsPiece (take n bytes) q
        → goes_on p ≡ goes_on q
    found_is bytes n p q h k =
        ap goes_on
        (one_piece bytes (take n bytes) (drop n bytes) (take n bytes) (drop n bytes) p q (take-append-drop n bytes)
        (take-append-drop n bytes) h k).1

    pub turn_message : (old new : S) (a b : Option (List ℕ)) (bytes : List ℕ) (next : FoundPiece) (m : MessageSpans)
        → next ≡ Message m → IsNext bytes next
        → OfPiece bytes next (ActsOn Appends is_clean stands_for may_leave leaves_sets old new a b)
        → TakesTurn is_clean stands_for may_leave leaves_sets old new a b bytes (Ok (Answered m.len))
    turn_message old new a b bytes next m is found acted =
        let at : IsNext bytes (Message m) = subst (IsNext bytes) is found in
        let h =
        subst
        (λ (n : FoundPiece). OfPiece bytes n (ActsOn Appends is_clean stands_for may_leave leaves_sets old new a b))
        is acted in (
          at.1.fits,
          at.1.some,
          h.0,
          h.1,
          found_is bytes m.len h.0 (message at.0 (slice_range bytes m.body m.len)) h.1
              at.1.whole,
          h.2,
        )

    pub turn_last : (old new : S) (a b : Option (List ℕ)) (bytes : List ℕ) (next : FoundPiece) (n : ℕ)
        (status : HttpError) → next ≡ Last n status → IsNext bytes next
        → OfPiece bytes next (ActsOn Appends is_clean stands_for may_leave leaves_sets old new a b)
        → TakesTurn is_clean stands_for may_leave leaves_sets old new a b bytes (Ok Ended)
    turn_last old new a b bytes next n status is found acted =
        let at : IsNext bytes (Last n status) = subst (IsNext bytes) is found in
        let h =
        subst
        (λ (x : FoundPiece). OfPiece bytes x (ActsOn Appends is_clean stands_for may_leave leaves_sets old new a b))
        is acted in
        (n, h.0, h.1, found_is bytes n h.0 (last (status_of status)) h.1 at.2, h.2)

    did_then_pieces : (old mid new : S) (ps qs : List Piece) (xs ys : List Answer) → Did old mid ps xs
        → Did mid new qs ys
        → Did old new (ps ++ qs) (xs ++ ys)
    did_then_pieces old mid new ps qs xs ys h k =
        subst (λ (l : List Asked). HasAnswered is_clean stands_for may_leave leaves_sets old new l (xs ++ ys))
        (sym (map-append request_of ps qs))
        (did_then is_clean stands_for may_leave leaves_sets old mid new (map request_of ps) (map request_of qs) xs ys h
        k)

    -- one more piece, which is the first n bytes of the rest
    one : (rest : List ℕ) (n : ℕ) (p : Piece) → IsPiece (take n rest) p → Begins rest (p ∷ []) (drop n rest)
    one rest n p h = (take n rest, drop n rest, sym (take-append-drop n rest), h, λ _. refl, refl)

    pub began : (store : S) (known : Option (List ℕ)) (bytes : List ℕ)
        → SoFar is_clean stands_for may_leave leaves_sets store store known known bytes bytes
    began store known bytes = record {
      pieces = [];
      answers = [];
      begins = refl;
      go_on = tt;
      did = did_nothing is_clean stands_for may_leave leaves_sets store;
      appended = Appends-nil known;
    }

    module _ (old mid new : S) (before now later : Option (List ℕ)) (bytes rest : List ℕ)
        (so_far : SoFar is_clean stands_for may_leave leaves_sets old mid before now bytes rest) where
      one_more : (n : ℕ) (p : Piece) → IsPiece (take n rest) p → Begins bytes (so_far.pieces ++ p ∷ []) (drop n rest)
      one_more n p piece =
          begins_then bytes so_far.pieces rest (p ∷ []) (drop n rest) so_far.begins so_far.go_on (one rest n p piece)

      went : (n : ℕ) (p : Piece) → IsPiece (take n rest) p → goes_on p ≡ true
          → ActsOn Appends is_clean stands_for may_leave leaves_sets mid new now later p
          → SoFar is_clean stands_for may_leave leaves_sets old new before later bytes (drop n rest)
      went n p piece goes acts = record {
        pieces = so_far.pieces ++ p ∷ [];
        answers = so_far.answers ++ acts.answer ∷ [];
        begins = one_more n p piece;
        go_on = all_go_on_then so_far.pieces (p ∷ []) so_far.go_on (goes, tt);
        did = did_then_pieces old mid new so_far.pieces (p ∷ []) so_far.answers (acts.answer ∷ []) so_far.did acts.did;
        appended = subst (Appends before later) (bytes_more so_far.answers acts.answer)
            (Appends-trans before now later (bytes_of_all so_far.answers) (answer_bytes acts.answer) so_far.appended
            acts.wrote);
      }

      waits : (left : List ℕ) (seen : FramingProgress) → IsPartial rest → IsFramingProgress rest seen
          → Did mid new [] []
          → Keeps now later → left ≡ rest
          → AnswersWhole is_clean stands_for may_leave leaves_sets old new before later bytes left (Ok (Some seen))
      waits left seen partial seen_is did kept left_is = record {
        pieces = so_far.pieces ++ [];
        rest = rest;
        answers = so_far.answers ++ [];
        written = bytes_of_all so_far.answers;
        begins = begins_then bytes so_far.pieces rest [] rest so_far.begins so_far.go_on refl;
        did = did_then_pieces old mid new so_far.pieces [] so_far.answers [] so_far.did did;
        appended = Appends-kept before now later (bytes_of_all so_far.answers) so_far.appended kept;
        stops = (
          ap bytes_of_all (sym (append-nil so_far.answers)),
          all_go_on_then so_far.pieces [] so_far.go_on tt,
          partial,
          seen_is,
          left_is,
        );
      }

      ended : (left : List ℕ) (n : ℕ) (p : Piece) → IsPiece (take n rest) p → goes_on p ≡ false
          → ActsOn Appends is_clean stands_for may_leave leaves_sets mid new now later p
          → AnswersWhole is_clean stands_for may_leave leaves_sets old new before later bytes left (Ok None)
      ended left n p piece goes acts = record {
        pieces = so_far.pieces ++ p ∷ [];
        rest = drop n rest;
        answers = so_far.answers ++ acts.answer ∷ [];
        written = bytes_of_all so_far.answers ++ answer_bytes acts.answer;
        begins = one_more n p piece;
        did = did_then_pieces old mid new so_far.pieces (p ∷ []) so_far.answers (acts.answer ∷ []) so_far.did acts.did;
        appended =
            Appends-trans before now later (bytes_of_all so_far.answers) (answer_bytes acts.answer) so_far.appended
            acts.wrote;
        stops = (bytes_more so_far.answers acts.answer, (so_far.pieces, p, refl, goes));
      }

      failed : (left : List ℕ) (n : ℕ) (p : Piece) → IsPiece (take n rest) p
          → ActsOn AppendsPart is_clean stands_for may_leave leaves_sets mid new now later p
          → AnswersWhole is_clean stands_for may_leave leaves_sets old new before later bytes left (Err Write)
      failed left n p piece acts = record {
        pieces = so_far.pieces ++ p ∷ [];
        rest = drop n rest;
        answers = so_far.answers ++ acts.answer ∷ [];
        written = bytes_of_all so_far.answers ++ take acts.wrote.0 (answer_bytes acts.answer);
        begins = one_more n p piece;
        did = did_then_pieces old mid new so_far.pieces (p ∷ []) so_far.answers (acts.answer ∷ []) so_far.did acts.did;
        appended =
            Appends-trans before now later (bytes_of_all so_far.answers) (take acts.wrote.0 (answer_bytes acts.answer))
            so_far.appended acts.wrote.1;
        stops = (so_far.answers, acts.answer, acts.wrote.0, refl, refl);
      }

    -- the same bytes, as the code reads them
    pub turn_at : (mid new : S) (now later : Option (List ℕ)) (lent bytes : List ℕ) (at : ℕ) (e : ServeFault)
        → lent ≡ bytes
        → TakesTurn is_clean stands_for may_leave leaves_sets mid new now later (take (length lent - at) (drop at lent))
        (Err e)
        → TakesTurn is_clean stands_for may_leave leaves_sets mid new now later
        (take (length bytes - at) (drop at bytes))
        (Err e)
    turn_at mid new now later lent bytes at e same h =
        subst
        (λ (l : List ℕ). TakesTurn is_clean stands_for may_leave leaves_sets mid new now later
        (take (length l - at) (drop at l)) (Err e)) same h

    -- ---- the turns over the bytes from a place on

    module _ (old mid new : S) (before now later : Option (List ℕ)) (bytes : List ℕ) (at : ℕ)
        (so_far : SoFar is_clean stands_for may_leave leaves_sets old mid before now bytes (drop at bytes)) where
      abbrev handed : List ℕ
      handed = take (length bytes - at) (drop at bytes)

      is_rest : (n : ℕ) (p : Piece) → IsPiece (take n handed) p → IsPiece (take n (drop at bytes)) p
      is_rest n p h = subst (λ (l : List ℕ). IsPiece (take n l) p) (behind bytes at) h

      pub at_failed : (left : List ℕ) (e : ServeFault)
          → TakesTurn is_clean stands_for may_leave leaves_sets mid new now later handed (Err e)
          → AnswersWhole is_clean stands_for may_leave leaves_sets old new before later bytes left (Err e)
      at_failed left Write h =
          failed old mid new before now later bytes (drop at bytes) so_far left h.0 h.1 (is_rest h.0 h.1 h.2) h.3
      at_failed left Read h = absurd h
      at_failed left Memory h = absurd h

      pub at_ended : (left : List ℕ)
          → TakesTurn is_clean stands_for may_leave leaves_sets mid new now later handed (Ok Ended)
          → AnswersWhole is_clean stands_for may_leave leaves_sets old new before later bytes left (Ok None)
      at_ended left h =
          ended old mid new before now later bytes (drop at bytes) so_far left h.0 h.1 (is_rest h.0 h.1 h.2) h.3 h.4

      pub at_waits : (left : List ℕ) (seen : FramingProgress) → left ≡ drop at bytes
          → TakesTurn is_clean stands_for may_leave leaves_sets mid new now later handed (Ok (Waits seen))
          → AnswersWhole is_clean stands_for may_leave leaves_sets old new before later bytes left (Ok (Some seen))
      at_waits left seen is h =
          waits old mid new before now later bytes (drop at bytes) so_far left seen
          (subst IsPartial (behind bytes at) h.0)
          (subst (λ (l : List ℕ). IsFramingProgress l seen) (behind bytes at) h.1) h.2 h.3 is

      pub at_went : (n : ℕ) → at ≤ length bytes
          → TakesTurn is_clean stands_for may_leave leaves_sets mid new now later handed (Ok (Answered n))
          → (at + n ≤ length bytes)
          × SoFar is_clean stands_for may_leave leaves_sets old new before later bytes (drop (at + n) bytes)
      at_went n within h =
          let fits : n ≤ length (drop at bytes) = subst (λ (l : List ℕ). n ≤ length l) (behind bytes at) h.0 in
          let more =
          went old mid new before now later bytes (drop at bytes) so_far n h.2 (is_rest n h.2 h.3) h.4 h.5 in (
            omega (arith, length-drop at bytes),
            subst
                (λ (l : List ℕ). SoFar is_clean stands_for may_leave leaves_sets old new before later bytes l)
                (drop-drop n at bytes) more,
          )

    -- ---- the whole stream

    pub opened : (store : S) (known readable : Option (List ℕ))
        → HasServed is_clean stands_for may_leave leaves_sets store store known known readable readable [] (NoEnd 0)
    opened store known readable = record {
      read = [];
      consumed = Consumes-nil readable;
      done = began store known [];
      waits = nothing_waits;
      seen_is = nothing_seen [];
    }

    -- memory ran out before anything was read
    pub unread : (store : S) (known readable : Option (List ℕ))
        → Serves is_clean stands_for may_leave leaves_sets store store readable readable known known (Err Memory)
    unread store known readable = record {
      pieces = [];
      answers = [];
      served = record {
        read = [];
        rest = [];
        written = [];
        consumed = Consumes-nil readable;
        begins = refl;
        each = refl;
        appended = Appends-nil known;
        ends = (refl, tt);
      };
      did = did_nothing is_clean stands_for may_leave leaves_sets store;
    }

    -- how a run of turns stops, after an earlier one
    stops_then : (r : Result (Option FramingProgress) ServeFault) (ps qs : List Piece) (rest : List ℕ)
        (xs ys : List Answer) (written left : List ℕ)
        → AllGoOn ps → Stops r qs rest ys written left
        → Stops r (ps ++ qs) rest (xs ++ ys) (bytes_of_all xs ++ written) left
    stops_then (Ok (Some seen)) ps qs rest xs ys written left g h =
        (ap (λ l. bytes_of_all xs ++ l) h.0 ∙ sym (bytes_then xs ys), all_go_on_then ps qs g h.1, h.2, h.3, h.4)
    stops_then (Ok None) ps qs rest xs ys written left g h =
        (ap (λ l. bytes_of_all xs ++ l) h.0 ∙ sym (bytes_then xs ys), ends_after ps qs h.1)
    stops_then (Err Write) ps qs rest xs ys written left g h = stops_after xs ys written h
    stops_then (Err Read) ps qs rest xs ys written left g h = absurd h
    stops_then (Err Memory) ps qs rest xs ys written left g h = absurd h

    module _ (old mid : S) (before now : Option (List ℕ)) (readable_old readable_mid readable_new : Option (List ℕ))
        (pending : List ℕ) (seen : FramingProgress)
        (so_far : HasServed is_clean stands_for may_leave leaves_sets old mid before now readable_old readable_mid
        pending
        seen) where
      -- what was read before is answered, and more has come
      module _ (came : List ℕ) (read : Consumes readable_mid readable_new came) where
        has_come : SoFar is_clean stands_for may_leave leaves_sets old mid before now (so_far.read ++ came)
            (pending ++ came)
        has_come = record {
          pieces = so_far.done.pieces;
          answers = so_far.done.answers;
          begins = begins_more so_far.read so_far.done.pieces pending came so_far.done.begins;
          go_on = so_far.done.go_on;
          did = so_far.done.did;
          appended = so_far.done.appended;
        }

        all_consumed : Consumes readable_old readable_new (so_far.read ++ came)
        all_consumed = Consumes-trans readable_old readable_mid readable_new so_far.read came so_far.consumed read

        -- and still no piece is whole
        pub comes_short : IsPartial (pending ++ came)
            → HasServed is_clean stands_for may_leave leaves_sets old mid before now readable_old readable_new
            (pending ++ came) seen
        comes_short partial = record {
          read = so_far.read ++ came;
          consumed = all_consumed;
          done = has_come;
          waits = partial;
          seen_is = seen_more pending came seen so_far.seen_is;
        }

        module _ (new : S) (later : Option (List ℕ)) (left : List ℕ) where
          -- a read, and the turns after it
          all : (r : Result (Option FramingProgress) ServeFault)
              → AnswersWhole is_clean stands_for may_leave leaves_sets mid new now later (pending ++ came) left r
              → AnswersWhole is_clean stands_for may_leave leaves_sets old new before later (so_far.read ++ came) left r
          all r w =
              let first = has_come in
              record {
                pieces = first.pieces ++ w.pieces;
                rest = w.rest;
                answers = first.answers ++ w.answers;
                written = bytes_of_all first.answers ++ w.written;
                begins =
                    begins_then (so_far.read ++ came) first.pieces (pending ++ came) w.pieces w.rest first.begins
                    first.go_on w.begins;
                did = did_then_pieces old mid new first.pieces w.pieces first.answers w.answers first.did w.did;
                appended =
                    Appends-trans before now later (bytes_of_all first.answers) w.written first.appended w.appended;
                stops =
                    stops_then r first.pieces w.pieces w.rest first.answers w.answers w.written left first.go_on
                    w.stops;
              }

          pub goes_round : (after : FramingProgress)
              → AnswersWhole is_clean stands_for may_leave leaves_sets mid new now later (pending ++ came) left
              (Ok (Some after))
              → HasServed is_clean stands_for may_leave leaves_sets old new before later readable_old readable_new left
              after
          goes_round after w =
              let a = all (Ok (Some after)) w in
              record {
                read = so_far.read ++ came;
                consumed = all_consumed;
                done = record {
                  pieces = a.pieces;
                  answers = a.answers;
                  begins = subst (Begins (so_far.read ++ came) a.pieces) (sym a.stops.4) a.begins;
                  go_on = a.stops.1;
                  did = a.did;
                  appended = subst (Appends before later) a.stops.0 a.appended;
                };
                waits = subst IsPartial (sym a.stops.4) a.stops.2;
                seen_is = subst (λ (l : List ℕ). IsFramingProgress l after) (sym a.stops.4) a.stops.3;
              }

          pub refuses : AnswersWhole is_clean stands_for may_leave leaves_sets mid new now later (pending ++ came) left
              (Ok None)
              → Serves is_clean stands_for may_leave leaves_sets old new readable_old readable_new before later
              (Ok Refused)
          refuses w =
              let a = all (Ok None) w in
              record {
                pieces = a.pieces;
                answers = a.answers;
                served = record {
                  read = so_far.read ++ came;
                  rest = a.rest;
                  written = a.written;
                  consumed = all_consumed;
                  begins = a.begins;
                  each = one_each a.pieces a.answers old new a.did;
                  appended = a.appended;
                  ends = a.stops;
                };
                did = a.did;
              }

          pub breaks : (e : ServeFault)
              → AnswersWhole is_clean stands_for may_leave leaves_sets mid new now later (pending ++ came) left (Err e)
              → Serves is_clean stands_for may_leave leaves_sets old new readable_old readable_new before later (Err e)
          breaks Write w =
              let a = all (Err Write) w in
              record {
                pieces = a.pieces;
                answers = a.answers;
                served = record {
                  read = so_far.read ++ came;
                  rest = a.rest;
                  written = a.written;
                  consumed = all_consumed;
                  begins = a.begins;
                  each = one_each a.pieces a.answers old new a.did;
                  appended = a.appended;
                  ends = a.stops;
                };
                did = a.did;
              }
          breaks Read w = absurd w.stops
          breaks Memory w = absurd w.stops

      -- a read that failed, or whose bytes found no room
      pub read_breaks : (left : List ℕ) (e : ServeFault) → ReadsMore readable_mid readable_new pending left (Err e)
          → Serves is_clean stands_for may_leave leaves_sets old mid readable_old readable_new before now (Err e)
      read_breaks left Read h = record {
        pieces = so_far.done.pieces;
        answers = so_far.done.answers;
        served = record {
          read = so_far.read;
          rest = pending;
          written = bytes_of_all so_far.done.answers;
          consumed = Consumes-kept readable_old readable_mid readable_new so_far.read so_far.consumed h.0;
          begins = so_far.done.begins;
          each = one_each so_far.done.pieces so_far.done.answers old mid so_far.done.did;
          appended = so_far.done.appended;
          ends = (refl, so_far.done.go_on, so_far.waits);
        };
        did = so_far.done.did;
      }
      read_breaks left Memory h =
          let a = has_come h.0 h.1 in
          record {
            pieces = a.pieces;
            answers = a.answers;
            served = record {
              read = so_far.read ++ h.0;
              rest = pending ++ h.0;
              written = bytes_of_all a.answers;
              consumed = all_consumed h.0 h.1;
              begins = a.begins;
              each = one_each a.pieces a.answers old mid a.did;
              appended = a.appended;
              ends = (refl, a.go_on);
            };
            did = a.did;
          }
      read_breaks left Write h = absurd h
