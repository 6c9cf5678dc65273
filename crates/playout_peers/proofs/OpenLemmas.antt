-- A connection that is open: one step more, or its end.
use Rattle.std.proofs.Common.{◌≡◌, ◌≢◌, refl, ℕ, ◌+◌, ◌-◌, ◌≤◌, true, false, List, [], ◌∷◌, ◌++◌, length, take, drop}
use Rattle.std.proofs.Common.{append_assoc, append-nil, length-append, take-append-drop, sym, ap, ◌∙◌, subst, subst₂}
use Rattle.std.proofs.Common.{inl, inr, arith}
use Rattle.std.specs.Prelude.{Option, Some, None, Result, Ok, Err}
use Rattle.std.specs.Io.KnownBytes.{Consumes, Appends, IsAtEnd, append_known}
use Rattle.std.proofs.KnownBytes.{Appends-nil, Appends-trans, Consumes-trans}
use Rattle.std.proofs.Math.Seq.{take-add}
use Rattle.std.proofs.lemmas.List.{take_all}
use Rattle.http_office_requests.specs.Piece.{Piece, IsPiece, IsPartial}
use Rattle.http_office_answers.specs.Answer.{unavailable_answer}
use Rattle.http_office_answers.specs.Answer.{answer_bytes}
use Rattle.http_office.specs.Stream.{goes_on, Begins, AllGoOn, EndsWithLast, bytes_of_all}
use Rattle.http_office_answers.specs.declared.answers.Answer.{Answer}
use Rattle.http_office.specs.declared.serving.End.{End}
use Rattle.http_office.specs.declared.serving.End.TheVariants as end
use Rattle.http_office.specs.declared.serving.ServeFault.{ServeFault}
use Rattle.http_office.specs.declared.serving.ServeFault.TheVariants as fault
use Rattle.http_office.proofs.StreamLemmas.{begins_more, begins_then, all_go_on_then, ends_after, bytes_more}
use Rattle.playout_peers.specs.Wire.{Wire}
use Rattle.playout_peers.specs.Peers.{HasEnded, StaysOpen}
use Rattle.playout_peers.specs.Turn.{IsSent, IsAt, IsOpen, Sent}
use Rattle.playout_peers.specs.declared.peer.Task.{Task}
use Rattle.playout_peers.specs.declared.peer.Task.TheVariants.{Reads, Answers, Refuses, Starves}

-- nothing more was read
consumes_none : (a b c : Option (List ℕ)) (bytes : List ℕ) → Consumes a b bytes → Consumes b c [] → Consumes a c bytes
consumes_none a b c bytes h k = subst (Consumes a c) (append-nil bytes) (Consumes-trans a b c bytes [] h k)

-- the bytes up to a later place
up_to : (bytes : List ℕ) (from to : ℕ) → from ≤ to
    → take from bytes ++ take (to - from) (drop from bytes) ≡ take to bytes
up_to bytes from to le =
    let is : from + (to - from) ≡ to = omega arith in
    sym (take-add from (to - from) bytes) ∙ ap (λ n. take n bytes) is

-- what is known to have been written is two parts
parts_of : (a c : Option (List ℕ)) (bs cs : List ℕ) → Appends a c (bs ++ cs)
    → Appends a (append_known a bs) bs × Appends (append_known a bs) c cs
parts_of None c bs cs h = (tt, tt)
parts_of (Some x) None bs cs h = absurd h
parts_of (Some x) (Some z) bs cs h = (refl, h ∙ sym (append_assoc x bs cs))

sent_more : (a : Answer) (from to : ℕ) (xs : List Answer) (written : List ℕ) → from ≤ to → IsSent a from xs written
    → IsSent a to xs (written ++ take (to - from) (drop from (answer_bytes a)))
sent_more a from to xs written le s = record {
  before = s.before;
  last = s.last;
  written_is = ap (λ l. l ++ take (to - from) (drop from (answer_bytes a))) s.written_is
      ∙ append_assoc (bytes_of_all s.before) (take from (answer_bytes a))
      (take (to - from) (drop from (answer_bytes a)))
      ∙ ap (λ l. bytes_of_all s.before ++ l) (up_to (answer_bytes a) from to le);
}

-- all of it
sent_all : (a : Answer) (xs : List Answer) (written : List ℕ) → IsSent a (length (answer_bytes a)) xs written
    → written ≡ bytes_of_all xs
sent_all a xs written s =
    s.written_is
    ∙ ap (λ l. bytes_of_all s.before ++ l) (take_all (length (answer_bytes a)) (answer_bytes a) (omega arith))
    ∙ bytes_more s.before a ∙ ap bytes_of_all (sym s.last)

module _ (ps : List Piece) (xs : List Answer) (first before now : Wire) (pending : List ℕ) where
  -- ---- some of an answer was written

  module _ (a : Answer) (from to : ℕ) (s : Sent before now (answer_bytes a) from to) where
    abbrev pub more : List ℕ
    more = take (to - from) (drop from (answer_bytes a))

    pub answers_part : IsOpen ps xs first before pending (Answers a from)
        → IsOpen ps xs first now pending (Answers a to)
    answers_part o = record {
      read = o.read;
      rest = o.rest;
      written = o.written ++ more;
      consumed = subst (λ u. Consumes first.unread u o.read) (sym s.unread) o.consumed;
      begins = o.begins;
      each = o.each;
      appended = Appends-trans first.written before.written now.written o.written more o.appended s.took;
      at = (sent_more a from to xs o.written s.further o.at.0, o.at.1);
      waits = o.waits;
    }

    pub answers_all : to ≡ length (answer_bytes a) → IsOpen ps xs first before pending (Answers a from)
        → IsOpen ps xs first now pending Reads
    answers_all all o = record {
      read = o.read;
      rest = o.rest;
      written = o.written ++ more;
      consumed = subst (λ u. Consumes first.unread u o.read) (sym s.unread) o.consumed;
      begins = o.begins;
      each = o.each;
      appended = Appends-trans first.written before.written now.written o.written more o.appended s.took;
      at = (
        sent_all a xs (o.written ++ more)
            (subst (λ n. IsSent a n xs (o.written ++ more)) all (sent_more a from to xs o.written s.further o.at.0)),
        o.at.1,
      );
      waits = o.waits;
    }

    pub answers_fail : IsOpen ps xs first before pending (Answers a from) → HasEnded ps xs first now (Err fault.Write)
    answers_fail o =
        let t = sent_more a from to xs o.written s.further o.at.0 in
        record {
          before = now.written;
          served = record {
            read = o.read;
            rest = o.rest;
            written = o.written ++ more;
            consumed = subst (λ u. Consumes first.unread u o.read) (sym s.unread) o.consumed;
            begins = o.begins;
            each = o.each;
            appended = Appends-trans first.written before.written now.written o.written more o.appended s.took;
            ends = (t.before, a, to, t.last, t.written_is);
          };
          left = (0, Appends-nil now.written);
        }

    pub refuses_part : IsOpen ps xs first before pending (Refuses a from)
        → IsOpen ps xs first now pending (Refuses a to)
    refuses_part o = record {
      read = o.read;
      rest = o.rest;
      written = o.written ++ more;
      consumed = subst (λ u. Consumes first.unread u o.read) (sym s.unread) o.consumed;
      begins = o.begins;
      each = o.each;
      appended = Appends-trans first.written before.written now.written o.written more o.appended s.took;
      at = (sent_more a from to xs o.written s.further o.at.0, o.at.1);
      waits = tt;
    }

    pub refuses_all : to ≡ length (answer_bytes a) → IsOpen ps xs first before pending (Refuses a from)
        → HasEnded ps xs first now (Ok end.Refused)
    refuses_all all o = record {
      before = now.written;
      served = record {
        read = o.read;
        rest = o.rest;
        written = o.written ++ more;
        consumed = subst (λ u. Consumes first.unread u o.read) (sym s.unread) o.consumed;
        begins = o.begins;
        each = o.each;
        appended = Appends-trans first.written before.written now.written o.written more o.appended s.took;
        ends = (
          sent_all a xs (o.written ++ more)
              (subst (λ n. IsSent a n xs (o.written ++ more)) all (sent_more a from to xs o.written s.further o.at.0)),
          o.at.1,
        );
      };
      left = (0, Appends-nil now.written);
    }

    pub refuses_fail : IsOpen ps xs first before pending (Refuses a from) → HasEnded ps xs first now (Err fault.Write)
    refuses_fail o =
        let t = sent_more a from to xs o.written s.further o.at.0 in
        record {
          before = now.written;
          served = record {
            read = o.read;
            rest = o.rest;
            written = o.written ++ more;
            consumed = subst (λ u. Consumes first.unread u o.read) (sym s.unread) o.consumed;
            begins = o.begins;
            each = o.each;
            appended = Appends-trans first.written before.written now.written o.written more o.appended s.took;
            ends = (t.before, a, to, t.last, t.written_is);
          };
          left = (0, Appends-nil now.written);
        }

  -- ---- some of what is said for want of memory

  module _ (from to : ℕ) (s : Sent before now unavailable_answer from to) where
    abbrev pub farther : List ℕ
    farther = take (to - from) (drop from unavailable_answer)

    told_more : (written : List ℕ) → written ≡ bytes_of_all xs ++ take from unavailable_answer
        → written ++ farther ≡ bytes_of_all xs ++ take to unavailable_answer
    told_more written is =
        ap (λ l. l ++ farther) is ∙ append_assoc (bytes_of_all xs) (take from unavailable_answer) farther
        ∙ ap (λ l. bytes_of_all xs ++ l) (up_to unavailable_answer from to s.further)

    pub starves_part : IsOpen ps xs first before pending (Starves from) → IsOpen ps xs first now pending (Starves to)
    starves_part o = record {
      read = o.read;
      rest = o.rest;
      written = o.written ++ farther;
      consumed = subst (λ u. Consumes first.unread u o.read) (sym s.unread) o.consumed;
      begins = o.begins;
      each = o.each;
      appended = Appends-trans first.written before.written now.written o.written farther o.appended s.took;
      at = (told_more o.written o.at.0, o.at.1);
      waits = tt;
    }

    pub starves_ends : IsOpen ps xs first before pending (Starves from) → HasEnded ps xs first now (Err fault.Memory)
    starves_ends o =
        let all = Appends-trans first.written before.written now.written o.written farther o.appended s.took in
        let parts = parts_of first.written now.written (bytes_of_all xs) (take to unavailable_answer)
        (subst (Appends first.written now.written) (told_more o.written o.at.0) all) in
        record {
          before = append_known first.written (bytes_of_all xs);
          served = record {
            read = o.read;
            rest = o.rest;
            written = bytes_of_all xs;
            consumed = subst (λ u. Consumes first.unread u o.read) (sym s.unread) o.consumed;
            begins = o.begins;
            each = o.each;
            appended = parts.0;
            ends = (refl, o.at.1);
          };
          left = (to, parts.1);
        }

  -- ---- more was read, or no more

  pub hears_more : (bytes : List ℕ) → Consumes before.unread now.unread bytes → now.written ≡ before.written
      → IsOpen ps xs first before pending Reads → IsOpen ps xs first now (pending ++ bytes) Reads
  hears_more bytes more same o = record {
    read = o.read ++ bytes;
    rest = o.rest ++ bytes;
    written = o.written;
    consumed = Consumes-trans first.unread before.unread now.unread o.read bytes o.consumed more;
    begins = begins_more o.read ps o.rest bytes o.begins;
    each = o.each;
    appended = subst (λ w. Appends first.written w o.written) (sym same) o.appended;
    at = o.at;
    waits = ap (λ l. l ++ bytes) o.waits;
  }

  pub starves : (bytes left : List ℕ) → Consumes before.unread now.unread bytes → now.written ≡ before.written
      → IsOpen ps xs first before pending Reads → IsOpen ps xs first now left (Starves 0)
  starves bytes left came same o = record {
    read = o.read ++ bytes;
    rest = o.rest ++ bytes;
    written = o.written;
    consumed = Consumes-trans first.unread before.unread now.unread o.read bytes o.consumed came;
    begins = begins_more o.read ps o.rest bytes o.begins;
    each = o.each;
    appended = subst (λ w. Appends first.written w o.written) (sym same) o.appended;
    at = (o.at.0 ∙ sym (append-nil (bytes_of_all xs)), o.at.1);
    waits = tt;
  }

  module _ (none : Consumes before.unread now.unread []) (same : now.written ≡ before.written)
      (o : IsOpen ps xs first before pending Reads) where
    pub hears_nothing : IsOpen ps xs first now pending Reads
    hears_nothing = record {
      read = o.read;
      rest = o.rest;
      written = o.written;
      consumed = consumes_none first.unread before.unread now.unread o.read o.consumed none;
      begins = o.begins;
      each = o.each;
      appended = subst (λ w. Appends first.written w o.written) (sym same) o.appended;
      at = o.at;
      waits = o.waits;
    }

    pub breaks : IsPartial pending → HasEnded ps xs first now (Err fault.Read)
    breaks partial = record {
      before = now.written;
      served = record {
        read = o.read;
        rest = o.rest;
        written = o.written;
        consumed = consumes_none first.unread before.unread now.unread o.read o.consumed none;
        begins = o.begins;
        each = o.each;
        appended = subst (λ w. Appends first.written w o.written) (sym same) o.appended;
        ends = (o.at.0, o.at.1, subst IsPartial (sym o.waits) partial);
      };
      left = (0, Appends-nil now.written);
    }

    pub closes : pending ≡ [] → IsAtEnd now.unread → HasEnded ps xs first now (Ok end.Closed)
    closes empty at_end = record {
      before = now.written;
      served = record {
        read = o.read;
        rest = o.rest;
        written = o.written;
        consumed = consumes_none first.unread before.unread now.unread o.read o.consumed none;
        begins = o.begins;
        each = o.each;
        appended = subst (λ w. Appends first.written w o.written) (sym same) o.appended;
        ends = (o.at.0, o.at.1, o.waits ∙ empty, at_end);
      };
      left = (0, Appends-nil now.written);
    }

    pub is_cut : pending ≢ [] → IsPartial pending → IsAtEnd now.unread → HasEnded ps xs first now (Ok end.CutShort)
    is_cut full partial at_end = record {
      before = now.written;
      served = record {
        read = o.read;
        rest = o.rest;
        written = o.written;
        consumed = consumes_none first.unread before.unread now.unread o.read o.consumed none;
        begins = o.begins;
        each = o.each;
        appended = subst (λ w. Appends first.written w o.written) (sym same) o.appended;
        ends = (o.at.0, o.at.1, (λ e. full (sym o.waits ∙ e)), subst IsPartial (sym o.waits) partial, at_end);
      };
      left = (0, Appends-nil now.written);
    }

  -- ---- the first message of what is pending was answered

  begins_one : (n : ℕ) (p : Piece) → IsPiece (take n pending) p → (o : IsOpen ps xs first before pending Reads)
      → Begins o.read (ps ++ p ∷ []) (drop n pending)
  begins_one n p piece o =
      begins_then o.read ps o.rest (p ∷ []) (drop n pending) o.begins o.at.1
      (take n pending, drop n pending, o.waits ∙ sym (take-append-drop n pending), piece, λ _. refl, refl)

  each_one : (p : Piece) (a : Answer) → length ps ≡ length xs → length (ps ++ p ∷ []) ≡ length (xs ++ a ∷ [])
  each_one p a e = omega (arith, e, length-append ps (p ∷ []), length-append xs (a ∷ []))

  pub goes : (n : ℕ) (p : Piece) (a : Answer) → IsPiece (take n pending) p → goes_on p ≡ true
      → IsOpen ps xs first before pending Reads
      → IsOpen (ps ++ p ∷ []) (xs ++ a ∷ []) first before (drop n pending) (Answers a 0)
  goes n p a piece more o = record {
    read = o.read;
    rest = drop n pending;
    written = o.written;
    consumed = o.consumed;
    begins = begins_one n p piece o;
    each = each_one p a o.each;
    appended = o.appended;
    at = (
      record { before = xs; last = refl; written_is = o.at.0 ∙ sym (append-nil (bytes_of_all xs)) },
      all_go_on_then
          ps (p ∷ []) o.at.1 (more, tt),
    );
    waits = refl;
  }

  pub refuses : (n : ℕ) (p : Piece) (a : Answer) (left : List ℕ) → IsPiece (take n pending) p → goes_on p ≡ false
      → IsOpen ps xs first before pending Reads
      → IsOpen (ps ++ p ∷ []) (xs ++ a ∷ []) first before left (Refuses a 0)
  refuses n p a left piece last o = record {
    read = o.read;
    rest = drop n pending;
    written = o.written;
    consumed = o.consumed;
    begins = begins_one n p piece o;
    each = each_one p a o.each;
    appended = o.appended;
    at = (
      record { before = xs; last = refl; written_is = o.at.0 ∙ sym (append-nil (bytes_of_all xs)) },
      ends_after ps
          (p ∷ []) ([], p, refl, last),
    );
    waits = tt;
  }
