-- Connections that are served: what a turn, a knock or a wait leaves of what is known of all of them.
use Rattle.std.proofs.Common.{◌≡◌, ◌≢◌, ◌⊎◌, refl, ℕ, suc, ◌+◌, ◌≤◌, ◌<◌, Bool, true, false, List, [], ◌∷◌, ◌++◌}
use Rattle.std.proofs.Common.{get_or, append-nil, sym, ap, ◌∙◌, subst, inl, inr, arith}
use Rattle.std.specs.Prelude.{◌==◌, ◌&&◌, Option, Some, None, Result, Ok, Err}
use Rattle.std.proofs.lemmas.Bool.{eqb-true, eqb-false}
use Rattle.std.proofs.KnownBytes.{Appends-nil, Consumes-nil}
use Rattle.channel_view_model.specs.Centre.{Centre}
use Rattle.http_office_requests.specs.Piece.{Piece}
use Rattle.http_office.specs.Run.{HasAnswered}
use Rattle.http_office.specs.Stream.{bytes_of_all}
use Rattle.http_office_answers.specs.declared.answers.Answer.{Answer}
use Rattle.http_office.specs.declared.serving.End.{End}
use Rattle.http_office.specs.declared.serving.ServeFault.{ServeFault}
use Rattle.http_office.proofs.RunLemmas.{did_nothing, did_then}
use Rattle.playout_lists.specs.Fault.{line_of}
use Rattle.playout_lists.specs.Telling.{Told, TellsAll, Tells}
use Rattle.playout_lists.specs.declared.fault.Fault.TheVariants.{Stream}
use Rattle.playout_lists.specs.declared.streams.InputFault.{InputFault}
use Rattle.playout_lists.specs.declared.streams.InputFault.TheVariants as input
use Rattle.playout_lists.specs.declared.streams.StreamFault.TheVariants.{Input}
use Rattle.playout_lists.proofs.TellingLemmas.{tells_nothing, tells_then}
use Rattle.playout_peers.specs.Wire.{Wire, LeavesAll, LeavesOthers}
use Rattle.playout_peers.specs.Peers.{Done, Ending, over, failed, pieces_of, answers_of, asked_in, answers_in, ends_of}
use Rattle.playout_peers.specs.Peers.{count_of, is_well, are_well, line_at, lines_at, StaysOpen, IsConnection}
use Rattle.playout_peers.specs.Peers.{ServesPeers}
use Rattle.playout_peers.specs.Turn.{IsOpen, IsOpenPeer, TakesTurn}
use Rattle.playout_peers.specs.Serving.{IsAtPlace, KeepsOthers, IsUnknown, IsServing, Serving, IsNew, Admits}
use Rattle.playout_peers.specs.declared.serving.Knock.{Knock}
use Rattle.playout_peers.specs.declared.serving.Knock.TheVariants.{Came, Nobody, Failed}
use Rattle.playout_peers.specs.declared.peer.Peer.{Peer}
use Rattle.playout_peers.specs.declared.peer.Task.{Task}
use Rattle.playout_peers.specs.declared.peer.Task.TheVariants.{Reads, Answers, Refuses, Starves}
use Rattle.playout_peers.specs.declared.peer.Then.{Then}
use Rattle.playout_peers.specs.declared.peer.Turned.{Turned}
use Rattle.playout_peers.specs.declared.peer.Turned.TheVariants.{Stays, Ends}
use Rattle.playout_peers.specs.declared.serving.Peers.{Peers}
use Rattle.playout_peers.proofs.PartLemmas.{pieces_then, answers_then, asked_then, all_answers_then, own_end, other_end}
use Rattle.playout_peers.proofs.PartLemmas.{no_end, count_over, count_failed, well_then, lines_then}

-- a number is another, or it isn't
is_or_not : (m n : ℕ) → (m ≡ n) ⊎ (m ≢ n)
is_or_not m n = at (m == n) refl
  where
    at : (b : Bool) → (m == n) ≡ b → (m ≡ n) ⊎ (m ≢ n)
    at true e = inl (eqb-true m n e)
    at false e = inr (eqb-false m n e)

-- nothing changed at a place, and nothing elsewhere
pub all_same : (old new : List (Option Peer)) (place : ℕ) → get_or new place None ≡ get_or old place None
    → KeepsOthers place old new
    → (i : ℕ) → get_or new i None ≡ get_or old i None
all_same old new place here others i = elim (is_or_not i place) [
  | inl e ↦ subst (λ (k : ℕ). get_or new k None ≡ get_or old k None) (sym e) here
  | inr ne ↦ others i ne
]

never : (b : Bool) → (b && false) ≡ false
never true = refl
never false = refl

was_quiet : (a b : Bool) → (a && b) ≡ true → a ≡ true
was_quiet true b e = refl
was_quiet false b e = e

-- the same by other names
open_as : (ps ps' : List Piece) (xs xs' : List Answer) (f w w' : Wire) (pending : List ℕ) (task : Task) → ps' ≡ ps
    → xs' ≡ xs → w' ≡ w
    → IsOpen ps xs f w pending task → IsOpen ps' xs' f w' pending task
open_as ps ps' xs xs' f w w' pending task e1 e2 e3 o =
    subst (λ (l : List Piece). IsOpen l xs' f w' pending task) (sym e1)
    (subst (λ (l : List Answer). IsOpen ps l f w' pending task) (sym e2)
    (subst (λ (v : Wire). IsOpen ps xs f v pending task) (sym e3) o))

connection_as : (ps ps' : List Piece) (xs xs' : List Answer) (f w w' : Wire) (es es' : List (Result End ServeFault))
    → ps' ≡ ps → xs' ≡ xs → w' ≡ w → es' ≡ es
    → IsConnection ps xs f w es → IsConnection ps' xs' f w' es'
connection_as ps ps' xs xs' f w w' es es' e1 e2 e3 e4 c =
    subst (λ (l : List (Result End ServeFault)). IsConnection ps' xs' f w' l) (sym e4)
    (subst (λ (l : List Piece). IsConnection l xs' f w' es) (sym e1)
    (subst (λ (l : List Answer). IsConnection ps l f w' es) (sym e2)
    (subst (λ (v : Wire). IsConnection ps xs f v es) (sym e3) c)))

-- of one of which nothing was read
stays_nothing : (w : Wire) → StaysOpen [] [] w w
stays_nothing w = record {
  read = [];
  rest = [];
  written = [];
  consumed = Consumes-nil w.unread;
  begins = refl;
  each = refl;
  appended = Appends-nil w.written;
  so_far = inr (0, refl);
}

opens_nothing : (w : Wire) (pending : List ℕ) (task : Task) → pending ≡ [] → task ≡ Reads
    → IsOpen [] [] w w pending task
opens_nothing w pending task empty reads =
    subst (λ (l : List ℕ). IsOpen [] [] w w l task) (sym empty)
    (subst (λ (t : Task). IsOpen [] [] w w [] t) (sym reads) (record {
      read = [];
      rest = [];
      written = [];
      consumed = Consumes-nil w.unread;
      begins = refl;
      each = refl;
      appended = Appends-nil w.written;
      at = (refl, tt);
      waits = refl;
    }))

-- one that is open as the serving ends
module _ (ps : List Piece) (xs : List Answer) (f w : Wire) (pending : List ℕ) where
  stays_open : (task : Task) → IsOpen ps xs f w pending task → StaysOpen ps xs f w
  stays_open Reads o = record {
    read = o.read;
    rest = o.rest;
    written = o.written;
    consumed = o.consumed;
    begins = o.begins;
    each = o.each;
    appended = o.appended;
    so_far = inr (0, o.at.0 ∙ sym (append-nil (bytes_of_all xs)));
  }
  stays_open (Answers a n) o = record {
    read = o.read;
    rest = o.rest;
    written = o.written;
    consumed = o.consumed;
    begins = o.begins;
    each = o.each;
    appended = o.appended;
    so_far = inl (o.at.0.before, a, n, o.at.0.last, o.at.0.written_is);
  }
  stays_open (Refuses a n) o = record {
    read = o.read;
    rest = o.rest;
    written = o.written;
    consumed = o.consumed;
    begins = o.begins;
    each = o.each;
    appended = o.appended;
    so_far = inl (o.at.0.before, a, n, o.at.0.last, o.at.0.written_is);
  }
  stays_open (Starves n) o = record {
    read = o.read;
    rest = o.rest;
    written = o.written;
    consumed = o.consumed;
    begins = o.begins;
    each = o.each;
    appended = o.appended;
    so_far = inr (n, o.at.0);
  }

module _ {S : Type 0} (is_clean : S → Type 0) (stands_for may_leave : S → Centre → Type 0) (leaves_sets : S → Type 0)
  where
    abbrev pub Serves : S → S → (ℕ → Wire) → (ℕ → Wire) → ℕ → Peers → Told → Told → Type 0
    Serves old new first now accepted peers told_old told_new =
        Serving is_clean stands_for may_leave leaves_sets old new first now accepted peers told_old told_new

    -- ---- none yet

    pub serves_none : (store : S) (wires : ℕ → Wire) (accepted : ℕ) (peers : Peers) (told : Told)
        → ((i : ℕ) → get_or peers.places.items i None ≡ None)
        → peers.ended ≡ 0 → peers.is_quiet ≡ true → Serves store store wires wires accepted peers told told
    serves_none store wires accepted peers told empty none quiet = record {
      done = [];
      ends = [];
      did = did_nothing is_clean stands_for may_leave leaves_sets store;
      count = sym none;
      told = tells_nothing told;
      well = quiet;
      hushed = λ _. refl;
      seated = λ i p at. absurd (let e : None ≡ Some p = sym (empty i) ∙ at in cc);
      apart = λ i j p q at. absurd (let e : None ≡ Some p = sym (empty i) ∙ at in cc);
      rest = λ n. inl (stays_nothing (wires n));
      unknown = λ n le. record { pieces = refl; answers = refl; ends_none = refl; same = refl };
    }

    -- ---- what it comes to

    pub served : (old new : S) (first now : ℕ → Wire) (accepted most : ℕ) (peers : Peers) (told_old told_new : Told)
        (quiet : Bool)
        → Serves old new first now accepted peers told_old told_new → peers.ended ≤ most → quiet ≡ peers.is_quiet
        → (quiet ≡ true → peers.ended ≡ most)
        → ServesPeers is_clean stands_for may_leave leaves_sets old new first now most told_old told_new quiet
    served old new first now accepted most peers told_old told_new quiet s within is full = record {
      done = s.done;
      ends = s.ends;
      did = s.did;
      are_served = record {
        each = λ n. elim (s.rest n) [
          | inl c ↦ c
          | inr (i, p, at, number) ↦
              let seat = s.seated i p at in
              subst
              (λ (m : ℕ). IsConnection (pieces_of m s.done) (answers_of m s.done) (first m) (now m)
              (ends_of m s.ends)) number
              (subst
              (λ (l : List (Result End ServeFault)). IsConnection (pieces_of p.connection.seat.number s.done)
              (answers_of p.connection.seat.number s.done)
              (first p.connection.seat.number) (now p.connection.seat.number) l) (sym seat.ends_none)
              (stays_open _ _ _ _ p.connection.pending.items p.task seat.is_open))
        ];
        count = omega (arith, s.count, within);
        told = s.told;
        well = is ∙ s.well;
        all = λ q. s.count ∙ full q;
      };
    }

    -- ---- whatever a wait or a close does

    pub still : (old new : S) (first before now : ℕ → Wire) (accepted accepted_new : ℕ) (peers : Peers)
        (told_old told_new : Told)
        → LeavesAll before now → accepted_new ≡ accepted → Serves old new first before accepted peers told_old told_new
        → Serves old new first now accepted_new peers told_old told_new
    still old new first before now accepted accepted_new peers told_old told_new same is s = record {
      done = s.done;
      ends = s.ends;
      did = s.did;
      count = s.count;
      told = s.told;
      well = s.well;
      hushed = s.hushed;
      seated = λ i p at.
          let seat = s.seated i p at in
          record {
            is_open = open_as _ _ _ _ _ _ _ _ _ refl refl (same p.connection.seat.number) seat.is_open;
            ends_none = seat.ends_none;
            known = subst (λ (n : ℕ). p.connection.seat.number < n) (sym is) seat.known;
          };
      apart = s.apart;
      rest = λ n. elim (s.rest n) [
        | inl c ↦ inl (connection_as _ _ _ _ _ _ _ _ _ refl refl (same n) refl c)
        | inr at ↦ inr at
      ];
      unknown = λ n le.
          let u = s.unknown n (subst (λ (m : ℕ). m ≤ n) is le) in
          record { pieces = u.pieces; answers = u.answers; ends_none = u.ends_none; same = same n ∙ u.same };
    }

    -- ---- a turn

    module _ (old mid new : S) (first before now : ℕ → Wire) (accepted place : ℕ) (peers after : Peers)
        (told_old told_mid : Told) (peer : Peer) (turned : Turned)
        (s : Serves old mid first before accepted peers told_old told_mid)
        (taken : IsAtPlace peers.places.items place peer)
        (t : TakesTurn is_clean stands_for may_leave leaves_sets mid new (before peer.connection.seat.number)
        (now peer.connection.seat.number) peer turned)
        (wires : LeavesOthers peer.connection.seat.number before now)
        (others : KeepsOthers place peers.places.items after.places.items) where
      abbrev num : ℕ
      num = peer.connection.seat.number

      abbrev all_done : List Done
      all_done = s.done ++ t.done

      seat : IsServing peer s.done s.ends (first num) (before num) accepted
      seat = s.seated place peer taken

      other_pieces : (m : ℕ) → m ≢ num → pieces_of m all_done ≡ pieces_of m s.done
      other_pieces m ne =
          pieces_then m s.done t.done ∙ ap (λ (l : List Piece). pieces_of m s.done ++ l) (t.others m ne).0
          ∙ append-nil (pieces_of m s.done)

      other_answers : (m : ℕ) → m ≢ num → answers_of m all_done ≡ answers_of m s.done
      other_answers m ne =
          answers_then m s.done t.done ∙ ap (λ (l : List Answer). answers_of m s.done ++ l) (t.others m ne).1
          ∙ append-nil (answers_of m s.done)

      all_did : HasAnswered is_clean stands_for may_leave leaves_sets old new (asked_in all_done) (answers_in all_done)
      all_did =
          subst (λ l. HasAnswered is_clean stands_for may_leave leaves_sets old new l (answers_in all_done))
          (sym (asked_then s.done t.done))
          (subst (HasAnswered is_clean stands_for may_leave leaves_sets old new (asked_in s.done ++ asked_in t.done))
          (sym (all_answers_then s.done t.done))
          (did_then is_clean stands_for may_leave leaves_sets old mid new (asked_in s.done) (asked_in t.done)
          (answers_in s.done) (answers_in t.done) s.did t.did))

      -- another place has another connection
      elsewhere : (i : ℕ) (q : Peer) → i ≢ place → IsAtPlace after.places.items i q → IsAtPlace peers.places.items i q
      elsewhere i q ne at = sym (others i ne) ∙ at

      another : (i : ℕ) (q : Peer) → i ≢ place → IsAtPlace after.places.items i q → q.connection.seat.number ≢ num
      another i q ne at same = ne (s.apart i place q peer (elsewhere i q ne at) taken same)

      other_seat : (ends : List Ending) → ((m : ℕ) → m ≢ num → ends_of m ends ≡ ends_of m s.ends) → (i : ℕ) (q : Peer)
          → i ≢ place → IsAtPlace after.places.items i q
          → IsServing q all_done ends (first q.connection.seat.number) (now q.connection.seat.number) accepted
      other_seat ends same i q ne at =
          let was = s.seated i q (elsewhere i q ne at) in
          let ne' = another i q ne at in
          record {
            is_open =
                open_as _ _ _ _ _ _ _ _ _ (other_pieces q.connection.seat.number ne')
                (other_answers q.connection.seat.number ne') (wires q.connection.seat.number ne') was.is_open;
            ends_none = same q.connection.seat.number ne' ∙ was.ends_none;
            known = was.known;
          }

      other_rest : (ends : List Ending) → ((m : ℕ) → m ≢ num → ends_of m ends ≡ ends_of m s.ends) → (m : ℕ) → m ≢ num
          → IsConnection (pieces_of m all_done) (answers_of m all_done) (first m) (now m) (ends_of m ends)
          ⊎ ((i : ℕ) × (q : Peer) × IsAtPlace after.places.items i q × (q.connection.seat.number ≡ m))
      other_rest ends same m ne = elim (s.rest m) [
        | inl c ↦ inl
            (connection_as _ _ _ _ _ _ _ _ _ (other_pieces m ne) (other_answers m ne) (wires m ne) (same m ne) c)
        | inr (i, q, at, is) ↦ elim (is_or_not i place) [
          | inl here ↦
              let there : IsAtPlace peers.places.items place q =
              subst (λ (k : ℕ). IsAtPlace peers.places.items k q) here at in
              let both : Some peer ≡ Some q = sym taken ∙ there in
              let same_peer : peer ≡ q = cc in
              absurd (ne (sym is ∙ sym (ap (λ (p : Peer). p.connection.seat.number) same_peer)))
          | inr there ↦ inr (i, q, others i there ∙ at, is)
        ]
      ]

      other_unknown : (ends : List Ending) → ((m : ℕ) → m ≢ num → ends_of m ends ≡ ends_of m s.ends) → (m : ℕ)
          → accepted ≤ m → IsUnknown m all_done ends (first m) (now m)
      other_unknown ends same m le =
          let u = s.unknown m le in
          let ne : m ≢ num = λ e. omega (arith, seat.known, le, e) in
          record {
            pieces = other_pieces m ne ∙ u.pieces;
            answers = other_answers m ne ∙ u.answers;
            ends_none = same m ne ∙ u.ends_none;
            same = wires m ne ∙ u.same;
          }

      -- it stays open
      module _ (p next : Peer) (then : Then) (is : turned ≡ Stays p then)
          (here : IsAtPlace after.places.items place next)
          (number : next.connection.seat ≡ p.connection.seat) (pending : next.connection.pending ≡ p.connection.pending)
          (task : next.task ≡ p.task) where
        came : IsOpenPeer (pieces_of num s.done ++ pieces_of num t.done)
            (answers_of num s.done ++ answers_of num t.done)
            (first num) (now num) p × (p.connection.seat.number ≡ num)
        came = rw is at (t.comes (pieces_of num s.done) (answers_of num s.done) (first num) seat.is_open)

        next_number : next.connection.seat.number ≡ num
        next_number = ap (λ x. x.number) number ∙ came.1

        next_open : IsOpen (pieces_of num all_done) (answers_of num all_done) (first num) (now num)
            next.connection.pending.items next.task
        next_open =
            subst
            (λ (k : Task). IsOpen (pieces_of num all_done) (answers_of num all_done) (first num) (now num)
            next.connection.pending.items k) (sym task)
            (subst (λ l. IsOpen (pieces_of num all_done) (answers_of num all_done) (first num) (now num) l p.task)
            (ap (λ v. v.items) (sym pending))
            (open_as _ _ _ _ _ _ _ _ _ (pieces_then num s.done t.done) (answers_then num s.done t.done) refl came.0))

        next_seat : IsServing next all_done s.ends (first next.connection.seat.number) (now next.connection.seat.number)
            accepted
        next_seat = record {
          is_open =
              subst
              (λ (m : ℕ). IsOpen (pieces_of m all_done) (answers_of m all_done) (first m) (now m)
              next.connection.pending.items next.task) (sym next_number) next_open;
          ends_none = subst (λ (m : ℕ). ends_of m s.ends ≡ []) (sym next_number) seat.ends_none;
          known = subst (λ (m : ℕ). m < accepted) (sym next_number) seat.known;
        }

        -- who was at a place
        was : (i : ℕ) (q : Peer) → IsAtPlace after.places.items i q
            → (q0 : Peer) × IsAtPlace peers.places.items i q0 × (q0.connection.seat.number ≡ q.connection.seat.number)
        was i q at = elim (is_or_not i place) [
          | inl e ↦
              let there : IsAtPlace after.places.items place q =
              subst (λ (k : ℕ). IsAtPlace after.places.items k q) e at in
              let both : Some next ≡ Some q = sym here ∙ there in
              let same_peer : next ≡ q = cc in (
                peer,
                subst (λ (k : ℕ). IsAtPlace peers.places.items k peer) (sym e) taken,
                sym next_number
                    ∙ ap (λ (x : Peer). x.connection.seat.number) same_peer,
              )
          | inr ne ↦ (q, elsewhere i q ne at, refl)
        ]

        pub turn_stays : after.ended ≡ peers.ended → after.is_quiet ≡ peers.is_quiet
            → Serves old new first now accepted after told_old told_mid
        turn_stays ended quiet = record {
          done = all_done;
          ends = s.ends;
          did = all_did;
          count = s.count ∙ sym ended;
          told = s.told;
          well = quiet ∙ s.well;
          hushed = λ q. s.hushed (sym quiet ∙ q);
          seated = λ i q at. elim (is_or_not i place) [
            | inl e ↦
                let there : IsAtPlace after.places.items place q =
                subst (λ (k : ℕ). IsAtPlace after.places.items k q) e at in
                let both : Some next ≡ Some q = sym here ∙ there in
                let same_peer : next ≡ q = cc in
                subst
                (λ (x : Peer). IsServing x all_done s.ends (first x.connection.seat.number)
                (now x.connection.seat.number) accepted) same_peer next_seat
            | inr ne ↦ other_seat s.ends (λ m ne'. refl) i q ne at
          ];
          apart = λ i j a b at_i at_j same.
              let x = was i a at_i in
              let y = was j b at_j in
              s.apart i j x.0 y.0 x.1 y.1 (x.2 ∙ same ∙ sym y.2);
          rest = λ m. elim (is_or_not m num) [
            | inl e ↦ inr (place, next, here, next_number ∙ sym e)
            | inr ne ↦ other_rest s.ends (λ k ne'. refl) m ne
          ];
          unknown = λ m le. other_unknown s.ends (λ k ne'. refl) m le;
        }

      -- it has ended
      module _ (how : Result End ServeFault) (is : turned ≡ Ends how)
          (here : get_or after.places.items place None ≡ None)
        where
          abbrev all_ends : List Ending
          all_ends = s.ends ++ over num how ∷ []

          over_others : (m : ℕ) → m ≢ num → ends_of m all_ends ≡ ends_of m s.ends
          over_others m ne = other_end m num s.ends how ne

          over_own : ends_of num all_ends ≡ how ∷ []
          over_own = own_end num s.ends how ∙ ap (λ (l : List (Result End ServeFault)). l ++ how ∷ []) seat.ends_none

          ended_so : IsConnection (pieces_of num all_done) (answers_of num all_done) (first num) (now num)
              (ends_of num all_ends)
          ended_so =
              let h = rw is at (t.comes (pieces_of num s.done) (answers_of num s.done) (first num) seat.is_open) in
              connection_as _ _ _ _ _ _ _ (how ∷ []) _ (pieces_then num s.done t.done) (answers_then num s.done t.done)
              refl
              over_own h

          not_here : (i : ℕ) (q : Peer) → IsAtPlace after.places.items i q → i ≢ place
          not_here i q at e =
              let there : IsAtPlace after.places.items place q =
              subst (λ (k : ℕ). IsAtPlace after.places.items k q) e at in
              let both : None ≡ Some q = sym here ∙ there in
              cc

          pub turn_ends : (told_new : Told) → after.ended ≡ peers.ended + 1
              → after.is_quiet ≡ (peers.is_quiet && is_well (over num how))
              → TellsAll told_mid told_new (line_at (over num how)) → (after.is_quiet ≡ true → told_new ≡ told_mid)
              → Serves old new first now accepted after told_old told_new
          turn_ends told_new ended quiet said hush = record {
            done = all_done;
            ends = all_ends;
            did = all_did;
            count = count_over s.ends num how ∙ ap (λ (n : ℕ). n + 1) s.count ∙ sym ended;
            told = subst (TellsAll told_old told_new) (sym (lines_then s.ends (over num how)))
                (tells_then told_old told_mid told_new (lines_at s.ends) (line_at (over num how)) s.told said);
            well =
                quiet ∙ ap (λ (b : Bool). b && is_well (over num how)) s.well ∙ sym (well_then s.ends (over num how));
            hushed = λ q. hush q ∙ s.hushed (was_quiet peers.is_quiet (is_well (over num how)) (sym quiet ∙ q));
            seated = λ i q at. other_seat all_ends over_others i q (not_here i q at) at;
            apart = λ i j a b at_i at_j same.
                s.apart i j a b (elsewhere i a (not_here i a at_i) at_i) (elsewhere j b (not_here j b at_j) at_j) same;
            rest = λ m. elim (is_or_not m num) [
              | inl e ↦ inl
                  (subst
                  (λ (k : ℕ). IsConnection (pieces_of k all_done) (answers_of k all_done) (first k) (now k)
                  (ends_of k all_ends)) (sym e) ended_so)
              | inr ne ↦ other_rest all_ends over_others m ne
            ];
            unknown = λ m le. other_unknown all_ends over_others m le;
          }

    -- ---- nobody was at the place

    pub nobody_there : (old new : S) (first now : ℕ → Wire) (accepted place : ℕ) (peers after : Peers)
        (told_old told_new : Told)
        → ((i : ℕ) → get_or after.places.items i None ≡ get_or peers.places.items i None) → after.ended ≡ peers.ended
        → after.is_quiet ≡ peers.is_quiet
        → Serves old new first now accepted peers told_old told_new
        → Serves old new first now accepted after told_old told_new
    nobody_there old new first now accepted place peers after told_old told_new same ended quiet s = record {
      done = s.done;
      ends = s.ends;
      did = s.did;
      count = s.count ∙ sym ended;
      told = s.told;
      well = quiet ∙ s.well;
      hushed = λ q. s.hushed (sym quiet ∙ q);
      seated = λ i p at. s.seated i p (sym (same i) ∙ at);
      apart = λ i j p q at_i at_j. s.apart i j p q (sym (same i) ∙ at_i) (sym (same j) ∙ at_j);
      rest = λ n. elim (s.rest n) [
        | inl c ↦ inl c
        | inr (i, p, at, is) ↦ inr (i, p, same i ∙ at, is)
      ];
      unknown = s.unknown;
    }

    -- ---- something failed that is no connection's

    pub fails : (old new : S) (first now : ℕ → Wire) (accepted : ℕ) (peers after : Peers)
        (told_old told_mid told_new : Told) (fault : InputFault)
        → after.places.items ≡ peers.places.items → after.ended ≡ peers.ended → after.is_quiet ≡ false
        → TellsAll told_mid told_new (line_of (Stream (Input fault)))
        → Serves old new first now accepted peers told_old told_mid
        → Serves old new first now accepted after told_old told_new
    fails old new first now accepted peers after told_old told_mid told_new fault same ended quiet said s =
        let at_same : (i : ℕ) → get_or after.places.items i None ≡ get_or peers.places.items i None =
        λ i. ap (λ (l : List (Option Peer)). get_or l i None) same in
        record {
          done = s.done;
          ends = s.ends ++ failed fault ∷ [];
          did = s.did;
          count = count_failed s.ends fault ∙ s.count ∙ sym ended;
          told = subst (TellsAll told_old told_new) (sym (lines_then s.ends (failed fault)))
              (tells_then told_old told_mid told_new (lines_at s.ends) (line_at (failed fault)) s.told said);
          well = quiet ∙ sym (never (are_well s.ends)) ∙ sym (well_then s.ends (failed fault));
          hushed = λ q. absurd (let e : false ≡ true = sym quiet ∙ q in cc);
          seated = λ i p at.
              let seat = s.seated i p (sym (at_same i) ∙ at) in
              record {
                is_open = seat.is_open;
                ends_none =
                    no_end p.connection.seat.number s.ends fault ∙ seat.ends_none;
                known = seat.known;
              };
          apart = λ i j p q at_i at_j. s.apart i j p q (sym (at_same i) ∙ at_i) (sym (at_same j) ∙ at_j);
          rest = λ n. elim (s.rest n) [
            | inl c ↦ inl (connection_as _ _ _ _ _ _ _ _ _ refl refl refl (no_end n s.ends fault) c)
            | inr (i, p, at, is) ↦ inr (i, p, at_same i ∙ at, is)
          ];
          unknown = λ n le.
              let u = s.unknown n le in
              record {
                pieces = u.pieces;
                answers = u.answers;
                ends_none = no_end n s.ends fault ∙ u.ends_none;
                same =
                    u.same;
              };
        }

    -- ---- a connection was accepted

    module _ (old new : S) (first now : ℕ → Wire) (accepted place : ℕ) (peers after : Peers) (told_old told_new : Told)
        (peer : Peer)
        (s : Serves old new first now accepted peers told_old told_new) (fresh : IsNew peer accepted)
        (free : get_or peers.places.items place None ≡ None)
        (here : IsAtPlace after.places.items place peer)
        (others : KeepsOthers place peers.places.items after.places.items) where
      known_of : IsUnknown accepted s.done s.ends (first accepted) (now accepted)
      known_of = s.unknown accepted (omega arith)

      at_place : (i : ℕ) (q : Peer) → i ≡ place → IsAtPlace after.places.items i q → peer ≡ q
      at_place i q e at =
          let there : IsAtPlace after.places.items place q = subst (λ (k : ℕ). IsAtPlace after.places.items k q) e at in
          let both : Some peer ≡ Some q = sym here ∙ there in
          cc

      off_place : (i : ℕ) (q : Peer) → i ≢ place → IsAtPlace after.places.items i q → IsAtPlace peers.places.items i q
      off_place i q ne at = sym (others i ne) ∙ at

      new_open : IsServing peer s.done s.ends (first peer.connection.seat.number) (now peer.connection.seat.number)
          (accepted + 1)
      new_open = record {
        is_open =
            subst
            (λ (m : ℕ). IsOpen (pieces_of m s.done) (answers_of m s.done) (first m) (now m)
            peer.connection.pending.items
            peer.task) (sym fresh.number_is)
            (open_as _ _ _ _ _ _ _ _ _ known_of.pieces known_of.answers known_of.same
            (opens_nothing (first accepted) peer.connection.pending.items peer.task fresh.nothing fresh.reads));
        ends_none = subst (λ (m : ℕ). ends_of m s.ends ≡ []) (sym fresh.number_is) known_of.ends_none;
        known = omega (arith, fresh.number_is);
      }

      old_open : (i : ℕ) (q : Peer) → i ≢ place → IsAtPlace after.places.items i q
          → IsServing q s.done s.ends (first q.connection.seat.number) (now q.connection.seat.number) (accepted + 1)
      old_open i q ne at =
          let seat = s.seated i q (off_place i q ne at) in
          record { is_open = seat.is_open; ends_none = seat.ends_none; known = omega (arith, seat.known) }

      -- a new one has no number that one at another place has
      unlike : (i : ℕ) (q : Peer) → i ≢ place → IsAtPlace after.places.items i q → q.connection.seat.number ≢ accepted
      unlike i q ne at e = omega (arith, (s.seated i q (off_place i q ne at)).known, e)

      number_at : (i : ℕ) (q : Peer) → i ≡ place → IsAtPlace after.places.items i q
          → q.connection.seat.number ≡ accepted
      number_at i q e at = ap (λ (x : Peer). x.connection.seat.number) (sym (at_place i q e at)) ∙ fresh.number_is

      apart_now : (i j : ℕ) (p q : Peer) → IsAtPlace after.places.items i p → IsAtPlace after.places.items j q
          → p.connection.seat.number ≡ q.connection.seat.number → i ≡ j
      apart_now i j p q at_i at_j same = elim (is_or_not i place) [
        | inl i_here ↦ elim (is_or_not j place) [
          | inl j_here ↦ i_here ∙ sym j_here
          | inr j_there ↦ absurd (unlike j q j_there at_j (sym same ∙ number_at i p i_here at_i))
        ]
        | inr i_there ↦ elim (is_or_not j place) [
          | inl j_here ↦ absurd (unlike i p i_there at_i (same ∙ number_at j q j_here at_j))
          | inr j_there ↦ s.apart i j p q (off_place i p i_there at_i) (off_place j q j_there at_j) same
        ]
      ]

      pub comes_in : after.ended ≡ peers.ended → after.is_quiet ≡ peers.is_quiet
          → Serves old new first now (accepted + 1) after told_old told_new
      comes_in ended quiet = record {
        done = s.done;
        ends = s.ends;
        did = s.did;
        count = s.count ∙ sym ended;
        told = s.told;
        well = quiet ∙ s.well;
        hushed = λ q. s.hushed (sym quiet ∙ q);
        seated = λ i q at. elim (is_or_not i place) [
          | inl e ↦ subst
              (λ (x : Peer). IsServing x s.done s.ends (first x.connection.seat.number) (now x.connection.seat.number)
              (accepted + 1)) (at_place i q e at) new_open
          | inr ne ↦ old_open i q ne at
        ];
        apart = apart_now;
        rest = λ m. elim (s.rest m) [
          | inl c ↦ inl c
          | inr (i, q, at, is) ↦ elim (is_or_not i place) [
            | inl e ↦
                let there : IsAtPlace peers.places.items place q =
                subst (λ (k : ℕ). IsAtPlace peers.places.items k q) e at in
                absurd (let both : None ≡ Some q = sym free ∙ there in cc)
            | inr ne ↦ inr (i, q, others i ne ∙ at, is)
          ]
        ];
        unknown = λ m le. s.unknown m (omega (arith, le));
      }

    -- ---- a knock

    pub admits : (old new : S) (first before now : ℕ → Wire) (accepted accepted_new place : ℕ) (peers after : Peers)
        (told_old told_mid told_new : Told) (knock : Knock)
        → Serves old new first before accepted peers told_old told_mid
        → Admits before now accepted accepted_new peers after place told_mid told_new knock
        → Serves old new first now accepted_new after told_old told_new
    admits old new first before now accepted accepted_new place peers after told_old told_mid told_new Came s h =
        still old new first before now (accepted + 1) accepted_new after told_old told_new h.7 h.6
        (subst (λ (t : Told). Serves old new first before (accepted + 1) after told_old t) (sym h.8)
        (comes_in old new first before accepted place peers after told_old told_mid h.0 s h.1 h.2 h.3 h.4 h.5.ended
        h.5.quiet_is))
    admits old new first before now accepted accepted_new place peers after told_old told_mid told_new Nobody s h =
        still old new first before now accepted accepted_new after told_old told_new h.2 h.1
        (subst (λ (t : Told). Serves old new first before accepted after told_old t) (sym h.3)
        (subst (λ (p : Peers). Serves old new first before accepted p told_old told_mid) (sym h.0) s))
    admits old new first before now accepted accepted_new place peers after told_old told_mid told_new Failed s h =
        still old new first before now accepted accepted_new after told_old told_new h.3 h.2
        (fails old new first before accepted peers after told_old told_mid told_new input.Read h.0 h.1.ended
        h.1.quiet_is
        h.4.all s)

    -- ---- it ends for a fault that is no connection's

    pub broken : (old new : S) (first now : ℕ → Wire) (accepted most : ℕ) (peers : Peers)
        (told_old told_mid told_new : Told) (fault : InputFault)
        → Serves old new first now accepted peers told_old told_mid → peers.ended ≤ most
        → TellsAll told_mid told_new (line_of (Stream (Input fault)))
        → ServesPeers is_clean stands_for may_leave leaves_sets old new first now most told_old told_new false
    broken old new first now accepted most peers told_old told_mid told_new fault s within said =
        served old new first now accepted most (record peers { is_quiet = false }) told_old told_new false
        (fails old new first now accepted peers (record peers { is_quiet = false }) told_old told_mid told_new fault
        refl
        refl refl said s)
        within refl (λ (q : false ≡ true). cc)

    pub unserved : (store : S) (wires : ℕ → Wire) (most : ℕ) (told_old told_new : Told) (fault : InputFault)
        → TellsAll told_old told_new (line_of (Stream (Input fault)))
        → ServesPeers is_clean stands_for may_leave leaves_sets store store wires wires most told_old told_new false
    unserved store wires most told_old told_new fault said = record {
      done = [];
      ends = failed fault ∷ [];
      did = did_nothing is_clean stands_for may_leave leaves_sets store;
      are_served = record {
        each = λ n. stays_nothing (wires n);
        count = omega arith;
        told = subst (TellsAll told_old told_new) (sym (append-nil (line_of (Stream (Input fault))))) said;
        well = refl;
        all = λ (q : false ≡ true). cc;
      };
    }
