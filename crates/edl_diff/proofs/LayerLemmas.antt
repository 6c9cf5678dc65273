-- Pieces, one list of them laid over another.
use Rattle.std.proofs.Common.{◌≡◌, ℕ, ◌+◌, ◌<◌, ◌≤◌, min, max, List, [], ◌∷◌, ◌++◌, length, refl, sym, ap, ◌∙◌, subst}
use Rattle.std.proofs.Common.{⊎_elim, arith}
use Rattle.std.specs.Prelude.{Bool, true, false, nat_lt, if◌then◌else◌, Option, Some, None}
use Rattle.std.specs.Option.{option_or}
use Rattle.std.proofs.lemmas.Bool.{cases_lt, ltb-false, lt-ltb, le-ltb, cond-true, cond-false, cond_both}
use Rattle.edl_diff.specs.declared.layers.Piece.{Piece}
use Rattle.edl_diff.specs.declared.layers.Stretch.{Stretch}
use Rattle.edl_diff.specs.Layers.{piece_at, over, next_of, behind}

or_if : {A : Type 0} (b : Bool) (x : A) (m n w : Option A) → m ≡ option_or n w
    → (if b then Some x else m) ≡ option_or (if b then Some x else n) w
or_if true x m n w same = refl
or_if false x m n w same = same

-- one more piece
pub piece_at-push : (ps : List Piece) (p : Piece) (f : ℕ)
    → piece_at (ps ++ p ∷ []) f ≡ option_or (piece_at ps f) (if nat_lt f p.end then Some p.event else None)
piece_at-push [] p f = refl
piece_at-push (q ∷ ps) p f =
    or_if (nat_lt f q.end) q.event (piece_at (ps ++ p ∷ []) f) (piece_at ps f)
    (if nat_lt f p.end then Some p.event else None) (piece_at-push ps p f)

-- what has ended isn't looked for
pub behind_same : (end : ℕ) (ps : List Piece) (f : ℕ) → end ≤ f → piece_at (behind end ps) f ≡ piece_at ps f
behind_same end [] f le = refl
behind_same end (p ∷ ps) f le =
    cond_both (nat_lt end p.end) (p ∷ ps) ps (λ (l : List Piece). piece_at l f ≡ piece_at (p ∷ ps) f)
    (λ lasts. refl)
    (λ ended.
    let past = ltb-false end p.end ended in
    sym (cond-false (nat_lt f p.end) (Some p.event) (piece_at ps f) (le-ltb f p.end (omega arith))))

behind_le : (end : ℕ) (ps : List Piece) → length (behind end ps) ≤ length ps
behind_le end [] = omega arith
behind_le end (p ∷ ps) =
    cond_both (nat_lt end p.end) (p ∷ ps) ps (λ (l : List Piece). length l ≤ length (p ∷ ps)) (λ lasts. omega arith)
    (λ ended. omega arith)

behind_lt : (end : ℕ) (p : Piece) (ps : List Piece) → p.end ≤ end → length (behind end (p ∷ ps)) ≡ length ps
behind_lt end p ps le = ap length (cond-false (nat_lt end p.end) (p ∷ ps) ps (le-ltb end p.end le))

first_shown : (p : Piece) (ps : List Piece) (f : ℕ) → f < p.end → piece_at (p ∷ ps) f ≡ Some p.event
first_shown p ps f lt = cond-true (nat_lt f p.end) (Some p.event) (piece_at ps f) (lt-ltb f p.end lt)

-- the next stretch is what stands at each of its frames
pub next_shown : (ones others : List Piece) (s : Stretch) → next_of ones others ≡ Some s → (f : ℕ) → f < s.end
    → (piece_at ones f ≡ Some s.one) × (piece_at others f ≡ Some s.other)
next_shown [] others s is f lt = absurd (cc)
next_shown (a ∷ ones) [] s is f lt = absurd (cc)
next_shown (a ∷ ones) (b ∷ others) s is f lt =
    let end : min a.end b.end ≡ s.end = cc in
    let one : a.event ≡ s.one = cc in
    let other : b.event ≡ s.other = cc in (
      first_shown a ones f (omega arith) ∙ ap (λ (o : Option ℕ). Some o) one,
      first_shown b others f (omega arith) ∙ ap (λ (o : Option ℕ). Some o) other,
    )

over_none : (o : Option (Option ℕ)) → over o None ≡ None
over_none None = refl
over_none (Some o) = refl

-- where there is none, one of both has no more pieces
pub next_none : (ones others : List Piece) → next_of ones others ≡ None → (f : ℕ)
    → over (piece_at ones f) (piece_at others f) ≡ None
next_none [] others is f = refl
next_none (a ∷ ones) [] is f = over_none (piece_at (a ∷ ones) f)
next_none (a ∷ ones) (b ∷ others) is f = absurd (cc)

pub next_fewer : (ones others : List Piece) (s : Stretch) → next_of ones others ≡ Some s
    → length (behind s.end ones) + length (behind s.end others) < length ones + length others
next_fewer [] others s is = absurd (cc)
next_fewer (a ∷ ones) [] s is = absurd (cc)
next_fewer (a ∷ ones) (b ∷ others) s is =
    let end : min a.end b.end ≡ s.end = cc in
    let le_one = behind_le s.end (a ∷ ones) in
    let le_other = behind_le s.end (b ∷ others) in
    ⊎_elim
    (λ first. let less = behind_lt s.end a ones (omega arith) in omega arith)
    (λ second. let less = behind_lt s.end b others (omega arith) in omega arith)
    (cases_lt a.end b.end)

-- pieces that were laid over others up to a frame, and what is left of both
pub record IsLaid (above under ones others pieces : List Piece) (at : ℕ) : Type 0 where
  pub done : (f : ℕ)
      → f < at → (x : Option ℕ) × (piece_at pieces f ≡ Some x) × (over (piece_at above f) (piece_at under f) ≡ Some x)
  pub ends : (f : ℕ) → at ≤ f → piece_at pieces f ≡ None
  pub one : (f : ℕ) → at ≤ f → piece_at ones f ≡ piece_at above f
  pub other : (f : ℕ) → at ≤ f → piece_at others f ≡ piece_at under f

pub laid_first : (above under pieces : List Piece) → pieces ≡ [] → IsLaid above under above under pieces 0
laid_first above under pieces none = record {
  done = λ f lt. absurd (omega arith);
  ends = λ f le. ap (λ (ps : List Piece). piece_at ps f) none;
  one = λ f le. refl;
  other = λ f le. refl;
}

abbrev laid_piece : Stretch → Piece
laid_piece s = record { end = s.end; event = option_or s.one s.other }

module _ (above under ones others pieces new : List Piece) (at : ℕ) (s : Stretch)
    (laid : IsLaid above under ones others pieces at) (next : next_of ones others ≡ Some s)
    (pushed : new ≡ pieces ++ laid_piece s ∷ []) where
  abbrev added : ℕ → Option (Option ℕ)
  added f = if nat_lt f s.end then Some (option_or s.one s.other) else None

  pushed_at : (f : ℕ) → piece_at new f ≡ option_or (piece_at pieces f) (added f)
  pushed_at f = ap (λ (ps : List Piece). piece_at ps f) pushed ∙ piece_at-push pieces (laid_piece s) f

  laid_done : (f : ℕ) → f < max at s.end
      → (x : Option ℕ) × (piece_at new f ≡ Some x) × (over (piece_at above f) (piece_at under f) ≡ Some x)
  laid_done f lt =
      ⊎_elim
      (λ earlier.
      let was = laid.done f earlier in
      (was.0, pushed_at f ∙ ap (λ (o : Option (Option ℕ)). option_or o (added f)) was.1, was.2))
      (λ here.
      let below : f < s.end = omega arith in
      let shown = next_shown ones others s next f below in (
        option_or s.one s.other,
        pushed_at f ∙ ap (λ (o : Option (Option ℕ)). option_or o (added f)) (laid.ends f here)
            ∙ cond-true (nat_lt f s.end) (Some (option_or s.one s.other)) None (lt-ltb f s.end below),
        ap (λ (o : Option (Option ℕ)). over o (piece_at under f)) (sym (laid.one f here) ∙ shown.0)
            ∙ ap (λ (o : Option (Option ℕ)). over (Some s.one) o) (sym (laid.other f here) ∙ shown.1),
      ))
      (cases_lt f at)

  pub laid_next : (ones_left others_left : List Piece) → ones_left ≡ behind s.end ones
      → others_left ≡ behind s.end others → IsLaid above under ones_left others_left new (max at s.end)
  laid_next ones_left others_left one other = record {
    done = laid_done;
    ends = λ f le.
        pushed_at f ∙ ap (λ (o : Option (Option ℕ)). option_or o (added f)) (laid.ends f (omega arith))
        ∙ cond-false (nat_lt f s.end) (Some (option_or s.one s.other)) None (le-ltb f s.end (omega arith));
    one =
        λ f le. ap (λ (ps : List Piece). piece_at ps f) one ∙ behind_same s.end ones f (omega arith)
        ∙ laid.one f (omega arith);
    other =
        λ f le. ap (λ (ps : List Piece). piece_at ps f) other ∙ behind_same s.end others f (omega arith)
        ∙ laid.other f (omega arith);
  }

pub laid_all : (above under ones others pieces : List Piece) (at : ℕ)
    → IsLaid above under ones others pieces at → next_of ones others ≡ None
    → (f : ℕ) → piece_at pieces f ≡ over (piece_at above f) (piece_at under f)
laid_all above under ones others pieces at laid none f =
    ⊎_elim
    (λ earlier. let was = laid.done f earlier in was.1 ∙ sym was.2)
    (λ here.
    laid.ends f here ∙ sym (next_none ones others none f)
    ∙ ap (λ (o : Option (Option ℕ)). over o (piece_at others f)) (laid.one f here)
    ∙ ap (λ (o : Option (Option ℕ)). over (piece_at above f) o) (laid.other f here))
    (cases_lt f at)
