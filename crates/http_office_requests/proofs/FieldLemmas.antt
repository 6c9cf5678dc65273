-- The values of fields, and what a head says.
use Rattle.std.proofs.Common.{◌≡◌, ℕ, suc, ◌+◌, ◌<◌, ◌≤◌, Bool, true, false, cond, List, [], ◌∷◌, ◌++◌, length, map}
use Rattle.std.proofs.Common.{take, drop, get_or, inr, refl, sym, ap, subst, ◌∙◌, length-take-le, add-one, arith}
use Rattle.std.specs.Str.{str_eq_ignore_ascii_case}
use Rattle.std.proofs.Math.Seq.{drop-cons}
use Rattle.std.proofs.lemmas.List.{drop_all, length-map}
use Rattle.std.specs.Borrow.{Bor}
use Rattle.httparse.specs.Grammar.{print_request}
use Rattle.httparse.specs.declared.spans.Span.{Span}
use Rattle.httparse.specs.Spans.{span_bytes, IsWithin}
use Rattle.httparse.specs.declared.spans.HeaderSpan.{HeaderSpan}
use Rattle.httparse.specs.declared.spans.RequestSpans.{RequestSpans}
use Rattle.httparse.specs.Grammar.{RequestHead}
use Rattle.httparse.specs.Spans.{header_bytes, name_and_value, IsRequestAt, IsRequestWithin}
use Rattle.http_office_requests.specs.Piece.{values_of, framing_in, framing_of, IsAccepted}
use Rattle.http_office_requests.specs.FoundPiece.{AreValues, FoundSoFar, FramesBy, IsFramed}
use Rattle.http_office_requests.specs.declared.piece.Values.{Values}
use Rattle.http_office_requests.specs.declared.piece.Values.TheVariants.{Nothing, One, Several}
use Rattle.http_office_requests.specs.declared.piece.Framed.{Framed}
use Rattle.http_office_requests.specs.declared.piece.Framed.TheVariants.{Body, Ends}

module _ (head name : List ℕ) where
  abbrev named : List HeaderSpan → List (List ℕ)
  named fields = values_of name (map (header_bytes head) fields)

  named_cons : (f : HeaderSpan) (fields : List HeaderSpan) (is : Bool)
      → is ≡ str_eq_ignore_ascii_case (header_bytes head f).0 name
      → named (f ∷ fields) ≡ cond is ((header_bytes head f).1 ∷ named fields) (named fields)
  unfolding values_of
  named_cons f fields true e = rw (← e) refl
  named_cons f fields false e = rw (← e) refl

  -- the values from a place on
  pub named_at : (fields : List HeaderSpan) (i : ℕ) (d : HeaderSpan) (is : Bool) → i < length fields
      → is ≡ str_eq_ignore_ascii_case (header_bytes head (get_or fields i d)).0 name
      → named (drop i fields)
      ≡ cond is ((header_bytes head (get_or fields i d)).1 ∷ named (drop (i + 1) fields)) (named (drop (i + 1) fields))
  named_at fields i d is h e =
      rw (add-one, drop-cons fields i d h) (named_cons (get_or fields i d) (drop (suc i) fields) is e)

  pub named_end : (fields : List HeaderSpan) (i : ℕ) → length fields ≤ i → named (drop i fields) ≡ []
  unfolding values_of
  named_end fields i h = rw (drop_all i fields h) refl

-- the first value
pub found_first : (all more : List (List ℕ)) (v : List ℕ) (found : Values) (x : Bor (List ℕ))
    → FoundSoFar all found (v ∷ more) → ((y : Bor (List ℕ)) → found ≡ One y → ⊥) → x.now ≡ v
    → FoundSoFar all (One x) more
found_first all more v Nothing x h other e = h ∙ ap (λ (l : List ℕ). l ∷ more) (sym e)
found_first all more v (One y) x h other e = absurd (other y refl)
found_first all more v Several x h other e = absurd h

pub found_all : (all : List (List ℕ)) (found : Values) → FoundSoFar all found [] → AreValues all found
found_all all Nothing h = h
found_all all (One x) h = h
found_all all Several h = absurd h

-- ---- the whole head

pub framed_by : (head : List ℕ) (headers : List HeaderSpan) (spans : RequestSpans) (h : RequestHead) (r : Framed)
    → length headers ≤ 32 → IsRequestWithin head headers spans → IsRequestAt head headers spans h
    → spans.len ≡ length head
    → FramesBy spans.method spans.path (framing_in (map (header_bytes head) (take spans.headers headers))) r
    → IsFramed head r
unfolding framing_of
framed_by head headers spans h r room within at all framed =
    let accepted : IsAccepted head h = record {
      reads = (
        at.reads.0,
        subst (λ (l : List ℕ). head ≡ print_request h ++ l)
            (ap (λ (n : ℕ). drop n head) all ∙ drop_all (length head) head (omega arith)) at.reads.1,
      );
      room =
          omega (
            arith,
            within.section.count_fits,
            room,
            length-take-le spans.headers headers within.section.count_fits,
            length-map (take spans.headers headers) (header_bytes head),
            length-map h.fields name_and_value,
            ap length
                at.fields,
          );
    } in
    by_result r
    (subst (λ (fields : List (List ℕ × List ℕ)). FramesBy spans.method spans.path (framing_in fields) r) at.fields
    framed) accepted
  where
    by_result : (r : Framed) → FramesBy spans.method spans.path (framing_in (map name_and_value h.fields)) r
        → IsAccepted head h → IsFramed head r
    by_result (Body method path n) f accepted = (
      h,
      accepted,
      f.0,
      subst (IsWithin (length head)) (sym f.1) (subst (λ (k : ℕ). IsWithin k spans.method) all within.method),
      subst (IsWithin (length head)) (sym f.2) (subst (λ (k : ℕ). IsWithin k spans.path) all within.path),
      subst (λ (s : Span). span_bytes head s ≡ h.method) (sym f.1) at.method,
      subst (λ (s : Span). span_bytes head s ≡ h.target) (sym f.2) at.path,
    )
    by_result (Ends fault) f accepted = inr (h, accepted, f)
