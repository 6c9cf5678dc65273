-- Pieces of a stream.
use Rattle.std.proofs.Common.{◌≡◌, ℕ, ◌⊎◌, List, [], ◌∷◌, ◌++◌, length, map, take, drop, true, false, inl, inr, refl}
use Rattle.std.proofs.Common.{sym, ap, subst, ◌∙◌, append_assoc, append-nil, drop_at, arith}
use Rattle.std.specs.List.{concat}
use Rattle.std.proofs.lemmas.List.{map-append}
use Rattle.http_office_requests.specs.Piece.{Piece, message, last, IsPiece, IsPartial}
use Rattle.http_office_answers.specs.Answer.{answer_bytes}
use Rattle.http_office.specs.Stream.{goes_on, Begins, AllGoOn, EndsWithLast, IsCut, StopsIn, bytes_of_all}
use Rattle.http_office_answers.specs.declared.answers.Answer.{Answer}
use Rattle.http_office_requests.proofs.PieceLemmas.{head_some, one_piece}

-- more comes behind the rest
pub begins_more : (s : List ℕ) (ps : List Piece) (rest bytes : List ℕ) → Begins s ps rest
    → Begins (s ++ bytes) ps (rest ++ bytes)
begins_more s [] rest bytes h = ap (λ l. l ++ bytes) h
begins_more s (p ∷ ps) rest bytes h = (
  h.0,
  h.1 ++ bytes,
  ap (λ l. l ++ bytes) h.2
      ∙ append_assoc h.0 h.1 bytes,
  h.3,
  h.4,
  begins_more h.1 ps rest bytes h.5,
)

-- the rest begins with more pieces
pub begins_then : (s : List ℕ) (ps : List Piece) (mid : List ℕ) (qs : List Piece) (rest : List ℕ)
    → Begins s ps mid → AllGoOn ps → Begins mid qs rest → Begins s (ps ++ qs) rest
begins_then s [] mid qs rest h g k = subst (λ l. Begins l qs rest) (sym h) k
begins_then s (p ∷ ps) mid qs rest h g k =
    let goes : goes_on p ≡ true = g.0 in
    (h.0, h.1, h.2, h.3, λ (e : goes_on p ≡ false). cc (goes, e), begins_then h.1 ps mid qs rest h.5 g.1 k)

pub all_go_on_then : (ps qs : List Piece) → AllGoOn ps → AllGoOn qs → AllGoOn (ps ++ qs)
all_go_on_then [] qs g k = k
all_go_on_then (p ∷ ps) qs g k = (g.0, all_go_on_then ps qs g.1 k)

pub ends_after : (ps qs : List Piece) → EndsWithLast qs → EndsWithLast (ps ++ qs)
ends_after ps qs h = (ps ++ h.0, h.1, ap (λ l. ps ++ l) h.2 ∙ sym (append_assoc ps h.0 (h.1 ∷ [])), h.3)

concat_then : (xs ys : List (List ℕ)) → concat (xs ++ ys) ≡ concat xs ++ concat ys
concat_then [] ys = refl
concat_then (x ∷ xs) ys = ap (λ l. x ++ l) (concat_then xs ys) ∙ sym (append_assoc x (concat xs) (concat ys))

pub bytes_then : (xs ys : List Answer) → bytes_of_all (xs ++ ys) ≡ bytes_of_all xs ++ bytes_of_all ys
bytes_then xs ys = ap concat (map-append answer_bytes xs ys) ∙ concat_then (map answer_bytes xs) (map answer_bytes ys)

pub bytes_more : (xs : List Answer) (x : Answer) → bytes_of_all xs ++ answer_bytes x ≡ bytes_of_all (xs ++ x ∷ [])
bytes_more xs x = ap (λ l. bytes_of_all xs ++ l) (sym (append-nil (answer_bytes x))) ∙ sym (bytes_then xs (x ∷ []))

pub stops_after : (xs ys : List Answer) (written : List ℕ) → StopsIn ys written
    → StopsIn (xs ++ ys) (bytes_of_all xs ++ written)
stops_after xs ys written h = (
  xs ++ h.0,
  h.1,
  h.2,
  ap (λ l. xs ++ l) h.3 ∙ sym (append_assoc xs h.0 (h.1 ∷ [])),
  ap (λ l. bytes_of_all xs ++ l) h.4
      ∙ sym (append_assoc (bytes_of_all xs) (bytes_of_all h.0) (take h.2 (answer_bytes h.1)))
      ∙ ap (λ l. l ++ take h.2 (answer_bytes h.1)) (sym (bytes_then xs h.0)),
)

-- ---- a piece is not empty

left_nil : (xs ys : List ℕ) → xs ++ ys ≡ [] → xs ≡ []
left_nil [] ys e = refl
left_nil (x ∷ xs) ys e = cc

no_message : (bytes : List ℕ) (p : Piece) → IsPiece bytes p → bytes ≡ [] → ⊥
no_message bytes (message h content) m e =
    let head_nil : m.head ≡ [] = left_nil m.head content (sym m.whole ∙ e) in
    omega (arith, head_some m.head m.text, ap length head_nil)
no_message bytes (last status) m e = elim m [
  | inl a ↦ elim a.1 [
    | inl endless ↦ omega (arith, endless.0, ap length e)
    | inr refused ↦ omega (arith, head_some bytes refused.0, ap length e)
  ]
  | inr b ↦ omega (arith, head_some bytes b.0, ap length e)
]

pub nothing_waits : IsPartial []
nothing_waits front more p e piece = no_message front p piece (left_nil front more e)

-- ---- a stream is cut in one way

ends_rest : (p : Piece) (ps : List Piece) → goes_on p ≡ true → EndsWithLast (p ∷ ps) → EndsWithLast ps
ends_rest p ps goes ([], q, e, ends) =
    let same : p ≡ q = cc in let go : goes_on q ≡ true = subst (λ (r : Piece). goes_on r ≡ true) same goes in cc
ends_rest p ps goes (f ∷ front, q, e, ends) = (front, q, cc, ends)

none_ends : EndsWithLast [] → ⊥
none_ends ([], q, e, ends) = cc
none_ends (f ∷ front, q, e, ends) = cc

-- a piece that follows where none is whole, or behind the last
pub not_more : (s rest after : List ℕ) (q : Piece) (qs : List Piece) → IsCut s [] rest → Begins s (q ∷ qs) after → ⊥
not_more s rest after q qs (b, inl waits) more = waits more.0 more.1 q (sym more.2 ∙ b) more.3
not_more s rest after q qs (b, inr ends) more = none_ends ends

behind_last : (s rest : List ℕ) (ps : List Piece) → ps ≡ [] → Begins s ps rest → s ≡ rest
behind_last s rest ps e b = subst (λ (l : List Piece). Begins s l rest) e b

cut_rest : (p : Piece) (ps : List Piece) (rest : List ℕ) → goes_on p ≡ true → IsPartial rest ⊎ EndsWithLast (p ∷ ps)
    → IsPartial rest ⊎ EndsWithLast ps
cut_rest p ps rest goes (inl waits) = inl waits
cut_rest p ps rest goes (inr ends) = inr (ends_rest p ps goes ends)

-- one of the pieces is the last, or more may follow
more_or_last : (p : Piece) → (goes_on p ≡ true) ⊎ (goes_on p ≡ false)
more_or_last (message h content) = inl refl
more_or_last (last status) = inr refl

pub one_cut : (s rest rest' : List ℕ) (ps qs : List Piece) → IsCut s ps rest → IsCut s qs rest'
    → (ps ≡ qs) × (rest ≡ rest')
one_cut s rest rest' [] [] c d = (refl, sym c.0 ∙ d.0)
one_cut s rest rest' [] (q ∷ qs) c d = absurd (not_more s rest rest' q qs c d.0)
one_cut s rest rest' (p ∷ ps) [] c d = absurd (not_more s rest' rest p ps d c.0)
one_cut s rest rest' (p ∷ ps) (q ∷ qs) (b, w) (b', w') =
    let one = one_piece s b.0 b.1 b'.0 b'.1 p q (sym b.2) (sym b'.2) b.3 b'.3 in
    let after : b.1 ≡ b'.1 =
    sym (drop_at b.0 b.1 (length b.0) refl) ∙ ap (drop (length b.0)) (sym b.2 ∙ b'.2)
    ∙ drop_at b'.0 b'.1 (length b.0) (ap length (sym one.0)) in
    let same : goes_on q ≡ goes_on p = ap goes_on (sym one.1) in
    elim (more_or_last p) [
      | inl goes ↦
          let more = one_cut b.1 rest rest' ps qs (b.5, cut_rest p ps rest goes w)
          (subst (λ (l : List ℕ). Begins l qs rest') (sym after) b'.5, cut_rest q qs rest' (same ∙ goes) w') in
          (ap (λ (x : Piece). x ∷ ps) one.1 ∙ ap (λ (l : List Piece). q ∷ l) more.0, more.1)
      | inr ends ↦
          let none = b.4 ends in
          let none' = b'.4 (same ∙ ends) in (
            ap (λ (x : Piece). x ∷ ps) one.1
                ∙ ap (λ (l : List Piece). q ∷ l) (none ∙ sym none'),
            sym (behind_last b.1 rest ps none b.5) ∙ after
                ∙ behind_last b'.1 rest' qs none' b'.5,
          )
    ]
