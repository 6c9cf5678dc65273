-- Which piece stands at the front of the bytes.
use Rattle.std.proofs.Common.{◌≡◌, ℕ, ◌+◌, ◌-◌, ◌<◌, ◌≤◌, ◌⊎◌, List, [], ◌∷◌, ◌++◌, length, take, drop, Some, None, inl}
use Rattle.std.proofs.Common.{inr, refl, sym, ap, subst, ◌∙◌, append_assoc, take-append-drop, length-append}
use Rattle.std.proofs.Common.{length-take-le, length-drop, take_at, drop_at, take-add, arith}
use Rattle.std.proofs.lemmas.List.{drop-take, take-append-le}
use Rattle.std.specs.Prelude.{slice_range}
use Rattle.httparse.specs.Grammar.{RequestHead}
use Rattle.httparse.proofs.GrammarLemmas.{request_unique}
use Rattle.httparse.specs.declared.spans.Span.{Span}
use Rattle.httparse.specs.Spans.{span_bytes, IsWithin}
use Rattle.http_office_requests.specs.Piece.{Piece, message, last, IsPiece, IsPartial, IsHeadText, IsAccepted}
use Rattle.http_office_requests.specs.Piece.{IsEndless, head_len, head_limit, framing_of, body, ends}
use Rattle.http_office_requests.specs.FoundPiece.{IsMessageAt, IsFramed, IsFramingProgress}
use Rattle.http_office_requests.specs.declared.piece.FramingProgress.{FramingProgress}
use Rattle.http_office_requests.specs.declared.piece.FramingProgress.TheVariants.{NoEnd, Head}
use Rattle.http_office_requests.specs.declared.piece.Framed.TheVariants.{Body}
use Rattle.http_office_requests.proofs.HeadLemmas.{head_len-append, head_len-front, head_len_bounds}

-- a head has some bytes
some_bytes : (bytes : List ℕ) → (bytes ≡ [] → ⊥) → 0 < length bytes
some_bytes [] h = absurd (h refl)
some_bytes (b ∷ bytes) h = omega arith

no_head : IsHeadText [] → ⊥
unfolding head_len
no_head h = let e = h.ends in cc

pub head_some : (bytes : List ℕ) → IsHeadText bytes → 0 < length bytes
head_some bytes h = some_bytes bytes (λ e. no_head (subst IsHeadText e h))

-- a head is read in one way
pub accepted_unique : (head : List ℕ) (h k : RequestHead) → IsAccepted head h → IsAccepted head k → h ≡ k
accepted_unique head h k a b = (request_unique head h k [] [] a.reads b.reads).0

-- the head at the front of the bytes is where the first empty line ends
head_is : (head more bytes : List ℕ) (n : ℕ) → IsHeadText head → head ++ more ≡ bytes → head_len bytes ≡ Some n
    → (length head ≡ n) × (head ≡ take n bytes)
head_is head more bytes n text same at =
    let e : head_len bytes ≡ Some (length head) =
    subst (λ (l : List ℕ). head_len l ≡ Some (length head)) same (head_len-append head more (length head) text.ends)
    in
    let n_is : length head ≡ n = cc in
    (n_is, sym (ap (take n) (sym same) ∙ take_at head more n n_is))

no_end : (head more bytes : List ℕ) → IsHeadText head → head ++ more ≡ bytes → head_len bytes ≡ None → ⊥
no_end head more bytes text same none =
    let e : head_len bytes ≡ Some (length head) =
    subst (λ (l : List ℕ). head_len l ≡ Some (length head)) same (head_len-append head more (length head) text.ends)
    in
    cc

-- no head ends in these few bytes
pub waits_for_head : (bytes : List ℕ) → head_len bytes ≡ None → length bytes < head_limit → IsPartial bytes
waits_for_head bytes none few front more (message h content) same piece =
    no_end piece.head (content ++ more) bytes piece.text
    (sym (append_assoc piece.head content more) ∙ ap (λ l. l ++ more) (sym piece.whole) ∙ same) none
waits_for_head bytes none few front more (last status) same piece = elim piece [
  | inl a ↦ elim a.1 [
    | inl endless ↦ omega (arith, endless.0, few, length-append front more, ap length same)
    | inr refused ↦ no_end front more bytes refused.0 same none
  ]
  | inr b ↦ no_end front more bytes b.0 same none
]

whole_head : (bytes : List ℕ) (n : ℕ) → n ≤ length bytes → IsHeadText (take n bytes) → head_len bytes ≡ Some n
whole_head bytes n within text =
    let e = head_len-append (take n bytes) (drop n bytes) (length (take n bytes)) text.ends in
    let f : head_len bytes ≡ Some (length (take n bytes)) =
    subst (λ (l : List ℕ). head_len l ≡ Some (length (take n bytes))) (take-append-drop n bytes) e in
    f ∙ ap Some (length-take-le n bytes within)

-- the body isn't all there
pub waits_for_body : (bytes : List ℕ) (n len : ℕ) (h : RequestHead) → n ≤ length bytes → IsHeadText (take n bytes)
    → IsAccepted (take n bytes) h
    → framing_of h ≡ body len → length bytes - n < len → IsPartial bytes
waits_for_body bytes n len h within text accepted framed few front more (message k content) same piece =
    let at = whole_head bytes n within text in
    let is =
    head_is piece.head (content ++ more) bytes n piece.text
    (sym (append_assoc piece.head content more) ∙ ap (λ l. l ++ more) (sym piece.whole) ∙ same) at in
    let one : k ≡ h =
    accepted_unique (take n bytes) k h (subst (λ (l : List ℕ). IsAccepted l k) is.1 piece.accepted) accepted in
    let other : framing_of h ≡ body (length content) =
    subst (λ (x : RequestHead). framing_of x ≡ body (length content)) one piece.framed in
    let len_is : len ≡ length content = cc in
    omega (
      arith,
      few,
      is.0,
      len_is,
      length-append front more,
      ap length same,
      ap length piece.whole,
      length-append
          piece.head content,
    )
waits_for_body bytes n len h within text accepted framed few front more (last status) same piece =
    let at = whole_head bytes n within text in
    elim piece [
      | inl a ↦ elim a.1 [
        | inl endless ↦
            let fits : n ≤ length front = omega (arith, endless.0, text.fits, length-take-le n bytes within) in
            let e : head_len (front ++ more) ≡ Some n = subst (λ (l : List ℕ). head_len l ≡ Some n) (sym same) at in
            let f = head_len-front front more n e fits in
            let g = endless.1 in
            cc
        | inr refused ↦
            let is = head_is front more bytes n refused.0 same at in
            refused.1 h (subst (λ (l : List ℕ). IsAccepted l h) (sym is.1) accepted)
      ]
      | inr b ↦
          let is = head_is front more bytes n b.0 same at in
          let one : b.1 ≡ h =
          accepted_unique (take n bytes) b.1 h (subst (λ (l : List ℕ). IsAccepted l b.1) is.1 b.2) accepted in
          let other : framing_of h ≡ ends status = subst (λ (x : RequestHead). framing_of x ≡ ends status) one b.3 in
          cc
    ]

-- a part of the front is that part of the whole
span_of_front : (bytes : List ℕ) (n : ℕ) (s : Span) → n ≤ length bytes → IsWithin n s
    → span_bytes (take n bytes) s ≡ span_bytes bytes s
span_of_front bytes n s within h =
    let split : n ≡ s.start + (n - s.start) = omega (arith, h.0, h.1) in
    let moved : drop s.start (take n bytes) ≡ take (n - s.start) (drop s.start bytes) =
    ap (λ (k : ℕ). drop s.start (take k bytes)) split ∙ drop-take s.start (n - s.start) bytes in
    let shorter : take (s.end - s.start) (take (n - s.start) (drop s.start bytes))
    ≡ take (s.end - s.start) (drop s.start bytes) =
    sym (take-append-le (s.end - s.start) (take (n - s.start) (drop s.start bytes))
    (drop (n - s.start) (drop s.start bytes))
    (omega (
      arith,
      h.0,
      h.1,
      within,
      length-drop s.start bytes,
      length-take-le (n - s.start) (drop s.start bytes)
          (omega (arith, within, h.0, h.1, length-drop s.start bytes)),
    )))
    ∙ ap (take (s.end - s.start)) (take-append-drop (n - s.start) (drop s.start bytes)) in
    ap (take (s.end - s.start)) moved ∙ shorter

front_and_range : (bytes : List ℕ) (n len : ℕ) → take (n + len) bytes ≡ take n bytes ++ slice_range bytes n (n + len)
front_and_range bytes n len =
    take-add n len bytes
    ∙ ap (λ (k : ℕ). take n bytes ++ take k (drop n bytes)) {x = len} {y = n + len - n} (omega arith)

-- a whole message
pub whole_message : (bytes : List ℕ) (n len : ℕ) (method path : Span) → n ≤ length bytes → IsHeadText (take n bytes)
    → n + len ≤ length bytes
    → IsFramed (take n bytes) (Body method path len)
    → (h : RequestHead) × IsMessageAt bytes (record { method = method; path = path; body = n; len = n + len }) h
whole_message bytes n len method path within text fits (h, accepted, framed, method_in, path_in, method_is, path_is) =
    let n_is = length-take-le n bytes within in
    let method_within : IsWithin n method = subst (λ (k : ℕ). IsWithin k method) n_is method_in in
    let path_within : IsWithin n path = subst (λ (k : ℕ). IsWithin k path) n_is path_in in (
      h,
      record {
        fits = fits;
        some = omega (arith, head_some (take n bytes) text, n_is);
        begins = omega arith;
        whole = record {
          head = take n bytes;
          whole = front_and_range bytes n len;
          text = text;
          accepted = accepted;
          framed =
              framed
              ∙ ap body
              (omega (
                arith,
                ap length (front_and_range bytes n len),
                length-append (take n bytes)
                    (slice_range bytes n (n + len)),
                n_is,
                length-take-le (n + len) bytes fits,
              ));
        };
        method_in = method_within;
        path_in = path_within;
        method = sym (span_of_front bytes n method within method_within) ∙ method_is;
        path = sym (span_of_front bytes n path within path_within) ∙ path_is;
      },
    )

-- a head that ends the connection
pub last_piece : (bytes : List ℕ) (n status : ℕ) → n ≤ length bytes → IsHeadText (take n bytes)
    → ((status ≡ 400) × ((h : RequestHead) → IsAccepted (take n bytes) h → ⊥))
    ⊎ ((h : RequestHead) × IsAccepted (take n bytes) h × (framing_of h ≡ ends status))
    → (n ≤ length bytes) × (0 < n) × IsPiece (take n bytes) (last status)
last_piece bytes n status within text (inl a) =
    (within, omega (arith, head_some (take n bytes) text, length-take-le n bytes within), inl (a.0, inr (text, a.1)))
last_piece bytes n status within text (inr b) =
    (within, omega (arith, head_some (take n bytes) text, length-take-le n bytes within), inr (text, b.0, b.1, b.2))

-- the head that was found in the first bytes
pub found_head : (bytes : List ℕ) (k n : ℕ) → k ≤ head_limit → k ≤ length bytes → head_len (take k bytes) ≡ Some n
    → (n ≤ length bytes) × IsHeadText (take n bytes)
found_head bytes k n limit within e =
    let k_is = length-take-le k bytes within in
    let inside = (head_len_bounds (take k bytes) n e).1 in
    let small : n ≤ length bytes = omega (arith, inside, k_is, within) in
    let n_is = length-take-le n bytes small in
    let all : head_len bytes ≡ Some n =
    subst (λ (l : List ℕ). head_len l ≡ Some n) (take-append-drop k bytes)
    (head_len-append (take k bytes) (drop k bytes) n e) in
    let front : head_len (take n bytes) ≡ Some n =
    head_len-front (take n bytes) (drop n bytes) n
    (subst (λ (l : List ℕ). head_len l ≡ Some n) (sym (take-append-drop n bytes)) all) (omega (arith, n_is)) in
    (small, record { ends = front ∙ ap Some (sym n_is); fits = omega (arith, inside, k_is, limit, n_is) })

-- the first bytes, as many as a head may have, and no head ends in them
pub endless_piece : (bytes : List ℕ) → head_limit ≤ length bytes → head_len (take head_limit bytes) ≡ None
    → (head_limit ≤ length bytes) × (0 < head_limit) × IsPiece (take head_limit bytes) (last 400)
endless_piece bytes within none =
    (within, omega arith, inl (refl, inl (length-take-le head_limit bytes within, none)))

-- ---- what was seen of the bytes

-- of bytes that nobody has looked at nothing is known
pub nothing_seen : (bytes : List ℕ) → IsFramingProgress bytes (NoEnd 0)
unfolding head_len
nothing_seen bytes = (omega arith, omega arith, refl)

-- a part of a window is that part of the whole
pub seen_in_window : (bytes : List ℕ) (k w : ℕ) → k ≤ w → w ≤ length bytes → head_len (take k bytes) ≡ None
    → head_len (take k (take w bytes)) ≡ None
seen_in_window bytes k w within fits none =
    let P : List ℕ → Type 0 = λ l. head_len l ≡ None in
    let front : k ≤ length (take w bytes) = omega (arith, within, length-take-le w bytes fits) in
    subst P (ap (take k) (sym (take-append-drop w bytes)) ∙ take-append-le k (take w bytes) (drop w bytes) front) none

-- more bytes don't change what was seen
pub seen_more : (bytes more : List ℕ) (seen : FramingProgress) → IsFramingProgress bytes seen
    → IsFramingProgress (bytes ++ more) seen
seen_more bytes more (NoEnd n) h =
    let P : List ℕ → Type 0 = λ l. head_len l ≡ None in
    (omega (arith, h.0, length-append bytes more), h.1, subst P (sym (take-append-le n bytes more h.0)) h.2)
seen_more bytes more (Head head) h =
    let front = sym (take-append-le head.end bytes more h.within) in
    record {
      within = omega (arith, h.within, length-append bytes more);
      text = subst IsHeadText front h.text;
      framed = subst (λ (l : List ℕ). IsFramed l (Body head.method head.path head.content)) front h.framed;
    }

-- ---- a stream begins with one piece

-- where the head of the bytes ends, of a piece that has a head
module _ (s : List ℕ) where
  same_head : (a x b y : List ℕ) → IsHeadText a → IsHeadText b → a ++ x ≡ s → b ++ y ≡ s → a ≡ b
  same_head a x b y ta tb ea eb =
      let at : head_len s ≡ Some (length a) =
      subst (λ (l : List ℕ). head_len l ≡ Some (length a)) ea (head_len-append a x (length a) ta.ends) in
      sym ((head_is b y s (length a) tb eb at).1 ∙ ap (take (length a)) (sym ea) ∙ take_at a x (length a) refl)

  -- no head begins what has no end of a head
  not_endless : (a x b y : List ℕ) → IsHeadText a → IsEndless b → a ++ x ≡ s → b ++ y ≡ s → ⊥
  not_endless a x b y ta eb ea same =
      let at : head_len s ≡ Some (length a) =
      subst (λ (l : List ℕ). head_len l ≡ Some (length a)) ea (head_len-append a x (length a) ta.ends) in
      let f =
      head_len-front b y (length a) (subst (λ (l : List ℕ). head_len l ≡ Some (length a)) (sym same) at)
      (omega (arith, eb.0, ta.fits)) in
      let g = eb.1 in
      cc

  apart : (a : List ℕ) (content x : List ℕ) → (a ++ content) ++ x ≡ s → a ++ (content ++ x) ≡ s
  apart a content x e = sym (append_assoc a content x) ∙ e

  -- a message and what ends the connection don't stand at one place
  not_both : (a x b y : List ℕ) (h : RequestHead) (content : List ℕ) (status : ℕ) → IsPiece a (message h content)
      → IsPiece b (last status) → a ++ x ≡ s → b ++ y ≡ s → ⊥
  not_both a x b y h content status m l ea eb =
      let here : m.head ++ (content ++ x) ≡ s =
      apart m.head content x (ap (λ (k : List ℕ). k ++ x) (sym m.whole) ∙ ea) in
      elim l [
        | inl l1 ↦ elim l1.1 [
          | inl endless ↦ not_endless m.head (content ++ x) b y m.text endless here eb
          | inr refused ↦ refused.1 h
              (subst (λ (k : List ℕ). IsAccepted k h) (same_head m.head (content ++ x) b y m.text refused.0 here eb)
              m.accepted)
        ]
        | inr u ↦
            let same = same_head m.head (content ++ x) b y m.text u.0 here eb in
            let one : u.1 ≡ h = accepted_unique b u.1 h u.2 (subst (λ (k : List ℕ). IsAccepted k h) same m.accepted) in
            let other : framing_of h ≡ ends status = subst (λ (k : RequestHead). framing_of k ≡ ends status) one u.3 in
            let framed = m.framed in
            cc
      ]

  same_length : (a x b y : List ℕ) → a ++ x ≡ s → b ++ y ≡ s → length a ≡ length b → a ≡ b
  same_length a x b y ea eb e =
      sym (take_at a x (length a) refl) ∙ ap (take (length a)) (ea ∙ sym eb) ∙ take_at b y (length a) (sym e)

  same_message : (a x b y : List ℕ) (h k : RequestHead) (content other : List ℕ) → IsPiece a (message h content)
      → IsPiece b (message k other) → a ++ x ≡ s → b ++ y ≡ s
      → (a ≡ b) × (message h content ≡ message k other)
  same_message a x b y h k content other m n ea eb =
      let here : m.head ++ (content ++ x) ≡ s =
      apart m.head content x (ap (λ (l : List ℕ). l ++ x) (sym m.whole) ∙ ea) in
      let there : n.head ++ (other ++ y) ≡ s = apart n.head other y (ap (λ (l : List ℕ). l ++ y) (sym n.whole) ∙ eb) in
      let same = same_head m.head (content ++ x) n.head (other ++ y) m.text n.text here there in
      let one : h ≡ k =
      accepted_unique n.head h k (subst (λ (l : List ℕ). IsAccepted l h) same m.accepted) n.accepted in
      let len : body (length content) ≡ body (length other) = sym m.framed ∙ ap framing_of one ∙ n.framed in
      let len_is : length content ≡ length other = cc in
      let whole : a ≡ b =
      same_length a x b y ea eb
      (omega (
        arith,
        ap length m.whole,
        ap length n.whole,
        length-append m.head content,
        length-append n.head other,
        ap
            length same,
        len_is,
      )) in
      let content_is : content ≡ other =
      sym (drop_at m.head content (length m.head) refl) ∙ ap (drop (length m.head)) (sym m.whole ∙ whole ∙ n.whole)
      ∙ drop_at n.head other (length m.head) (ap length (sym same)) in
      (whole, ap (λ (j : RequestHead). message j content) one ∙ ap (message k) content_is)

  same_last : (a x b y : List ℕ) (i j : ℕ) → IsPiece a (last i) → IsPiece b (last j) → a ++ x ≡ s → b ++ y ≡ s
      → (a ≡ b) × (last i ≡ last j)
  same_last a x b y i j (inl (i_is, inl p)) (inl (j_is, inl q)) ea eb =
      (same_length a x b y ea eb (p.0 ∙ sym q.0), ap last (i_is ∙ sym j_is))
  same_last a x b y i j (inl (i_is, inl p)) (inl (j_is, inr q)) ea eb = absurd (not_endless b y a x q.0 p eb ea)
  same_last a x b y i j (inl (i_is, inr p)) (inl (j_is, inl q)) ea eb = absurd (not_endless a x b y p.0 q ea eb)
  same_last a x b y i j (inl (i_is, inr p)) (inl (j_is, inr q)) ea eb =
      (same_head a x b y p.0 q.0 ea eb, ap last (i_is ∙ sym j_is))
  same_last a x b y i j (inl (i_is, inl p)) (inr u) ea eb = absurd (not_endless b y a x u.0 p eb ea)
  same_last a x b y i j (inr u) (inl (j_is, inl q)) ea eb = absurd (not_endless a x b y u.0 q ea eb)
  same_last a x b y i j (inl (i_is, inr p)) (inr u) ea eb =
      absurd (p.1 u.1 (subst (λ (l : List ℕ). IsAccepted l u.1) (same_head b y a x u.0 p.0 eb ea) u.2))
  same_last a x b y i j (inr u) (inl (j_is, inr q)) ea eb =
      absurd (q.1 u.1 (subst (λ (l : List ℕ). IsAccepted l u.1) (same_head a x b y u.0 q.0 ea eb) u.2))
  same_last a x b y i j (inr u) (inr v) ea eb =
      let same = same_head a x b y u.0 v.0 ea eb in
      let one : u.1 ≡ v.1 = accepted_unique b u.1 v.1 (subst (λ (l : List ℕ). IsAccepted l u.1) same u.2) v.2 in
      let status : ends i ≡ ends j = sym u.3 ∙ ap framing_of one ∙ v.3 in
      let status_is : i ≡ j = cc in
      (same, ap last status_is)

  pub one_piece : (a x b y : List ℕ) (p q : Piece) → a ++ x ≡ s → b ++ y ≡ s → IsPiece a p → IsPiece b q
      → (a ≡ b) × (p ≡ q)
  one_piece a x b y (message h content) (message k other) ea eb m n = same_message a x b y h k content other m n ea eb
  one_piece a x b y (message h content) (last j) ea eb m n = absurd (not_both a x b y h content j m n ea eb)
  one_piece a x b y (last i) (message k other) ea eb m n = absurd (not_both b y a x k other i n m eb ea)
  one_piece a x b y (last i) (last j) ea eb m n = same_last a x b y i j m n ea eb
