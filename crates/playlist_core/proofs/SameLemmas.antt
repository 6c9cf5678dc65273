-- Items that are one by all their fields.
use Rattle.std.proofs.Common.{◌≡◌, ℕ, Bool, true, false, ◌&&◌, List, [], ◌∷◌, suc, refl, sym, ap, ap₂, ◌∙◌, arith}
use Rattle.std.proofs.Common.{true≢false}
use Rattle.std.specs.Prelude.{◌==◌, Contains, IsTrue}
use Rattle.std.proofs.lemmas.Bool.Decides.{nat_tests}
use Rattle.std.proofs.lemmas.List.Folds.{list_any_at}
use Rattle.playlist_core.specs.declared.source.Source.{Source}
use Rattle.playlist_core.specs.declared.source.Source.TheVariants.{Black, Bars, Own, Lent}
use Rattle.playlist_core.specs.declared.item.EditKind.{EditKind}
use Rattle.playlist_core.specs.declared.item.EditKind.TheVariants.{Cut, Dissolve, Wipe}
use Rattle.playlist_core.specs.declared.item.Item.{Item}
use Rattle.playlist_core.specs.Difference.{same_source, same_kind, same_item, is_among}

pub nat_is : (m n : ℕ) → (m == n) ≡ true → m ≡ n
nat_is m n same = grind (arith, nat_tests, same)

pub nat_itself : (n : ℕ) → (n == n) ≡ true
nat_itself n = grind (arith, nat_tests)

pub first : (a b : Bool) → (a && b) ≡ true → a ≡ true
first true b both = refl
first false b both = both

pub second : (a b : Bool) → (a && b) ≡ true → b ≡ true
second true b both = both
second false b both = absurd (true≢false (sym both))

source_is : (s t : Source) → same_source s t ≡ true → s ≡ t
source_is Black Black same = refl
source_is Black Bars same = absurd (true≢false (sym same))
source_is Black (Own n) same = absurd (true≢false (sym same))
source_is Black (Lent o n) same = absurd (true≢false (sym same))
source_is Bars Black same = absurd (true≢false (sym same))
source_is Bars Bars same = refl
source_is Bars (Own n) same = absurd (true≢false (sym same))
source_is Bars (Lent o n) same = absurd (true≢false (sym same))
source_is (Own m) Black same = absurd (true≢false (sym same))
source_is (Own m) Bars same = absurd (true≢false (sym same))
source_is (Own m) (Own n) same = ap Own (nat_is m n same)
source_is (Own m) (Lent o n) same = absurd (true≢false (sym same))
source_is (Lent p m) Black same = absurd (true≢false (sym same))
source_is (Lent p m) Bars same = absurd (true≢false (sym same))
source_is (Lent p m) (Own n) same = absurd (true≢false (sym same))
source_is (Lent p m) (Lent o n) same = ap₂ Lent (nat_is p o (first _ _ same)) (nat_is m n (second (p == o) _ same))

source_itself : (s : Source) → same_source s s ≡ true
source_itself Black = refl
source_itself Bars = refl
source_itself (Own n) = nat_itself n
source_itself (Lent o n) = ap₂ ◌&&◌ (nat_itself o) (nat_itself n)

kind_is : (j k : EditKind) → same_kind j k ≡ true → j ≡ k
kind_is Cut Cut same = refl
kind_is Cut Dissolve same = absurd (true≢false (sym same))
kind_is Cut (Wipe n) same = absurd (true≢false (sym same))
kind_is Dissolve Cut same = absurd (true≢false (sym same))
kind_is Dissolve Dissolve same = refl
kind_is Dissolve (Wipe n) same = absurd (true≢false (sym same))
kind_is (Wipe m) Cut same = absurd (true≢false (sym same))
kind_is (Wipe m) Dissolve same = absurd (true≢false (sym same))
kind_is (Wipe m) (Wipe n) same = ap Wipe (nat_is m n same)

kind_itself : (k : EditKind) → same_kind k k ≡ true
kind_itself Cut = refl
kind_itself Dissolve = refl
kind_itself (Wipe n) = nat_itself n

pub same_is : (a b : Item) → same_item a b ≡ true → a ≡ b
same_is a b same =
    let h1 : (a.pos == b.pos
    && (a.frames == b.frames
    && (same_source a.src b.src && (a.src_first == b.src_first && (same_kind a.kind b.kind && a.mix == b.mix)))))
    ≡ true = second (a.n == b.n) _ same in
    let h2 : (a.frames == b.frames
    && (same_source a.src b.src && (a.src_first == b.src_first && (same_kind a.kind b.kind && a.mix == b.mix))))
    ≡ true = second (a.pos == b.pos) _ h1 in
    let h3 : (same_source a.src b.src && (a.src_first == b.src_first && (same_kind a.kind b.kind && a.mix == b.mix)))
    ≡ true = second (a.frames == b.frames) _ h2 in
    let h4 : (a.src_first == b.src_first && (same_kind a.kind b.kind && a.mix == b.mix)) ≡ true =
    second (same_source a.src b.src) _ h3 in
    let h5 : (same_kind a.kind b.kind && a.mix == b.mix) ≡ true = second (a.src_first == b.src_first) _ h4 in
    λ i. record {
      n = nat_is a.n b.n (first _ _ same) i;
      pos = nat_is a.pos b.pos (first _ _ h1) i;
      frames = nat_is a.frames b.frames (first _ _ h2) i;
      src = source_is a.src b.src (first _ _ h3) i;
      src_first = nat_is a.src_first b.src_first (first _ _ h4) i;
      kind = kind_is a.kind b.kind (first _ _ h5) i;
      mix = nat_is a.mix b.mix (second (same_kind a.kind b.kind) _ h5) i;
    }

pub same_itself : (a : Item) → same_item a a ≡ true
same_itself a =
    ap₂ ◌&&◌ (nat_itself a.n)
    (ap₂ ◌&&◌ (nat_itself a.pos)
    (ap₂ ◌&&◌ (nat_itself a.frames)
    (ap₂ ◌&&◌ (source_itself a.src)
    (ap₂ ◌&&◌ (nat_itself a.src_first) (ap₂ ◌&&◌ (kind_itself a.kind) (nat_itself a.mix))))))

-- two cases
pub when : {P : Type 0} (b : Bool) → (b ≡ true → P) → (b ≡ false → P) → P
when true yes_ not_ = yes_ refl
when false yes_ not_ = not_ refl

-- ---- of a list that has it

pub among_has_it : (is : List Item) (x : Item) → is_among is x ≡ true → Contains is x
among_has_it [] x there = absurd (true≢false (sym there))
among_has_it (i ∷ is) x there = when (same_item i x)
    (λ same. (0, omega arith, same_is i x same))
    (λ other. let rest = among_has_it is x (grind (arith, there, other)) in let lt = rest.1 in
    (suc rest.0, omega (arith, lt), rest.2))

pub it_is_among : (is : List Item) (x : Item) → Contains is x → is_among is x ≡ true
it_is_among is x has = list_any_at (λ i. same_item i x) is has.0 x has.1 (ap (λ i. same_item i x) has.2 ∙ same_itself x)

pub one_test : (a b : Bool) → (IsTrue a → b ≡ true) → (b ≡ true → IsTrue a) → a ≡ b
one_test true b on back = sym (on refl)
one_test false true on back = back refl
one_test false false on back = refl
