-- What is lent, in the order of the channels that it is lent to.
use Rattle.std.proofs.Common.{◌≡◌, ℕ, List, [], ◌∷◌, Bool, true, false, cond, filter, length, map}
use Rattle.std.proofs.Common.{Less, Equal, Greater, refl, sym, ◌∙◌, ap, arith}
use Rattle.std.specs.Prelude.{◌==◌, nat_lt, not, ◌&&◌}
use Rattle.std.specs.Ordering.{is_lt, nat_cmp}
use Rattle.std.specs.List.Sorted.{IsStableByKey}
use Rattle.std.proofs.lemmas.Bool.Decides.{nat_tests}
use Rattle.vault_core.specs.declared.offer.Offer.{Offer}
use Rattle.grant_core.specs.declared.grant.Grant.{Grant}
use Rattle.channel_view_model.specs.Tables.{Table}
use Rattle.channel_view_model.specs.Seen.{grant_of, grants_to}
use Rattle.channel_view_rules.specs.Lent.{LendsAs}

-- the channel that a clip is lent to
abbrev pub grantee_of : Grant → ℕ
grantee_of g = g.offer.grantee

less_is : (b e : Bool) → is_lt (cond b Less (cond e Equal Greater)) ≡ b
less_is true e = refl
less_is false true = refl
less_is false false = refl

-- numbers tie where they are one
tie_is : (c k : ℕ) → (not (is_lt (nat_cmp c k)) && not (is_lt (nat_cmp k c))) ≡ (k == c)
tie_is c k =
    (λ i. not (less_is (nat_lt c k) (c == k) i) && not (less_is (nat_lt k c) (k == c) i)) ∙ grind (arith, nat_tests)

-- a stable sort leaves the order of those that are lent to one channel
kept_order : (xs ys : List Grant) → length ys ≡ length xs → IsStableByKey grantee_of nat_cmp xs ys → (c : ℕ)
    → filter (λ g. grantee_of g == c) ys ≡ filter (λ g. grantee_of g == c) xs
kept_order [] [] many stable c = refl
kept_order [] (y ∷ ys) many stable c = absurd (omega (arith, many))
kept_order (g ∷ gs) ys many stable c =
    let other : Grant = record g { offer = record g.offer { grantee = c } } in
    (λ i. filter (λ x. sym (tie_is c (grantee_of x)) i) ys) ∙ stable other
    ∙ (λ i. filter (λ x. tie_is c (grantee_of x) i) (g ∷ gs))

lent_to : (c : ℕ) (rs : Table Offer) → filter (λ g. grantee_of g == c) (map grant_of rs) ≡ grants_to c rs
lent_to c [] = refl
lent_to c (r ∷ rs) = go (r.1.grantee == c) (lent_to c rs)
  where
    go : (b : Bool) → filter (λ g. grantee_of g == c) (map grant_of rs) ≡ grants_to c rs
        → cond b (grant_of r ∷ filter (λ g. grantee_of g == c) (map grant_of rs))
        (filter (λ g. grantee_of g == c) (map grant_of rs))
        ≡ map grant_of (cond b (r ∷ filter (λ s. s.1.grantee == c) rs) (filter (λ s. s.1.grantee == c) rs))
    go true rest = ap (λ l. grant_of r ∷ l) rest
    go false rest = rest

pub lends_as : (offers : Table Offer) (made : List Grant) → made ≡ map grant_of offers → (sorted : List Grant)
    → length sorted ≡ length made → IsStableByKey grantee_of nat_cmp made sorted → LendsAs sorted offers
lends_as offers made is sorted many stable c =
    kept_order made sorted many stable c ∙ ap (filter (λ g. grantee_of g == c)) is ∙ lent_to c offers
