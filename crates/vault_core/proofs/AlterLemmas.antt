-- A loop that changes the rows one after another: what is done, and the rest as it will be, are the whole as it will
-- be.
use Rattle.std.proofs.Common.{◌≡◌, ℕ, ◌+◌, ◌<◌, ◌≤◌, List, [], ◌∷◌, ◌++◌, length, take, drop, Bool, true, false, cond}
use Rattle.std.proofs.Common.{suc, zero, get_or, add-one, sym, ◌∙◌, ap, arith}
use Rattle.std.proofs.lemmas.List.{take_all, drop_all, append-nil}
use Rattle.std.proofs.Math.ListN.{set}
use Rattle.vault_core.specs.Questions.{alter}

module _ {R : Type 0} (test : R → Bool) (change : R → R) where
  abbrev pub so_far : ℕ → List R → List R
  so_far i rs = take i rs ++ alter test change (drop i rs)

  changes : (rs : List R) (i : ℕ) (d : R) → i < length rs → test (get_or rs i d) ≡ true
      → so_far (suc i) (set rs i (change (get_or rs i d))) ≡ so_far i rs
  changes [] i d lt is = absurd (omega arith)
  changes (r ∷ rs) zero d lt is = ap (λ b. cond b (change r) r ∷ alter test change rs) (sym is)
  changes (r ∷ rs) (suc i) d lt is = ap (λ zs. r ∷ zs) (changes rs i d (omega arith) is)

  stays : (rs : List R) (i : ℕ) (d : R) → i < length rs → test (get_or rs i d) ≡ false
      → so_far (suc i) (set rs i (get_or rs i d)) ≡ so_far i rs
  stays [] i d lt fails = absurd (omega arith)
  stays (r ∷ rs) zero d lt fails = ap (λ b. cond b (change r) r ∷ alter test change rs) (sym fails)
  stays (r ∷ rs) (suc i) d lt fails = ap (λ zs. r ∷ zs) (stays rs i d (omega arith) fails)

  pub so_far-changed : (rs ss : List R) (i : ℕ) (d : R) → i < length rs → test (get_or rs i d) ≡ true
      → ss ≡ set rs i (change (get_or rs i d)) → so_far (i + 1) ss ≡ so_far i rs
  so_far-changed rs ss i d lt passes is =
      ap (λ n. so_far n ss) (add-one i) ∙ ap (so_far (suc i)) is ∙ changes rs i d lt passes

  pub so_far-kept : (rs ss : List R) (i : ℕ) (d : R) → i < length rs → test (get_or rs i d) ≡ false
      → ss ≡ set rs i (get_or rs i d) → so_far (i + 1) ss ≡ so_far i rs
  so_far-kept rs ss i d lt fails is = ap (λ n. so_far n ss) (add-one i) ∙ ap (so_far (suc i)) is ∙ stays rs i d lt fails

  pub so_far-all : (rs : List R) (i : ℕ) → length rs ≤ i → so_far i rs ≡ rs
  so_far-all rs i le = rw (take_all i rs le, drop_all i rs le) (append-nil rs)

-- rows that a loop over them has written, as their owner finds them
pub written_back : {A : Type 0} (n : ℕ) (new old : List A) → length new ≡ n → n ≡ length old
    → take n (new ++ drop (length new) old) ≡ new
written_back n new old e f = rw (drop_all (length new) old (omega arith), append-nil new) (take_all n new (omega arith))
