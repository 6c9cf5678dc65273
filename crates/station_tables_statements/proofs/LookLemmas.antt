-- Calls that only look, one after another.
use Rattle.std.proofs.Common.{◌≡◌, inl, inr, Ok, Err, Result, sym, ap, ◌∙◌, subst, arith, true≢false, OnOk}
use Rattle.std.specs.Result.{IsErr}
use Rattle.sqlite_trees.specs.declared.store.Store.{Ghosts}
use Rattle.sqlite.specs.declared.transaction.Transaction.{Transaction}
use Rattle.sqlite.specs.Held.{state}
use Rattle.sqlite.specs.State.{HasCleanDisk, IsUnchanged}
use Rattle.sqlite.proofs.Callers.{unchanged_then}
use Rattle.sqlite.proofs.InsideLemmas.{keeps_then}
use Rattle.sqlite.proofs.StateLemmas.{survives_then}
use Rattle.station_tables_records.specs.Inside.{inside, Reads, Looks, IsSame}
use Rattle.channel_view_model.specs.Centre.{Centre}
use Rattle.station_tables_statements.specs.Calls.{HasCentre, WhileCleanCentre, set_in}
use Rattle.station_tables_statements.specs.Calls.{OwnsRowsNow}
use Rattle.station_tables_statements.proofs.SameLemmas.{same_set, centre_after, owned_after}

-- what follows from success
pub weaker : {X E : Type 0} (r : Result X E) {P Q : Type 0} → (P → Q) → OnOk r P → OnOk r Q
weaker (Ok x) f h = f h
weaker (Err e) f h = tt

module _ {S : Type 0} (g : Ghosts S) where
  module _ (old new : Transaction S) (same : IsSame g old new) where
    pub looked_set : set_in (inside g new) ≡ set_in (inside g old)
    looked_set =
        elim same [
          | inl idle ↦ ap (λ n. set_in (state g n)) idle
          | inr unchanged ↦ same_set (inside g old) (inside g new) unchanged
        ]

    pub centre_looked : HasCleanDisk (inside g old) → HasCentre (inside g old) → HasCentre (inside g new)
    centre_looked early centre =
        elim same [
          | inl idle ↦ subst (λ n. HasCentre (state g n)) (sym idle) centre
          | inr unchanged ↦ centre_after (inside g old) (inside g new) unchanged early centre
        ]

    pub owned_looked : HasCleanDisk (inside g old) → OwnsRowsNow (inside g old) → OwnsRowsNow (inside g new)
    owned_looked early owned =
        elim same [
          | inl idle ↦ subst (λ n. OwnsRowsNow (state g n)) (sym idle) owned
          | inr unchanged ↦ owned_after (inside g old) (inside g new) unchanged early owned
        ]

  same_then : (a b c : Transaction S) → IsSame g a b → IsSame g b c → IsSame g a c
  same_then a b c (inl p) (inl q) = inl (q ∙ p)
  same_then a b c (inl p) (inr u) = inr (subst (λ n. IsUnchanged (state g n) (inside g c)) p u)
  same_then a b c (inr u) (inl q) = inr (subst (λ n. IsUnchanged (inside g a) (state g n)) (sym q) u)
  same_then a b c (inr u) (inr v) = inr (unchanged_then _ _ _ u v)

  -- one look after another
  pub looks_then : {X Y E F : Type 0} (a b c : Transaction S) (x : X) (r : Result Y F)
      → Looks {X = X} {E = E} g a b (Ok x) → Looks g b c r → Looks g a c r
  looks_then a b c x r one two =
      let early : HasCleanDisk (inside g c) → HasCleanDisk (inside g b) =
      λ clean. omega (arith, two.survives.clean, clean) in
      record {
        same_reference = two.same_reference ∙ one.same_reference;
        same = λ clean. weaker r (same_then a b c (one.same (early clean))) (two.same clean);
        kept = λ clean. keeps_then _ _ _ (one.kept (early clean)) (two.kept clean);
        survives = survives_then _ _ _ _ _ _ (λ _ db none. none) (λ _ db none. none) one.survives two.survives;
      }

  -- one reading after another
  pub reads_then : {X Y E F : Type 0} (a b c : Transaction S) (x : X) (r : Result Y F)
      → Reads {X = X} {E = E} g a b (Ok x) → Reads g b c r → Reads g a c r
  reads_then a b c x r one two =
      let early : HasCleanDisk (inside g c) → HasCleanDisk (inside g b) =
      λ clean. omega (arith, two.survives.clean, clean) in
      record {
        same_reference = two.same_reference ∙ one.same_reference;
        same = λ clean. weaker r (λ later. unchanged_then _ _ _ (one.same (early clean)) later) (two.same clean);
        kept = λ clean. keeps_then _ _ _ (one.kept (early clean)) (two.kept clean);
        survives = survives_then _ _ _ _ _ _ (λ _ db none. none) (λ _ db none. none) one.survives two.survives;
      }

  -- a look after a reading
  pub look_after : {X Y E F : Type 0} (a b c : Transaction S) (x : X) (r : Result Y F)
      → Reads {X = X} {E = E} g a b (Ok x) → Looks g b c r → Reads g a c r
  look_after a b c x r one two =
      let early : HasCleanDisk (inside g c) → HasCleanDisk (inside g b) =
      λ clean. omega (arith, two.survives.clean, clean) in
      record {
        same_reference = two.same_reference ∙ one.same_reference;
        same =
            λ clean. weaker r
            (λ later. elim later [
              | inl idle ↦ subst (λ n. IsUnchanged (inside g a) (state g n)) (sym idle) (one.same (early clean))
              | inr unchanged ↦ unchanged_then _ _ _ (one.same (early clean)) unchanged
            ]) (two.same clean);
        kept = λ clean. keeps_then _ _ _ (one.kept (early clean)) (two.kept clean);
        survives = survives_then _ _ _ _ _ _ (λ _ db none. none) (λ _ db none. none) one.survives two.survives;
      }

  pub reads_err : {X Y E F : Type 0} (a b : Transaction S) (r : Result X E) (e : F) → Reads g a b r
      → Reads {X = Y} g a b (Err e)
  reads_err a b r e read =
      record { same_reference = read.same_reference; same = λ clean. tt; kept = read.kept; survives = read.survives }

  -- whatever was looked for, and whatever is answered of it
  pub looks_on : {X Y E F : Type 0} (a b : Transaction S) (x : X) (y : Y) → Looks {X = X} {E = E} g a b (Ok x)
      → Looks {X = Y} {E = F} g a b (Ok y)
  looks_on a b x y look =
      record { same_reference = look.same_reference; same = look.same; kept = look.kept; survives = look.survives }

  pub looks_err : {X Y E F : Type 0} (a b : Transaction S) (r : Result X E) (s : Result Y F) → IsErr s → Looks g a b r
      → Looks g a b s
  looks_err a b r (Ok y) is look = absurd (true≢false (sym is))
  looks_err a b r (Err e) is look =
      record { same_reference = look.same_reference; same = λ clean. tt; kept = look.kept; survives = look.survives }

  -- a reading is a look, and so is what is read after a look
  pub read_is_look : {X E : Type 0} (a b : Transaction S) (r : Result X E) → Reads g a b r → Looks g a b r
  read_is_look a b r read =
      record {
        same_reference = read.same_reference;
        same = λ clean. weaker r (λ same. inr same) (read.same clean);
        kept =
            read.kept;
        survives = read.survives;
      }

  pub read_after : {X Y E F : Type 0} (a b c : Transaction S) (x : X) (r : Result Y F)
      → Looks {X = X} {E = E} g a b (Ok x) → Reads g b c r → Looks g a c r
  read_after a b c x r one two = looks_then a b c x r one (read_is_look b c r two)

  -- the disk that is clean at the end of a call was so before
  pub was_clean : {X E : Type 0} (a b : Transaction S) (r : Result X E) → Looks g a b r → HasCleanDisk (inside g b)
      → HasCleanDisk (inside g a)
  was_clean a b r look clean = omega (arith, look.survives.clean, clean)

  -- what is said of the set after a look is said of the set before it
  module _ {X Y E F : Type 0} (a b c : Transaction S) (x : X) (r : Result Y F)
      (one : Looks {X = X} {E = E} g a b (Ok x)) (two : Looks g b c r) where
    pub set_before : (Q : Centre → Type 0) → WhileCleanCentre g b c (Q (set_in (inside g b)))
        → WhileCleanCentre g a c (Q (set_in (inside g a)))
    set_before Q says centre clean =
        let clean_b = was_clean b c r two clean in
        let clean_a = was_clean a b (Ok x) one clean_b in
        let same = one.same clean_b in
        subst Q (looked_set a b same) (says (centre_looked a b same clean_a centre) clean)
