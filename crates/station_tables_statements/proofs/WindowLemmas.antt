-- Offers whose windows were read, one after another.
use Rattle.std.proofs.Common.{◌≡◌, ℕ, Bool, zero, suc, ◌<◌, List, [], ◌∷◌, ◌++◌, map, filter, length, take, reverse}
use Rattle.std.proofs.Common.{get_or, inl, inr, Result, Ok, Err, OnOk, refl, sym, ap, ap₂, ◌∙◌, arith}
use Rattle.std.proofs.lemmas.List.{take-map, map-append, reverse-append}
use Rattle.sqlite.specs.State.{State, HasCleanDisk, IsUnchanged}
use Rattle.sqlite_trees.specs.declared.store.Store.{Ghosts}
use Rattle.sqlite.specs.declared.transaction.Transaction.{Transaction}
use Rattle.sqlite.specs.Effect.{Database}
use Rattle.sqlite.specs.Held.{state}
use Rattle.station_tables_records.specs.Inside.{inside, IsSame, Looks, Reads}
use Rattle.station_tables_records.specs.TablePairs.{offer_rows_in}
use Rattle.vault_core.specs.declared.offer.Offer.{Offer}
use Rattle.station_tables_records.specs.declared.offer_rows.SpanRow.{SpanRow}
use Rattle.station_tables_records.specs.MadeOffers.{OfferSet, offer_made, offers_made}
use Rattle.station_tables_records.specs.Numbered.{is_of, is_on_page, is_row}
use Rattle.station_tables_statements.specs.Rows.{offers_in}
use Rattle.station_tables_records.proofs.OfferLemmas.{made_kept}
use Rattle.station_tables_statements.specs.declared.numbered.Question.{Question}
use Rattle.station_tables_statements.specs.declared.numbered.Question.TheVariants.{All, Page, Last, Number}
use Rattle.station_tables_statements.specs.Numbered.{found_by}
use Rattle.station_tables_statements.specs.Calls.{HasCentre}
use Rattle.station_tables_statements.proofs.SameLemmas.{centre_after}

-- what was looked at has the rows that it had
pub looked_offers : {S : Type 0} (g : Ghosts S) (old new : Transaction S) → IsSame g old new
    → offer_rows_in (inside g new).now.trees ≡ offer_rows_in (inside g old).now.trees
looked_offers g old new same =
    elim same [
      | inl idle ↦ ap (λ n. offer_rows_in (state g n).now.trees) idle
      | inr unchanged ↦ ap (λ (d : Database). offer_rows_in d.trees) unchanged.0.now_is
    ]

-- one more of a list that is made
pub made_one : {X Y : Type 0} (f : X → Y) (xs : List X) (i : ℕ) (d : X) → i < length xs
    → map f (take (suc i) xs) ≡ map f (take i xs) ++ f (get_or xs i d) ∷ []
made_one f [] i d lt = absurd (omega (arith, lt))
made_one f (x ∷ xs) zero d lt = refl
made_one f (x ∷ xs) (suc i) d lt = ap (λ l. f x ∷ l) (made_one f xs i d (omega (arith, lt)))

-- the offers of those rows that pass a test which looks at no window, with the windows that were read behind them
pub made_part : (old mid : State) → IsUnchanged old mid → (p : ℕ × Offer → Bool)
    → ((spans : List (ℕ × SpanRow)) (o : ℕ × Offer) → p (offer_made spans o) ≡ p o) → (bare made : List (ℕ × Offer))
    → bare ≡ filter p (offer_rows_in old.now.trees).offers
    → made ≡ map (offer_made (offer_rows_in mid.now.trees).spans) bare → made ≡ filter p (offers_in old.now.trees)
made_part old mid same p blind bare made bare_is made_is =
    made_is
    ∙ ap₂ (λ (d : Database) l. map (offer_made (offer_rows_in d.trees).spans) l) same.0.now_is bare_is
    ∙ sym
    (made_kept (offer_rows_in old.now.trees).spans p (blind (offer_rows_in old.now.trees).spans)
    (offer_rows_in old.now.trees).offers)

-- whatever is made of what was read
ok_of : {Y F : Type 0} (r : Result Y F) {P : Type 0} → P → OnOk r P
ok_of (Ok y) p = p
ok_of (Err e) p = tt

pub reads_of : {S X Y E F : Type 0} (g : Ghosts S) (a b : Transaction S) (x : X) (r : Result Y F)
    → Reads {X = X} {E = E} g a b (Ok x) → Reads g a b r
reads_of g a b x r reads =
    record {
      same_reference = reads.same_reference;
      same = λ clean. ok_of r (reads.same clean);
      kept = reads.kept;
      survives =
          reads.survives;
    }

reversed_map : {X Y : Type 0} (f : X → Y) (xs : List X) → map f (reverse xs) ≡ reverse (map f xs)
reversed_map f [] = refl
reversed_map f (x ∷ xs) =
    ap (map f) (reverse-append (x ∷ []) xs) ∙ map-append f (reverse xs) (x ∷ [])
    ∙ ap (λ l. l ++ f x ∷ []) (reversed_map f xs) ∙ sym (reverse-append (f x ∷ []) (map f xs))

-- what answers a question looks at no window
pub found_made : (question : Question) (rows : OfferSet) (c : ℕ)
    → map (offer_made rows.spans) (found_by question (λ o. o.n) c rows.offers)
    ≡ found_by question (λ o. o.n) c (offers_made rows)
found_made All rows c = sym (made_kept rows.spans (is_of c) (λ o. refl) rows.offers)
found_made (Page p) rows c = sym (made_kept rows.spans (is_on_page (λ (o : Offer). o.n) c p) (λ o. refl) rows.offers)
found_made Last rows c =
    sym (take-map (offer_made rows.spans) 1 (reverse (filter (is_of c) rows.offers)))
    ∙ ap (take 1) (reversed_map (offer_made rows.spans) (filter (is_of c) rows.offers))
    ∙ ap (λ l. take 1 (reverse l)) (sym (made_kept rows.spans (is_of c) (λ o. refl) rows.offers))
found_made (Number n) rows c = sym (made_kept rows.spans (is_row (λ (o : Offer). o.n) c n) (λ o. refl) rows.offers)

-- the offers that were found, with the windows that were read behind them
pub offers_found : {S X Y E F : Type 0} (g : Ghosts S) (a b c : Transaction S) (x : X) (r : Result Y F)
    → Reads {X = X} {E = E} g a b (Ok x) → Looks g b c r → HasCleanDisk (inside g c) → HasCentre (inside g a)
    → (p : ℕ × Offer → Bool) → ((spans : List (ℕ × SpanRow)) (o : ℕ × Offer) → p (offer_made spans o) ≡ p o)
    → (bare made : List (ℕ × Offer))
    → (HasCleanDisk (inside g b) → bare ≡ filter p (offer_rows_in (inside g a).now.trees).offers)
    → (HasCentre (inside g b) → made ≡ map (offer_made (offer_rows_in (inside g b).now.trees).spans) bare)
    → made ≡ filter p (offers_in (inside g a).now.trees)
offers_found g a b c x r one two clean centre p blind bare made bare_is made_is =
    let clean_b : HasCleanDisk (inside g b) = omega (arith, two.survives.clean, clean) in
    let early : HasCleanDisk (inside g a) = omega (arith, one.survives.clean, clean_b) in
    let same : IsUnchanged (inside g a) (inside g b) = one.same clean_b in
    made_part (inside g a) (inside g b) same p blind bare made (bare_is clean_b)
    (made_is (centre_after (inside g a) (inside g b) same early centre))

-- what answers a question of a channel's offers, likewise
pub answers_with_windows : (question : Question) (c : ℕ) (old mid : State) → IsUnchanged old mid
    → (bare made : List (ℕ × Offer)) → bare ≡ found_by question (λ o. o.n) c (offer_rows_in old.now.trees).offers
    → made ≡ map (offer_made (offer_rows_in mid.now.trees).spans) bare
    → made ≡ found_by question (λ o. o.n) c (offers_in old.now.trees)
answers_with_windows question c old mid same bare made bare_is made_is =
    made_is ∙ ap₂ (λ (d : Database) l. map (offer_made (offer_rows_in d.trees).spans) l) same.0.now_is bare_is
    ∙ found_made question (offer_rows_in old.now.trees) c
