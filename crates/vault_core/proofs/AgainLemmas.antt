-- A command on tapes or clips that is sent again, right after it was done: it is refused, as done already.
use Rattle.std.proofs.Common.{◌≡◌, ℕ, List, [], ◌∷◌, ◌++◌, length, Bool, true, false, ◌||◌, cond, refl, sym, ◌∙◌, ap}
use Rattle.std.proofs.Common.{subst, ◌+◌, arith}
use Rattle.std.specs.Prelude.{◌==◌, nat_le, find, bytes_eq, Option, Some, None, Result, Ok, Err, not, is_some}
use Rattle.std.specs.Prelude.{if◌then◌else◌}
use Rattle.std.specs.Option.{option_map}
use Rattle.std.specs.List.{list_any}
use Rattle.std.proofs.lemmas.Bool.Decides.{nat_tests}
use Rattle.std.proofs.lemmas.List.Folds.{list_any-append}
use Rattle.timecode.specs.declared.faults.TcFault.{TcFault}
use Rattle.timecode.specs.LabelReading.{reading_of_text as reading_of_label}
use Rattle.umid.specs.BasicUmid.{UmidParts, basic_umid}
use Rattle.umid.specs.declared.fault.UmidFault.{UmidFault}
use Rattle.umid.specs.Fault.{reading_of_text as reading_of_umid}
use Rattle.channel_plan.specs.declared.refusal.Code.TheVariants.{Label, Umid, BarcodeForm, BadSlot, BarcodeKnown}
use Rattle.channel_plan.specs.declared.refusal.Code.TheVariants.{SlotTaken, VaultFull, TapeOut, TapeShelved, TitleForm}
use Rattle.channel_plan.specs.declared.refusal.Code.TheVariants.{ClipRange, UmidKnown, RegisterFull, ClipRetired}
use Rattle.channel_plan.specs.declared.refusal.Refusal.{Refusal}
use Rattle.channel_plan.specs.Refusal.{refused}
use Rattle.vault_core.specs.declared.tape.Tape.{Tape}
use Rattle.vault_core.specs.declared.clip.Clip.{Clip}
use Rattle.vault_core.specs.Questions.{alter}
use Rattle.vault_core.specs.Own.{Own, own_seen, with_tape, with_slot, with_clip, with_retired}
use Rattle.vault_core.specs.Barcode.{is_barcode}
use Rattle.vault_core.specs.Title.{is_title}
use Rattle.vault_core.specs.Tape.{stands_in, is_bad_slot, tape_for, of_tape, as_pulled, pulled, shelved_in, shelved}
use Rattle.vault_core.specs.Clip.{is_clip_range, umid_bytes, has_umid, clip_on, clip_for, of_reading, clip_of_texts}
use Rattle.vault_core.specs.Clip.{of_clip, as_retired, retired_clip}

-- a test that was passed, and one that isn't
pub passes : {E X : Type 0} (b : Bool) (e : E) (r : Result X E) (x : X) → cond b (Err e) r ≡ Ok x
    → (b ≡ false) × (r ≡ Ok x)
passes true e r x h = absurd (cc)
passes false e r x h = (refl, h)

pub ok_is : {E X : Type 0} (s u : X) → (let r : Result X E = Ok s in r ≡ Ok u) → s ≡ u
ok_is s u h = cc

pub itself : (n : ℕ) → (n == n) ≡ true
itself n = grind (arith, nat_tests)

pub bytes_same : (text : List ℕ) → bytes_eq text text ≡ true
bytes_same [] = refl
bytes_same (b ∷ text) = let here = itself b in let rest = bytes_same text in grind (arith, here, rest)

-- one row more at the end is found
pub any_last : {R : Type 0} (p : R → Bool) (rs : List R) (r : R) → p r ≡ true → list_any p (rs ++ r ∷ []) ≡ true
any_last p rs r is = list_any-append p rs (r ∷ []) ∙ by (list_any p rs)
  where
    by : (b : Bool) → (b || (p r || false)) ≡ true
    by true = refl
    by false = ap (λ b. b || false) is

module _ {R : Type 0} (number : R → ℕ) where
  -- what is found by its number has it
  pub has_its_number : (n : ℕ) (rs : List R) (u : R) → find (λ r. number r == n) rs ≡ Some u → number u ≡ n
  has_its_number n [] u h = absurd (cc)
  has_its_number n (r ∷ rs) u h =
      elim (number r == n)
      as (λ b. (number r == n) ≡ b → (if b then Some r else find (λ r. number r == n) rs) ≡ Some u → number u ≡ n) [
        | true ↦ λ is e. let same : r ≡ u = cc in subst (λ (v : R). number v ≡ n) same (grind (arith, nat_tests, is))
        | false ↦ λ is e. has_its_number n rs u e
      ] refl h

  -- and is found changed, where it was changed under it
  pub found_altered : (f : R → R) → ((r : R) → number (f r) ≡ number r) → (n : ℕ) (rs : List R) (u : R)
      → find (λ r. number r == n) rs ≡ Some u
      → find (λ r. number r == n) (alter (λ r. number r == n) f rs) ≡ Some (f u)
  found_altered f same n [] u h = absurd (cc)
  found_altered f same n (r ∷ rs) u h =
      elim (number r == n) as (λ b. (number r == n) ≡ b → (if b then Some r else find (λ r. number r == n) rs) ≡ Some u
      → (if number (if b then f r else r) == n then Some (if b then f r else r)
      else find (λ r. number r == n) (alter (λ r. number r == n) f rs)) ≡ Some (f u)) [
        | true ↦ λ is e.
            ap (λ b. if b then Some (f r) else find (λ r. number r == n) (alter (λ r. number r == n) f rs))
            (ap (λ k. k == n) (same r) ∙ is)
            ∙ ap (option_map f) e
        | false ↦ λ is e.
            ap (λ b. if b then Some r else find (λ r. number r == n) (alter (λ r. number r == n) f rs)) is
            ∙ found_altered f same n rs u e
      ] refl h

pub tape_again : (own : Own) (barcode : List ℕ) (slot : ℕ) (t : Tape) → tape_for (own_seen own) barcode slot ≡ Ok t
    → tape_for (own_seen (with_tape own t)) barcode slot ≡ Err (refused BarcodeKnown)
unfolding tape_for
tape_again own barcode slot t made =
    let form = passes (not (is_barcode barcode)) _ _ t made in
    let place = passes (is_bad_slot own.plan slot) _ _ t form.1 in
    let known = passes (list_any (λ u. bytes_eq u.barcode barcode) own.tapes) _ _ t place.1 in
    let free = passes (list_any (λ u. stands_in slot u.slot) own.tapes) _ _ t known.1 in
    let room = passes (nat_le 9999 (length own.tapes)) _ _ t free.1 in
    let is : record { n = length own.tapes + 1; barcode = barcode; slot = Some slot } ≡ t = ok_is _ _ room.1 in
    let same : bytes_eq t.barcode barcode ≡ true =
    subst (λ (u : Tape). bytes_eq u.barcode barcode ≡ true) is (bytes_same barcode) in
    ap (λ b. cond b (Err (refused BarcodeForm))
    (cond (is_bad_slot own.plan slot) (Err (refused BadSlot))
    (rest (list_any (λ u. bytes_eq u.barcode barcode) (own.tapes ++ t ∷ []))))) form.0
    ∙ ap (λ b. cond b (Err (refused BadSlot)) (rest (list_any (λ u. bytes_eq u.barcode barcode) (own.tapes ++ t ∷ []))))
    place.0
    ∙ ap rest (any_last (λ u. bytes_eq u.barcode barcode) own.tapes t same)
  where
    rest : Bool → Result Tape Refusal
    rest b = cond b (Err (refused BarcodeKnown))
        (cond (list_any (λ u. stands_in slot u.slot) (own.tapes ++ t ∷ [])) (Err (refused SlotTaken))
        (cond (nat_le 9999 (length (own.tapes ++ t ∷ []))) (Err (refused VaultFull))
        (Ok (record { n = length (own.tapes ++ t ∷ []) + 1; barcode = barcode; slot = Some slot }))))

-- a tape that was found stands where the command put it
module _ (own : Own) (n m : ℕ) (slot : Option ℕ) (u : Tape) (found : find (λ t. t.n == n) own.tapes ≡ Some u)
    (named : m ≡ n) where
  tape_found : find (λ t. t.n == n) (with_slot m slot own).tapes ≡ Some (record u { slot = slot })
  tape_found =
      ap (λ k. find (λ t. t.n == n) (alter (λ t. t.n == k) (λ t. record t { slot = slot }) own.tapes)) named
      ∙ found_altered (λ (t : Tape). t.n) (λ t. record t { slot = slot }) (λ t. refl) n own.tapes u found

pub pull_again : (own : Own) (n : ℕ) (t : Tape) → pulled (own_seen own) n ≡ Ok t
    → pulled (own_seen (with_slot t.n t.slot own)) n ≡ Err (refused TapeOut)
unfolding pulled
pull_again own n t made = by (find (λ u. u.n == n) own.tapes) refl made
  where
    under : (u : Tape) (o : Option ℕ) → find (λ u. u.n == n) own.tapes ≡ Some u → u.slot ≡ o
        → (if is_some o then Ok (record u { slot = None }) else Err (refused TapeOut)) ≡ Ok t
        → of_tape as_pulled (find (λ u. u.n == n) (with_slot t.n t.slot own).tapes) ≡ Err (refused TapeOut)
    under u None found is h = absurd (cc)
    under u (Some s) found is h =
        let same : record u { slot = None } ≡ t = cc in
        let named : t.n ≡ n =
        ap (λ (v : Tape). v.n) (sym same) ∙ has_its_number (λ (v : Tape). v.n) n own.tapes u found in
        ap (of_tape as_pulled) (tape_found own n t.n t.slot u found named)
        ∙ ap (λ o. as_pulled (record u { slot = o })) (ap (λ (v : Tape). v.slot) (sym same))

    by : (o : Option Tape) → find (λ u. u.n == n) own.tapes ≡ o → of_tape as_pulled o ≡ Ok t
        → of_tape as_pulled (find (λ u. u.n == n) (with_slot t.n t.slot own).tapes) ≡ Err (refused TapeOut)
    by None found h = absurd (cc)
    by (Some u) found h = under u u.slot found refl h

pub shelve_again : (own : Own) (n slot : ℕ) (t : Tape) → shelved (own_seen own) n slot ≡ Ok t
    → shelved (own_seen (with_slot t.n t.slot own)) n slot ≡ Err (refused TapeShelved)
unfolding shelved
shelve_again own n slot t made = by (find (λ u. u.n == n) own.tapes) refl made
  where
    taken : Bool
    taken = list_any (λ u. stands_in slot u.slot) (with_slot t.n t.slot own).tapes

    by : (o : Option Tape) → find (λ u. u.n == n) own.tapes ≡ o
        → of_tape (shelved_in own.plan slot (list_any (λ u. stands_in slot u.slot) own.tapes)) o ≡ Ok t
        → of_tape (shelved_in own.plan slot taken) (find (λ u. u.n == n) (with_slot t.n t.slot own).tapes)
        ≡ Err (refused TapeShelved)
    by None found h = absurd (cc)
    by (Some u) found h =
        let place = passes (is_bad_slot own.plan slot) _ _ t h in
        let out = passes (is_some u.slot) _ _ t place.1 in
        let free = passes (list_any (λ u. stands_in slot u.slot) own.tapes) _ _ t out.1 in
        let same : record u { slot = Some slot } ≡ t = ok_is _ _ free.1 in
        let named : t.n ≡ n =
        ap (λ (v : Tape). v.n) (sym same) ∙ has_its_number (λ (v : Tape). v.n) n own.tapes u found in
        ap (of_tape (shelved_in own.plan slot taken)) (tape_found own n t.n t.slot u found named)
        ∙ ap (λ o. shelved_in own.plan slot taken (record u { slot = o })) (ap (λ (v : Tape). v.slot) (sym same))
        ∙ ap (λ b. if b then Err (refused BadSlot) else Err (refused TapeShelved)) place.0

clip_for_again : (own : Own) (tape : ℕ) (title : List ℕ) (umid : UmidParts) (first frames : ℕ) (k : Clip)
    → clip_for (own_seen own) tape title umid first frames ≡ Ok k
    → clip_for (own_seen (with_clip own k)) tape title umid first frames ≡ Err (refused UmidKnown)
unfolding clip_for umid_bytes
clip_for_again own tape title umid first frames k made =
    let form = passes (not (is_title title)) _ _ k made in
    ap (λ b. cond b (Err (refused TitleForm)) (of_tape on (find (λ t. t.n == tape) own.tapes))) form.0
    ∙ by (find (λ t. t.n == tape) own.tapes) form.1
  where
    on : Tape → Result Clip Refusal
    on t =
        clip_on own.plan (list_any (has_umid umid) (own.clips ++ k ∷ [])) (length (own.clips ++ k ∷ [])) title umid
        first frames t

    by : (o : Option Tape)
        → of_tape (clip_on own.plan (list_any (has_umid umid) own.clips) (length own.clips) title umid first frames) o
        ≡ Ok k → of_tape on o ≡ Err (refused UmidKnown)
    by None h = absurd (cc)
    by (Some t) h =
        let range = passes (not (is_clip_range own.plan first frames)) _ _ k h in
        let known = passes (list_any (has_umid umid) own.clips) _ _ k range.1 in
        let room = passes (nat_le 20000 (length own.clips)) _ _ k known.1 in
        let made : Clip =
        record {
          n = length own.clips + 1;
          tape = t.n;
          title = title;
          umid = umid;
          src_first = first;
          frames =
              frames;
          retired = false;
        } in
        let same : made ≡ k = ok_is _ _ room.1 in
        let has : has_umid umid k ≡ true =
        subst (λ (c : Clip). has_umid umid c ≡ true) same (bytes_same (basic_umid umid)) in
        ap (λ b. cond b (Err (refused ClipRange))
        (if list_any (has_umid umid) (own.clips ++ k ∷ []) then Err (refused UmidKnown) else behind t)) range.0
        ∙ ap (λ b. cond b (Err (refused UmidKnown)) (behind t)) (any_last (has_umid umid) own.clips k has)
      where
        behind : Tape → Result Clip Refusal
        behind t = if nat_le 20000 (length (own.clips ++ k ∷ [])) then Err (refused RegisterFull) else
            Ok (record {
              n = length (own.clips ++ k ∷ []) + 1;
              tape = t.n;
              title = title;
              umid = umid;
              src_first =
                  first;
              frames = frames;
              retired = false;
            })

pub clip_again : (own : Own) (tape : ℕ) (title text label : List ℕ) (frames : ℕ) (k : Clip)
    → clip_of_texts (own_seen own) tape title text label frames ≡ Ok k
    → clip_of_texts (own_seen (with_clip own k)) tape title text label frames ≡ Err (refused UmidKnown)
unfolding clip_of_texts
clip_again own tape title text label frames k made =
    by (reading_of_label own.plan.rate label) (reading_of_umid text) made
  where
    asked : Own → Result UmidParts UmidFault → ℕ → Result Clip Refusal
    asked rows b first = of_reading Umid (λ u. clip_for (own_seen rows) tape title u first frames) b

    by : (a : Result ℕ TcFault) (b : Result UmidParts UmidFault) → of_reading Label (asked own b) a ≡ Ok k
        → of_reading Label (asked (with_clip own k) b) a ≡ Err (refused UmidKnown)
    by (Err fault) b h = absurd (cc)
    by (Ok first) (Err fault) h = absurd (cc)
    by (Ok first) (Ok u) h = clip_for_again own tape title u first frames k h

pub retire_again : (own : Own) (n : ℕ) (k : Clip) → retired_clip (own_seen own) n ≡ Ok k
    → retired_clip (own_seen (with_retired k.n own)) n ≡ Err (refused ClipRetired)
unfolding retired_clip
retire_again own n k made = by (find (λ c. c.n == n) own.clips) refl made
  where
    by : (o : Option Clip) → find (λ c. c.n == n) own.clips ≡ o → of_clip as_retired o ≡ Ok k
        → of_clip as_retired (find (λ c. c.n == n) (with_retired k.n own).clips) ≡ Err (refused ClipRetired)
    by None found h = absurd (cc)
    by (Some c) found h =
        let on = passes c.retired _ _ k h in
        let same : record c { retired = true } ≡ k = ok_is _ _ on.1 in
        let named : k.n ≡ n =
        ap (λ (v : Clip). v.n) (sym same) ∙ has_its_number (λ (v : Clip). v.n) n own.clips c found in
        ap (λ m. of_clip as_retired
        (find (λ c. c.n == n) (alter (λ c. c.n == m) (λ c. record c { retired = true }) own.clips))) named
        ∙ ap (of_clip as_retired)
        (found_altered (λ (v : Clip). v.n) (λ c. record c { retired = true }) (λ c. refl) n own.clips c found)
