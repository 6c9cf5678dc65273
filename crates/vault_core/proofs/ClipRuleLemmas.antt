-- A channel's own rows keep the rules with the clip that a command adds or retires.
use Rattle.std.proofs.Common.{◌≡◌, ℕ, ◌+◌, ◌<◌, ◌≤◌, List, [], ◌∷◌, length, Bool, true, false, not, cond, sym, ◌∙◌, ap}
use Rattle.std.proofs.Common.{subst, refl, arith}
use Rattle.std.specs.Prelude.{◌==◌, nat_lt, nat_le, find, Option, Some, None, Result, Ok, Err, bytes_eq, ◌||◌, ◌&&◌}
use Rattle.std.specs.Prelude.{if◌then◌else◌}
use Rattle.std.specs.List.{list_any}
use Rattle.std.proofs.lemmas.Bool.Decides.{nat_tests}
use Rattle.std.proofs.lemmas.List.{length-append, length-map}
use Rattle.std.proofs.lemmas.List.Folds.{list_all-append}
use Rattle.umid.specs.BasicUmid.{UmidParts, basic_umid, is_umid}
use Rattle.vault_core.specs.declared.tape.Tape.{Tape}
use Rattle.vault_core.specs.declared.clip.Clip.{Clip}
use Rattle.channel_plan.specs.declared.refusal.Refusal.{Refusal}
use Rattle.channel_plan.specs.declared.refusal.Code.TheVariants.{TitleForm}
use Rattle.channel_plan.specs.Refusal.{refused}
use Rattle.vault_core.specs.Own.{Own, own_seen, with_clip, with_retired}
use Rattle.vault_core.specs.Tape.{of_tape}
use Rattle.timecode.specs.LabelReading.{reading_of_text as reading_of_label}
use Rattle.timecode.specs.declared.faults.TcFault.{TcFault}
use Rattle.umid.specs.Fault.{reading_of_text as reading_of_umid}
use Rattle.umid.specs.declared.fault.UmidFault.{UmidFault}
use Rattle.umid.proofs.ReadingLemmas.{text-is_umid}
use Rattle.channel_plan.specs.declared.refusal.Code.TheVariants.{Label as OfLabel, Umid as OfUmid}
use Rattle.vault_core.specs.Clip.{is_title, is_clip_range, umid_bytes, has_umid, clip_on, clip_for, clip_of_texts}
use Rattle.vault_core.specs.Clip.{of_reading}
use Rattle.vault_core.specs.Rules.{is_clip, is_numbered_from, are_apart, umids_of, KeepsOwnRules}
use Rattle.vault_core.proofs.OfferRuleLemmas.{offers-push_clip, offers-retire}
use Rattle.vault_core.proofs.RuleLemmas.{numbered-push, apart-push, map-push, not_false, all-alter, map-alter}
use Rattle.vault_core.proofs.RuleLemmas.{numbered-alter}

-- a tape that is there has one of the numbers
number_found : (n m : ℕ) (ts : List Tape) (t : Tape) → is_numbered_from (λ t. t.n) m ts ≡ true
    → find (λ t. t.n == n) ts ≡ Some t → (m ≤ t.n) × (t.n < m + length ts)
number_found n m [] t h found = absurd (cc)
number_found n m (u ∷ ts) t h found =
    elim (u.n == n)
    as (λ b. (if b then Some u else find (λ t. t.n == n) ts) ≡ Some t → (m ≤ t.n) × (t.n < m + length (u ∷ ts))) [
      | true ↦ λ e. let same : u ≡ t = cc in
          subst (λ (v : Tape). (m ≤ v.n) × (v.n < m + length (u ∷ ts))) same
          (grind (arith, nat_tests, h), grind (arith, nat_tests, h))
      | false ↦ λ e. let rest = number_found n (m + 1) ts t (grind (arith, h)) e in
          (omega (arith, rest.0), omega (arith, rest.1))
    ] found

umid_any : (umid : UmidParts) (cs : List Clip)
    → list_any (has_umid umid) cs ≡ list_any (λ b. bytes_eq b (basic_umid umid)) (umids_of cs)
umid_any umid [] = refl
umid_any umid (c ∷ cs) = ap (λ b. has_umid umid c || b) (umid_any umid cs)

-- the tests that a clip passed
pub record Passed (own : Own) (title : List ℕ) (umid : UmidParts) (source_first frames : ℕ) (c : Clip) : Type 0 where
  pub tape : ℕ
  pub has_title : is_title title ≡ true
  pub first_tape : 1 ≤ tape
  pub last_tape : tape ≤ length own.tapes
  pub range : is_clip_range own.plan source_first frames ≡ true
  pub unknown : list_any (has_umid umid) own.clips ≡ false
  pub room : nat_le 20000 (length own.clips) ≡ false
  pub clip_is : record {
    n = length own.clips + 1;
    tape = tape;
    title = title;
    umid = umid;
    src_first = source_first;
    frames =
        frames;
    retired = false;
  } ≡ c

chain : (a b d e : Bool) (v w x y : Refusal) (s c : Clip)
    → cond a (Err v) (cond b (Err w) (cond d (Err x) (cond e (Err y) (Ok s)))) ≡ Ok c
    → (a ≡ false) × (b ≡ false) × (d ≡ false) × (e ≡ false) × (s ≡ c)
chain true b d e v w x y s c h = absurd (cc)
chain false true d e v w x y s c h = absurd (cc)
chain false false true e v w x y s c h = absurd (cc)
chain false false false true v w x y s c h = absurd (cc)
chain false false false false v w x y s c h = (refl, refl, refl, refl, cc)

no_tape : (a : Bool) (v w : Refusal) (c : Clip) → cond a (Err v) (Err w) ≡ Ok c → ⊥
no_tape true v w c h = cc
no_tape false v w c h = cc

passed : (own : Own) (n : ℕ) (title : List ℕ) (umid : UmidParts) (source_first frames : ℕ) (c : Clip)
    → is_numbered_from (λ t. t.n) 1 own.tapes ≡ true
    → clip_for (own_seen own) n title umid source_first frames ≡ Ok c → Passed own title umid source_first frames c
unfolding clip_for
passed own n title umid source_first frames c numbered made = by (find (λ t. t.n == n) own.tapes) refl made
  where
    by : (o : Option Tape) → find (λ t. t.n == n) own.tapes ≡ o
        → (if not (is_title title) then Err (refused TitleForm)
        else of_tape
        (clip_on own.plan (list_any (has_umid umid) own.clips) (length own.clips) title umid source_first frames) o)
        ≡ Ok c
        → Passed own title umid source_first frames c
    by None found h = absurd (no_tape _ _ _ c h)
    by (Some t) found h =
        let place = number_found n 1 own.tapes t numbered found in
        let tests : (not (is_title title) ≡ false) × (not (is_clip_range own.plan source_first frames) ≡ false)
        × (list_any (has_umid umid) own.clips ≡ false) × (nat_le 20000 (length own.clips) ≡ false)
        × (record {
          n = length own.clips + 1;
          tape = t.n;
          title = title;
          umid = umid;
          src_first = source_first;
          frames =
              frames;
          retired = false;
        } ≡ c) = chain _ _ _ _ _ _ _ _ _ c h in
        record {
          tape = t.n;
          has_title = not_false (is_title title) tests.0;
          first_tape = place.0;
          last_tape = omega (arith, place.1);
          range = not_false (is_clip_range own.plan source_first frames) tests.1;
          unknown = tests.2;
          room = tests.3;
          clip_is = tests.4;
        }

-- a channel's rules hold with the clip that it adds
pub own-clip : (own : Own) (n : ℕ) (title : List ℕ) (umid : UmidParts) (source_first frames : ℕ) (c : Clip)
    → is_umid umid ≡ true
    → clip_for (own_seen own) n title umid source_first frames ≡ Ok c → KeepsOwnRules own
    → KeepsOwnRules (with_clip own c)
unfolding umid_bytes
own-clip own n title umid source_first frames c has_parts made rules =
    let p = passed own n title umid source_first frames c rules.numbers made in
    let clip : Clip =
    record {
      n = length own.clips + 1;
      tape = p.tape;
      title = title;
      umid = umid;
      src_first = source_first;
      frames =
          frames;
      retired = false;
    } in
    let has_title : is_title title ≡ true = p.has_title in
    let range : is_clip_range own.plan source_first frames ≡ true = p.range in
    let low : 1 ≤ p.tape = p.first_tape in
    let high : p.tape ≤ length own.tapes = p.last_tape in
    let place : (nat_lt 0 p.tape && nat_le p.tape (length own.tapes)) ≡ true = grind (arith, nat_tests, low, high) in
    let one : is_clip own.plan (length own.tapes) clip ≡ true = grind (arith, has_title, has_parts, place, range) in
    let room : nat_le 20000 (length own.clips) ≡ false = p.room in
    subst (λ d. KeepsOwnRules (with_clip own d)) p.clip_is (record {
      plan = rules.plan;
      fields = rules.fields;
      at_most = rules.at_most;
      numbers = rules.numbers;
      barcodes = rules.barcodes;
      slots = rules.slots;
      clips = record {
        fields =
            list_all-append (is_clip own.plan (length own.tapes)) own.clips (clip ∷ [])
            ∙ grind (arith, one, rules.clips.fields);
        at_most = rw (length-append own.clips (clip ∷ [])) (grind (arith, nat_tests, room));
        numbers = numbered-push (λ c. c.n) own.clips 1 clip rules.clips.numbers (omega arith);
        umids =
            rw (map-push umid_bytes own.clips clip)
            (apart-push bytes_eq (umids_of own.clips) (basic_umid umid) rules.clips.umids
            (sym (umid_any umid own.clips) ∙ p.unknown));
      };
      offers = offers-push_clip own.plan own.clips clip own.offers rules.offers;
    })

-- and with a clip retired
pub own-retire : (own : Own) (n : ℕ) → KeepsOwnRules own → KeepsOwnRules (with_retired n own)
unfolding umid_bytes
own-retire own n rules =
    let test : Clip → Bool = λ c. c.n == n in
    let change : Clip → Clip = λ c. record c { retired = true } in
    record {
      plan = rules.plan;
      fields = rules.fields;
      at_most = rules.at_most;
      numbers = rules.numbers;
      barcodes = rules.barcodes;
      slots = rules.slots;
      clips = record {
        fields = all-alter test change (is_clip own.plan (length own.tapes)) (λ c h. h) own.clips rules.clips.fields;
        at_most =
            rw (length-map own.clips (λ c. if c.n == n then record c { retired = true } else c)) rules.clips.at_most;
        numbers = numbered-alter test change (λ c. c.n) (λ c. refl) own.clips 1 rules.clips.numbers;
        umids =
            subst (λ ks. are_apart bytes_eq ks ≡ true) (sym (map-alter test change umid_bytes (λ c. refl) own.clips))
            rules.clips.umids;
      };
      offers = offers-retire own.plan own.clips n own.offers rules.offers;
    }

-- the same, where the clip is given by texts
pub own-texts : (own : Own) (tape : ℕ) (title umid source_in : List ℕ) (frames : ℕ) (c : Clip)
    → clip_of_texts (own_seen own) tape title umid source_in frames ≡ Ok c → KeepsOwnRules own
    → KeepsOwnRules (with_clip own c)
unfolding clip_of_texts
own-texts own tape title umid source_in frames c made rules = at (reading_of_label own.plan.rate source_in) made
  where
    on : (source_first : ℕ) (r : Result UmidParts UmidFault) → reading_of_umid umid ≡ r
        → of_reading OfUmid (λ u. clip_for (own_seen own) tape title u source_first frames) r ≡ Ok c
        → KeepsOwnRules (with_clip own c)
    on source_first (Ok u) read h = own-clip own tape title u source_first frames c (text-is_umid umid u read) h rules
    on source_first (Err fault) read h = absurd (cc)

    at : (r : Result ℕ TcFault)
        → of_reading OfLabel
        (λ source_first. of_reading OfUmid (λ u. clip_for (own_seen own) tape title u source_first frames)
        (reading_of_umid umid)) r ≡ Ok c → KeepsOwnRules (with_clip own c)
    at (Ok source_first) h = on source_first (reading_of_umid umid) refl h
    at (Err fault) h = absurd (cc)
