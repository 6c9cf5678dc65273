-- A command on tapes or clips: the row that it puts may be put, the rows keep the rules, and sent again it is refused,
-- as done already.
use Rattle.std.proofs.Common.{◌≡◌, ℕ, ◌+◌, List, [], ◌∷◌, ◌++◌, length, true, false, cond, refl, sym, ◌∙◌, ap, subst}
use Rattle.std.proofs.Common.{arith}
use Rattle.std.specs.Prelude.{◌==◌, nat_le, find, bytes_eq, Option, Some, None, Result, Ok, Err, not, is_some}
use Rattle.std.specs.Prelude.{if◌then◌else◌}
use Rattle.std.specs.List.{list_any}
use Rattle.timecode.specs.declared.faults.TcFault.{TcFault}
use Rattle.timecode.specs.LabelReading.{reading_of_text as reading_of_label}
use Rattle.umid.specs.BasicUmid.{UmidParts}
use Rattle.umid.specs.declared.fault.UmidFault.{UmidFault}
use Rattle.umid.specs.Fault.{reading_of_text as reading_of_umid}
use Rattle.channel_plan.specs.declared.refusal.Code.TheVariants.{Label, Umid, TapeOut}
use Rattle.channel_plan.specs.declared.refusal.Refusal.{Refusal}
use Rattle.channel_plan.specs.Refusal.{refused}
use Rattle.vault_core.specs.declared.tape.Tape.{Tape}
use Rattle.vault_core.specs.declared.clip.Clip.{Clip}
use Rattle.vault_core.specs.declared.command.Put.TheVariants.{Added, Changed}
use Rattle.vault_core.specs.declared.command.TapeCommand.{TapeCommand}
use Rattle.vault_core.specs.declared.command.TapeCommand.TheVariants as tapes
use Rattle.vault_core.specs.declared.command.ClipCommand.{ClipCommand}
use Rattle.vault_core.specs.declared.command.ClipCommand.TheVariants as clips
use Rattle.vault_core.specs.Own.{Own, own_seen, with_tape, with_slot, with_clip, with_retired}
use Rattle.vault_core.specs.Rules.{KeepsOwnRules}
use Rattle.vault_core.specs.Barcode.{is_barcode}
use Rattle.vault_core.specs.Title.{is_title}
use Rattle.vault_core.specs.Tape.{stands_in, is_bad_slot, tape_for, of_tape, as_pulled, pulled, shelved_in, shelved}
use Rattle.vault_core.specs.Clip.{is_clip_range, has_umid, clip_on, clip_for, of_reading, clip_of_texts, of_clip}
use Rattle.vault_core.specs.Clip.{as_retired, retired_clip}
use Rattle.vault_core.specs.Command.{tape_decided, tape_is_put, tape_done, tape_put, TapeMayBePut, clip_decided}
use Rattle.vault_core.specs.Command.{clip_is_put, clip_done, clip_put, ClipMayBePut}
use Rattle.vault_core.proofs.RuleLemmas.{own-push, own-pull, own-shelve}
use Rattle.vault_core.proofs.ClipRuleLemmas.{own-texts, own-retire}
use Rattle.vault_core.proofs.PutLemmas.{put_last, put_changed}
use Rattle.vault_core.proofs.AgainLemmas.{passes, ok_is, has_its_number, tape_again, pull_again, shelve_again}
use Rattle.vault_core.proofs.AgainLemmas.{clip_again, retire_again}

-- ---- tapes

tape_added : (own : Own) (t : Tape) → KeepsOwnRules own → t.n ≡ length own.tapes + 1 → tape_put t own ≡ with_tape own t
tape_added own t rules last =
    λ i. record own { tapes = put_last (λ (u : Tape). u.n) own.tapes 1 t rules.numbers last i }

-- a tape that was found, moved
pub record IsMoved (own : Own) (n : ℕ) (t : Tape) : Type 0 where
  pub before : Tape
  pub found : find (λ u. u.n == n) own.tapes ≡ Some before
  pub is : record before { slot = t.slot } ≡ t

module _ (own : Own) (n : ℕ) (t : Tape) (moved : IsMoved own n t) where
  its_number : t.n ≡ n
  its_number =
      ap (λ (u : Tape). u.n) (sym moved.is) ∙ has_its_number (λ (u : Tape). u.n) n own.tapes moved.before moved.found

  moved_there : TapeMayBePut Changed t own
  moved_there =
      (moved.before, subst (λ m. find (λ u. u.n == m) own.tapes ≡ Some moved.before) (sym its_number) moved.found, tt)

  tape_moved : KeepsOwnRules own → tape_put t own ≡ with_slot t.n t.slot own
  unfolding moved_there
  tape_moved rules =
      λ i. record own {
        tapes =
            put_changed (λ (u : Tape). u.n) (λ u. record u { slot = t.slot }) own.tapes 1 moved.before t rules.numbers
            moved_there.1 moved.is i;
      }

next_tape : (own : Own) (barcode : List ℕ) (slot : ℕ) (t : Tape) → tape_for (own_seen own) barcode slot ≡ Ok t
    → t.n ≡ length own.tapes + 1
unfolding tape_for
next_tape own barcode slot t made =
    let form = passes (not (is_barcode barcode)) _ _ t made in
    let place = passes (is_bad_slot own.plan slot) _ _ t form.1 in
    let known = passes (list_any (λ u. bytes_eq u.barcode barcode) own.tapes) _ _ t place.1 in
    let free = passes (list_any (λ u. stands_in slot u.slot) own.tapes) _ _ t known.1 in
    let room = passes (nat_le 9999 (length own.tapes)) _ _ t free.1 in
    ap (λ (u : Tape). u.n) (sym (ok_is _ _ room.1))

is_pulled : (own : Own) (n : ℕ) (t : Tape) → pulled (own_seen own) n ≡ Ok t → IsMoved own n t
unfolding pulled
is_pulled own n t made = by (find (λ u. u.n == n) own.tapes) refl made
  where
    under : (u : Tape) (o : Option ℕ) → find (λ u. u.n == n) own.tapes ≡ Some u → u.slot ≡ o
        → (if is_some o then Ok (record u { slot = None }) else Err (refused TapeOut)) ≡ Ok t → IsMoved own n t
    under u None found is h = absurd (cc)
    under u (Some s) found is h =
        let same : record u { slot = None } ≡ t = cc in
        record {
          before = u;
          found = found;
          is =
              ap (λ o. record u { slot = o }) (sym (ap (λ (v : Tape). v.slot) same)) ∙ same;
        }

    by : (o : Option Tape) → find (λ u. u.n == n) own.tapes ≡ o → of_tape as_pulled o ≡ Ok t → IsMoved own n t
    by None found h = absurd (cc)
    by (Some u) found h = under u u.slot found refl h

is_shelved : (own : Own) (n slot : ℕ) (t : Tape) → shelved (own_seen own) n slot ≡ Ok t → IsMoved own n t
unfolding shelved
is_shelved own n slot t made = by (find (λ u. u.n == n) own.tapes) refl made
  where
    by : (o : Option Tape) → find (λ u. u.n == n) own.tapes ≡ o
        → of_tape (shelved_in own.plan slot (list_any (λ u. stands_in slot u.slot) own.tapes)) o ≡ Ok t
        → IsMoved own n t
    by None found h = absurd (cc)
    by (Some u) found h =
        let place = passes (is_bad_slot own.plan slot) _ _ t h in
        let out = passes (is_some u.slot) _ _ t place.1 in
        let free = passes (list_any (λ u. stands_in slot u.slot) own.tapes) _ _ t out.1 in
        let same : record u { slot = Some slot } ≡ t = ok_is _ _ free.1 in
        record {
          before = u;
          found = found;
          is =
              ap (λ o. record u { slot = o }) (sym (ap (λ (v : Tape). v.slot) same)) ∙ same;
        }

pub tape_may_be_put : (own : Own) (q : TapeCommand) (t : Tape) → tape_decided (own_seen own) q ≡ Ok t
    → TapeMayBePut (tape_is_put q) t own
tape_may_be_put own (tapes.Add barcode slot) t made = next_tape own barcode slot t made
tape_may_be_put own (tapes.Pull n) t made = moved_there own n t (is_pulled own n t made)
tape_may_be_put own (tapes.Shelve n slot) t made = moved_there own n t (is_shelved own n slot t made)

pub tape_kept : (own : Own) (q : TapeCommand) (t : Tape) → tape_decided (own_seen own) q ≡ Ok t → KeepsOwnRules own
    → KeepsOwnRules (tape_put t own)
tape_kept own (tapes.Add barcode slot) t made rules =
    subst KeepsOwnRules (sym (tape_added own t rules (next_tape own barcode slot t made)))
    (own-push own barcode slot t made rules)
tape_kept own (tapes.Pull n) t made rules =
    subst KeepsOwnRules (sym (tape_moved own n t (is_pulled own n t made) rules)) (own-pull own n t made rules)
tape_kept own (tapes.Shelve n slot) t made rules =
    subst KeepsOwnRules (sym (tape_moved own n t (is_shelved own n slot t made) rules))
    (own-shelve own n slot t made rules)

pub tape_once : (own : Own) (q : TapeCommand) (t : Tape) → KeepsOwnRules own → tape_decided (own_seen own) q ≡ Ok t
    → tape_decided (own_seen (tape_put t own)) q ≡ Err (refused (tape_done q))
tape_once own (tapes.Add barcode slot) t rules made =
    ap (λ (o : Own). tape_for (own_seen o) barcode slot) (tape_added own t rules (next_tape own barcode slot t made))
    ∙ tape_again own barcode slot t made
tape_once own (tapes.Pull n) t rules made =
    ap (λ (o : Own). pulled (own_seen o) n) (tape_moved own n t (is_pulled own n t made) rules)
    ∙ pull_again own n t made
tape_once own (tapes.Shelve n slot) t rules made =
    ap (λ (o : Own). shelved (own_seen o) n slot) (tape_moved own n t (is_shelved own n slot t made) rules)
    ∙ shelve_again own n slot t made

-- ---- clips

clip_added : (own : Own) (k : Clip) → KeepsOwnRules own → k.n ≡ length own.clips + 1 → clip_put k own ≡ with_clip own k
clip_added own k rules last =
    λ i. record own { clips = put_last (λ (c : Clip). c.n) own.clips 1 k rules.clips.numbers last i }

next_clip : (own : Own) (tape : ℕ) (title : List ℕ) (umid : UmidParts) (first frames : ℕ) (k : Clip)
    → clip_for (own_seen own) tape title umid first frames ≡ Ok k → k.n ≡ length own.clips + 1
unfolding clip_for
next_clip own tape title umid first frames k made =
    let form = passes (not (is_title title)) _ _ k made in
    by (find (λ t. t.n == tape) own.tapes) form.1
  where
    by : (o : Option Tape)
        → of_tape (clip_on own.plan (list_any (has_umid umid) own.clips) (length own.clips) title umid first frames) o
        ≡ Ok k → k.n ≡ length own.clips + 1
    by None h = absurd (cc)
    by (Some t) h =
        let range = passes (not (is_clip_range own.plan first frames)) _ _ k h in
        let known = passes (list_any (has_umid umid) own.clips) _ _ k range.1 in
        let room = passes (nat_le 20000 (length own.clips)) _ _ k known.1 in
        ap (λ (c : Clip). c.n) (sym (ok_is _ _ room.1))

next_of_texts : (own : Own) (tape : ℕ) (title text label : List ℕ) (frames : ℕ) (k : Clip)
    → clip_of_texts (own_seen own) tape title text label frames ≡ Ok k → k.n ≡ length own.clips + 1
unfolding clip_of_texts
next_of_texts own tape title text label frames k made =
    by (reading_of_label own.plan.rate label) (reading_of_umid text) made
  where
    asked : Result UmidParts UmidFault → ℕ → Result Clip Refusal
    asked b first = of_reading Umid (λ u. clip_for (own_seen own) tape title u first frames) b

    by : (a : Result ℕ TcFault) (b : Result UmidParts UmidFault) → of_reading Label (asked b) a ≡ Ok k
        → k.n ≡ length own.clips + 1
    by (Err fault) b h = absurd (cc)
    by (Ok first) (Err fault) h = absurd (cc)
    by (Ok first) (Ok u) h = next_clip own tape title u first frames k h

-- a clip that was found, retired
is_retired : (own : Own) (n : ℕ) (k : Clip) → retired_clip (own_seen own) n ≡ Ok k → ClipMayBePut Changed k own
unfolding retired_clip
is_retired own n k made = by (find (λ c. c.n == n) own.clips) refl made
  where
    by : (o : Option Clip) → find (λ c. c.n == n) own.clips ≡ o → of_clip as_retired o ≡ Ok k
        → ClipMayBePut Changed k own
    by None found h = absurd (cc)
    by (Some c) found h =
        let on = passes c.retired _ _ k h in
        let same : record c { retired = true } ≡ k = ok_is _ _ on.1 in
        let named : k.n ≡ n =
        ap (λ (v : Clip). v.n) (sym same) ∙ has_its_number (λ (v : Clip). v.n) n own.clips c found in
        (c, subst (λ m. find (λ (v : Clip). v.n == m) own.clips ≡ Some c) (sym named) found, same)

clip_retired : (own : Own) (k : Clip) → ClipMayBePut Changed k own → KeepsOwnRules own
    → clip_put k own ≡ with_retired k.n own
clip_retired own k may rules =
    λ i. record own {
      clips =
          put_changed (λ (c : Clip). c.n) (λ c. record c { retired = true }) own.clips 1 may.0 k rules.clips.numbers
          may.1
          may.2 i;
    }

pub clip_may_be_put : (own : Own) (q : ClipCommand) (k : Clip) → clip_decided (own_seen own) q ≡ Ok k
    → ClipMayBePut (clip_is_put q) k own
clip_may_be_put own (clips.Add tape title umid source_in frames) k made =
    next_of_texts own tape title umid source_in frames k made
clip_may_be_put own (clips.Retire n) k made = is_retired own n k made

pub clip_kept : (own : Own) (q : ClipCommand) (k : Clip) → clip_decided (own_seen own) q ≡ Ok k → KeepsOwnRules own
    → KeepsOwnRules (clip_put k own)
clip_kept own (clips.Add tape title umid source_in frames) k made rules =
    subst KeepsOwnRules (sym (clip_added own k rules (next_of_texts own tape title umid source_in frames k made)))
    (own-texts own tape title umid source_in frames k made rules)
clip_kept own (clips.Retire n) k made rules =
    subst KeepsOwnRules (sym (clip_retired own k (is_retired own n k made) rules)) (own-retire own k.n rules)

pub clip_once : (own : Own) (q : ClipCommand) (k : Clip) → KeepsOwnRules own → clip_decided (own_seen own) q ≡ Ok k
    → clip_decided (own_seen (clip_put k own)) q ≡ Err (refused (clip_done q))
clip_once own (clips.Add tape title umid source_in frames) k rules made =
    ap (λ (o : Own). clip_of_texts (own_seen o) tape title umid source_in frames)
    (clip_added own k rules (next_of_texts own tape title umid source_in frames k made))
    ∙ clip_again own tape title umid source_in frames k made
clip_once own (clips.Retire n) k rules made =
    ap (λ (o : Own). retired_clip (own_seen o) n) (clip_retired own k (is_retired own n k made) rules)
    ∙ retire_again own n k made
