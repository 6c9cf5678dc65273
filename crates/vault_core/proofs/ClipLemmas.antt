-- A clip that is added or retired, by the rows and counts that answer what it asks.
use Rattle.std.proofs.Common.{◌≡◌, ℕ, List, true, false, refl, sym, ◌∙◌, ap, subst}
use Rattle.std.specs.Prelude.{is_some, Some, Result, Ok, Err}
use Rattle.timecode.specs.declared.faults.TcFault.{TcFault}
use Rattle.timecode.specs.LabelReading.{reading_of_text as reading_of_label}
use Rattle.umid.specs.BasicUmid.{UmidParts}
use Rattle.umid.specs.Fault.{reading_of_text as reading_of_umid}
use Rattle.umid.specs.declared.fault.UmidFault.{UmidFault}
use Rattle.channel_plan.specs.declared.plan.PlanRow.{PlanRow}
use Rattle.vault_core.specs.declared.clip.Clip.{Clip}
use Rattle.vault_core.specs.declared.asked_tapes.TapesFound.{TapesFound}
use Rattle.vault_core.specs.declared.asked_clips.ClipsFound.{ClipsFound}
use Rattle.channel_plan.specs.declared.refusal.Refusal.{Refusal}
use Rattle.channel_plan.specs.declared.refusal.Code.TheVariants.{Label, Umid, TitleForm}
use Rattle.channel_plan.specs.Refusal.{refused}
use Rattle.vault_core.specs.Questions.{IsConsistent}
use Rattle.vault_core.specs.Own.{OwnSeen}
use Rattle.vault_core.specs.Tape.{of_tape}
use Rattle.vault_core.specs.Clip.{is_title, has_umid, clip_on, clip_for, of_reading, clip_of_texts, of_clip, as_retired}
use Rattle.vault_core.specs.Clip.{retired_clip}
use Rattle.vault_core.specs.Asked.{asked_for_clip, clips_asked_for_clip, read_umid, clips_asked_for_texts}
use Rattle.vault_core.specs.Asked.{clips_asked_for_retire, AreTapeAnswers, AreClipAnswers}

-- of a text that is no title
pub no_title : (own : OwnSeen) (tape : ℕ) (title : List ℕ) (umid : UmidParts) (source_first frames : ℕ)
    → is_title title ≡ false → Err (refused TitleForm) ≡ clip_for own tape title umid source_first frames
unfolding clip_for
no_title own tape title umid source_first frames fails = rw fails refl

-- of a title, the tape and the rows that were found decide
pub clip_is : (own : OwnSeen) (plan : PlanRow) (tape : ℕ) (title : List ℕ) (umid : UmidParts) (source_first frames : ℕ)
    (tapes : TapesFound) (clips : ClipsFound)
    → is_title title ≡ true → own.plan ≡ plan → IsConsistent own.clips
    → AreTapeAnswers (asked_for_clip tape) own.tapes tapes
    → AreClipAnswers (clips_asked_for_clip (Some umid)) own.clips clips
    → of_tape (clip_on plan (is_some clips.with_umid) clips.count title umid source_first frames) tapes.with_number
    ≡ clip_for own tape title umid source_first frames
unfolding clip_for
clip_is own plan tape title umid source_first frames tapes clips is plan_is consistent on_tapes on_clips =
    let known : is_some clips.with_umid ≡ own.clips.some (has_umid umid) =
    ap is_some on_clips.with_umid ∙ sym (consistent.some (has_umid umid)) in
    let count : clips.count ≡ own.clips.count = on_clips.count in
    rw is
    (λ i. of_tape (clip_on (sym plan_is i) (known i) (count i) title umid source_first frames)
    (on_tapes.with_number i))

-- a clip that is retired
pub retired_is : (own : OwnSeen) (n : ℕ) (found : ClipsFound)
    → AreClipAnswers (clips_asked_for_retire n) own.clips found
    → of_clip as_retired found.with_number ≡ retired_clip own n
unfolding retired_clip
retired_is own n found answers = ap (of_clip as_retired) answers.with_number

-- a clip that is given by texts
pub bad_label : (own : OwnSeen) (plan : PlanRow) (tape : ℕ) (title umid source_in : List ℕ) (frames : ℕ)
    (fault : TcFault) → own.plan ≡ plan → reading_of_label plan.rate source_in ≡ Err fault
    → Err (refused (Label fault)) ≡ clip_of_texts own tape title umid source_in frames
unfolding clip_of_texts
bad_label own plan tape title umid source_in frames fault plan_is read =
    let here : reading_of_label own.plan.rate source_in ≡ Err fault =
    ap (λ p. reading_of_label p.rate source_in) plan_is ∙ read in
    rw here refl

module _ (own : OwnSeen) (plan : PlanRow) (tape : ℕ) (title umid source_in : List ℕ) (frames source_first : ℕ) where
  by_umid : own.plan ≡ plan → reading_of_label plan.rate source_in ≡ Ok source_first
      → of_reading Umid (λ u. clip_for own tape title u source_first frames) (reading_of_umid umid)
      ≡ clip_of_texts own tape title umid source_in frames
  unfolding clip_of_texts
  by_umid plan_is read =
      let here : reading_of_label own.plan.rate source_in ≡ Ok source_first =
      ap (λ p. reading_of_label p.rate source_in) plan_is ∙ read in
      rw here refl

pub bad_umid : (own : OwnSeen) (plan : PlanRow) (tape : ℕ) (title umid source_in : List ℕ) (frames source_first : ℕ)
    (fault : UmidFault) → own.plan ≡ plan → reading_of_label plan.rate source_in ≡ Ok source_first
    → reading_of_umid umid ≡ Err fault → Err (refused (Umid fault)) ≡ clip_of_texts own tape title umid source_in frames
bad_umid own plan tape title umid source_in frames source_first fault plan_is label read =
    ap (of_reading Umid (λ u. clip_for own tape title u source_first frames)) (sym read)
    ∙ by_umid own plan tape title umid source_in frames source_first plan_is label

pub texts_are : (own : OwnSeen) (plan : PlanRow) (tape : ℕ) (title umid source_in : List ℕ) (frames source_first : ℕ)
    (u : UmidParts) (clips : ClipsFound) (r : Result Clip Refusal)
    → own.plan ≡ plan → reading_of_label plan.rate source_in ≡ Ok source_first → reading_of_umid umid ≡ Ok u
    → AreClipAnswers (clips_asked_for_texts umid) own.clips clips
    → (AreClipAnswers (clips_asked_for_clip (Some u)) own.clips clips
    → r ≡ clip_for own tape title u source_first frames) → r ≡ clip_of_texts own tape title umid source_in frames
texts_are own plan tape title umid source_in frames source_first u clips r plan_is label read on_clips done =
    done (subst (λ x. AreClipAnswers (clips_asked_for_clip (read_umid x)) own.clips clips) read on_clips)
    ∙ ap (of_reading Umid (λ u. clip_for own tape title u source_first frames)) (sym read)
    ∙ by_umid own plan tape title umid source_in frames source_first plan_is label
