-- `ClipsFound::clip_of_texts`: the clip that a request adds, with the next number.
use Rattle.std.proofs.Common.{◌∙◌, sym}
use Rattle.vault_core.proofs.ClipLemmas.{bad_label, bad_umid, texts_are}
use Rattle.vault_core.proofs.asked_clips.ClipsFound.clip_of_texts.Goals as goal

pub returns-in-Err : goal.returns-in-Err
returns-in-Err c = λ own tape plan_is consistent on_tapes on_clips.
    c.refuse.ensures
    ∙ bad_label own c.args.plan.now tape c.args.title.now c.args.umid.now c.args.source_in.now c.args.frames
    c.in-Err.fault plan_is (sym c.from_timecode.ensures.reading ∙ c.in-Err.is)

pub returns-in-Err-from_hex : goal.returns-in-Err-from_hex
returns-in-Err-from_hex c = λ own tape plan_is consistent on_tapes on_clips.
    c.refuse-in-Err-from_hex.ensures
    ∙ bad_umid own c.args.plan.now tape c.args.title.now c.args.umid.now c.args.source_in.now c.args.frames
    c.in-Ok.frame c.in-Err-from_hex.fault plan_is
    (sym c.from_timecode.ensures.reading ∙ c.in-Ok.is) (sym c.from_hex.ensures.value ∙ c.in-Err-from_hex.is)

pub returns : goal.returns
returns c = λ own tape plan_is consistent on_tapes on_clips.
    let read = sym c.from_hex.ensures.value ∙ c.in-Ok-from_hex.is in
    texts_are own c.args.plan.now tape c.args.title.now c.args.umid.now c.args.source_in.now c.args.frames c.in-Ok.frame
    c.in-Ok-from_hex.umid c.args.self.now c.clip_for.result plan_is
    (sym c.from_timecode.ensures.reading ∙ c.in-Ok.is) read on_clips
    (λ asked. c.clip_for.ensures own tape plan_is consistent on_tapes asked)
