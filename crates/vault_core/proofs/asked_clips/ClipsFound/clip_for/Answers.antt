-- `ClipsFound::clip_for`: the clip that is added, with the next number, or the first refusal in this order.
use Rattle.std.proofs.Common.{ℕ, List, ◌∙◌, ap, sym}
use Rattle.std.specs.Prelude.{is_some}
use Rattle.vault_core.specs.Tape.{of_tape}
use Rattle.vault_core.specs.Clip.{is_title, clip_on}
use Rattle.vault_core.proofs.AskedLemmas.{read_fails, read_is}
use Rattle.vault_core.proofs.ClipLemmas.{no_title, clip_is}
use Rattle.vault_core.proofs.asked_clips.ClipsFound.clip_for.Goals as goal

pub returns-in_default : goal.returns-in_default
returns-in_default c = λ own tape plan_is consistent on_tapes on_clips.
    c.refuse.ensures
    ∙ no_title own tape c.args.title.now c.args.umid c.args.source_first c.args.frames
    (read_fails (is_title c.args.title.now) c.args.title.now c.read.result c.read.ensures c.in_default.is)

pub returns-in-Some-with_number : goal.returns-in-Some-with_number
returns-in-Some-with_number c = λ own tape plan_is consistent on_tapes on_clips.
    let title = c.args.title.now in
    let found = c.args.self.now in
    let known = read_is (is_title title) title c.in-Some.title c.read.result c.read.ensures c.in-Some.is in
    c.clip_on.ensures
    ∙ ap
    (λ (t : List ℕ). clip_on c.args.plan.now (is_some found.with_umid) found.count t c.args.umid c.args.source_first
    c.args.frames c.in-Some-with_number.tape) known.1
    ∙ ap
    (of_tape
    (clip_on c.args.plan.now (is_some found.with_umid) found.count title c.args.umid c.args.source_first c.args.frames))
    (sym c.in-Some-with_number.is)
    ∙ clip_is own c.args.plan.now tape title c.args.umid c.args.source_first c.args.frames c.args.tapes.now found
    known.0 plan_is consistent on_tapes on_clips

pub returns-in-None : goal.returns-in-None
returns-in-None c = λ own tape plan_is consistent on_tapes on_clips.
    let title = c.args.title.now in
    let found = c.args.self.now in
    let known = read_is (is_title title) title c.in-Some.title c.read.result c.read.ensures c.in-Some.is in
    c.refuse-in-None.ensures
    ∙ ap
    (of_tape
    (clip_on c.args.plan.now (is_some found.with_umid) found.count title c.args.umid c.args.source_first c.args.frames))
    (sym c.in-None.is)
    ∙ clip_is own c.args.plan.now tape title c.args.umid c.args.source_first c.args.frames c.args.tapes.now found
    known.0 plan_is consistent on_tapes on_clips
