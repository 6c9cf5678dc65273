-- `ClipsFound::retired`: the clip that a request retires, as it stands then, or the first refusal in this order.
use Rattle.std.proofs.Common.{◌∙◌, ap, sym}
use Rattle.vault_core.specs.Clip.{of_clip, as_retired}
use Rattle.vault_core.proofs.ClipLemmas.{retired_is}
use Rattle.vault_core.proofs.asked_clips.ClipsFound.retired.Goals as goal

pub returns-in-Some : goal.returns-in-Some
returns-in-Some c =
    λ own n answers. c.retired.ensures ∙ ap (of_clip as_retired) (sym c.in-Some.is)
    ∙ retired_is own n c.args.self.now answers

pub returns-in-None : goal.returns-in-None
returns-in-None c =
    λ own n answers. c.refuse.ensures ∙ ap (of_clip as_retired) (sym c.in-None.is)
    ∙ retired_is own n c.args.self.now answers
