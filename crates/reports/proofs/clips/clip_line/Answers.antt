-- `clip_line`: the line of a clip.
use Rattle.std.proofs.Common.{◌≡◌, ℕ, List, ◌++◌}
use Rattle.std.specs.Prelude.{codes}
use Rattle.hex.specs.Hex.{encode_lower}
use Rattle.timecode.specs.Label.{frame_text}
use Rattle.umid.specs.BasicUmid.{basic_umid}
use Rattle.vault_core.specs.Reel.{clip_reel}
use Rattle.report_texts.specs.Fields.{number_in}
use Rattle.report_texts.specs.Clips.{state_field}
use Rattle.std.proofs.lemmas.List.{append_assoc}
use Rattle.reports.proofs.clips.clip_line.Goals as goal

-- seven fields, with a blank between, and the line's end
in_one_line : (a b c d e f g : List ℕ)
    → ((((((((((((a ++ codes " ") ++ b) ++ codes " ") ++ c) ++ codes " ") ++ d) ++ codes " ") ++ e) ++ codes " ") ++ f)
    ++ codes " ") ++ g) ++ codes "\n"
    ≡ a
    ++ (codes " "
    ++ (b
    ++ (codes " "
    ++ (c ++ (codes " " ++ (d ++ (codes " " ++ (e ++ (codes " " ++ (f ++ (codes " " ++ (g ++ codes "\n"))))))))))))
in_one_line a b c d e f g = simp append_assoc

-- each field stands behind those in front of it
pub returns-clause-ok : goal.returns-clause-ok
returns-clause-ok c =
    let clip = c.args.clip.now in
    rw (
      c.push-7.ensures.items,
      c.push_title.ensures.items,
      c.push-6.ensures.items,
      c.push_umid.ensures.items,
      c.push-5.ensures.items,
      c.push_number-2.ensures.items,
      c.from.ensures,
      c.push-4.ensures.items,
      c.push_number.ensures.items,
      c.push-3.ensures.items,
      c.in_ok-push_label.ensures.ok,
      c.push-2.ensures.items,
      c.push_state.ensures.items,
      c.push.ensures.items,
      c.push_clip_reel.ensures.items,
      c.new-line.ensures,
    )
    (in_one_line (clip_reel clip.n) (state_field clip.retired) (frame_text c.args.rate clip.src_first)
    (number_in 7 clip.frames) (number_in 4 clip.tape) (encode_lower (basic_umid clip.umid)) clip.title)
