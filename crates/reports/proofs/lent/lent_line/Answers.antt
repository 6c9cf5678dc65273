-- `lent_line`: the line of a lent clip.
use Rattle.std.proofs.Common.{◌≡◌, ℕ, List, ◌++◌}
use Rattle.std.specs.Prelude.{codes}
use Rattle.hex.specs.Hex.{encode_lower}
use Rattle.timecode.specs.Rate.{rate_text}
use Rattle.timecode.specs.Label.{frame_text}
use Rattle.umid.specs.BasicUmid.{basic_umid}
use Rattle.grant_core.specs.Grant.{lent_reel}
use Rattle.report_texts.specs.Fields.{left_in, number_in}
use Rattle.report_texts.specs.Offers.{offer_state, window_field}
use Rattle.std.proofs.lemmas.List.{append_assoc}
use Rattle.reports.proofs.lent.lent_line.Goals as goal

-- seven fields, with a blank between and a window behind the second, and the line's end
in_one_line : (a b w c d e f g : List ℕ)
    → (((((((((((((a ++ codes " ") ++ b) ++ w) ++ codes " ") ++ c) ++ codes " ") ++ d) ++ codes " ") ++ e) ++ codes " ")
    ++ f) ++ codes " ") ++ g) ++ codes "\n"
    ≡ a
    ++ (codes " "
    ++ (b
    ++ (w
    ++ (codes " "
    ++ (c ++ (codes " " ++ (d ++ (codes " " ++ (e ++ (codes " " ++ (f ++ (codes " " ++ (g ++ codes "\n")))))))))))))
in_one_line a b w c d e f g = simp append_assoc

-- each field stands behind those in front of it
pub returns-clause-ok : goal.returns-clause-ok
returns-clause-ok c =
    let g = c.args.grant.now in
    let o = g.offer in
    rw (
      c.push-8.ensures.items,
      c.push_title.ensures.items,
      c.push-7.ensures.items,
      c.push_umid.ensures.items,
      c.push-6.ensures.items,
      c.push_number.ensures.items,
      c.push-5.ensures.items,
      c.in_ok-push_label.ensures.ok,
      c.push-4.ensures.items,
      c.push-3.ensures.items,
      c.as_bytes.ensures.value,
      c.text.ensures,
      c.push-2.ensures.items,
      c.push_window.ensures.items,
      c.push_left.ensures.items,
      c.state_of.ensures,
      c.push.ensures.items,
      c.push_lent_reel.ensures.items,
      c.new-line.ensures,
    )
    (in_one_line (lent_reel g.owner o.n) (left_in 9 (offer_state o.withdrawn)) (window_field o.window)
    (rate_text o.rate) (frame_text o.rate o.src_first) (number_in 7 o.frames) (encode_lower (basic_umid o.umid))
    o.title)
