-- `item_line`: the line of an item.
use Rattle.std.proofs.Common.{◌≡◌, ℕ, List, ◌++◌}
use Rattle.std.specs.Prelude.{codes}
use Rattle.timecode.specs.Label.{label_text, frame_text}
use Rattle.playlist_core.specs.Day.{label_at}
use Rattle.playlist_core.specs.Item.{kind_text}
use Rattle.playlist_core.specs.Source.{source_reel}
use Rattle.timecode.specs.Decimal.{in_digits}
use Rattle.report_texts.specs.Fields.{left_in, number_in}
use Rattle.std.proofs.lemmas.List.{append_assoc}
use Rattle.reports.proofs.playlist.item_line.Goals as goal

-- seven fields, with a blank between, and the line's end
in_one_line : (a b c d e f g : List ℕ)
    → ((((((((((((a ++ codes " ") ++ b) ++ codes " ") ++ c) ++ codes " ") ++ d) ++ codes " ") ++ e) ++ codes " ") ++ f)
    ++ codes " ") ++ g) ++ codes "\n"
    ≡ a
    ++ (codes " "
    ++ (b
    ++ (codes " "
    ++ (c ++ (codes " " ++ (d ++ (codes " " ++ (e ++ (codes " " ++ (f ++ (codes " " ++ (g ++ codes "\n"))))))))))))
in_one_line a b c d e f g = simp append_assoc

-- each field stands behind those in front of it
pub returns-clause-ok : goal.returns-clause-ok
returns-clause-ok c =
    let i = c.args.item.now in
    let plan = c.args.plan.now in
    rw (
      c.push-8.ensures.items,
      c.in_ok-push_label.ensures.ok,
      c.push-7.ensures.items,
      c.push_reel.ensures.items,
      c.push-6.ensures.items,
      c.push_digits.ensures.items,
      c.from-2.ensures,
      c.push-5.ensures.items,
      c.push_kind.ensures.items,
      c.push-4.ensures.items,
      c.push_number-2.ensures.items,
      c.push-3.ensures.items,
      c.push-2.ensures.items,
      c.bytes.ensures.text,
      c.label_at.ensures,
      c.push.ensures.items,
      c.push_number.ensures.items,
      c.from.ensures,
      c.new-line.ensures,
    )
    (in_one_line (number_in 4 i.n) (label_text (label_at plan i.pos)) (number_in 7 i.frames)
    (left_in 4 (kind_text i.kind)) (in_digits 3 i.mix) (left_in 8 (source_reel i.src))
    (frame_text plan.rate i.src_first))
