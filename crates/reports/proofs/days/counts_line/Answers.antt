-- `counts_line`: the line of a day.
use Rattle.std.proofs.Common.{◌≡◌, List, ◌++◌, ℕ}
use Rattle.std.specs.Prelude.{codes}
use Rattle.std.proofs.lemmas.List.{append_assoc}
use Rattle.report_texts.specs.Fields.{left_in, number_in}
use Rattle.report_texts.specs.Playlist.{day_state}
use Rattle.reports.proofs.days.counts_line.Goals as goal

-- five fields, with a blank between, and the line's end
in_one_line : (a b c d e : List ℕ)
    → (((((((((a ++ codes " ") ++ b) ++ codes " ") ++ c) ++ codes " ") ++ d) ++ codes " ") ++ e) ++ codes "\n")
    ≡ a ++ (codes " " ++ (b ++ (codes " " ++ (c ++ (codes " " ++ (d ++ (codes " " ++ (e ++ codes "\n"))))))))
in_one_line a b c d e = simp append_assoc

pub returns : goal.returns
returns c =
    let d = c.args.day in
    rw (
      c.push-5.ensures.items,
      c.push_count-3.ensures.items,
      c.push-4.ensures.items,
      c.push_count-2.ensures.items,
      c.push-3.ensures.items,
      c.push_count.ensures.items,
      c.push-2.ensures.items,
      c.push_left.ensures.items,
      c.state_text.ensures,
      c.push.ensures.items,
      c.push_number.ensures.items,
      c.new-line.ensures,
    )
    (in_one_line (number_in 5 d.number) (left_in 6 (day_state d.state)) (number_in 4 d.items) (number_in 7 d.frames)
    (number_in 2 d.batches))
