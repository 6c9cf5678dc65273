-- `offer_line`: the line of an offer.
use Rattle.std.proofs.Common.{◌≡◌, List, ◌++◌, ℕ}
use Rattle.std.specs.Prelude.{codes}
use Rattle.std.proofs.lemmas.List.{append_assoc}
use Rattle.vault_core.specs.Reel.{clip_reel}
use Rattle.timecode.specs.Decimal.{in_digits}
use Rattle.report_texts.specs.Offers.{offer_state, window_field}
use Rattle.reports.proofs.offers.offer_line.Goals as goal

-- four fields, with a blank between, the window, and the line's end
in_one_line : (a b c d w : List ℕ)
    → ((((((((a ++ codes " ") ++ b) ++ codes " ") ++ c) ++ codes " ") ++ d) ++ w) ++ codes "\n")
    ≡ a ++ (codes " " ++ (b ++ (codes " " ++ (c ++ (codes " " ++ (d ++ (w ++ codes "\n")))))))
in_one_line a b c d w = simp append_assoc

pub returns : goal.returns
returns c =
    let o = c.args.offer.now in
    rw (
      c.push-5.ensures.items,
      c.push_window.ensures.items,
      c.push-4.ensures.items,
      c.state_of.ensures,
      c.push-3.ensures.items,
      c.push_digits-2.ensures.items,
      c.from-2.ensures,
      c.push-2.ensures.items,
      c.push_clip_reel.ensures.items,
      c.push.ensures.items,
      c.push_digits.ensures.items,
      c.from.ensures,
      c.new-line.ensures,
    )
    (in_one_line (in_digits 4 o.n) (clip_reel o.clip) (in_digits 3 o.grantee) (offer_state o.withdrawn)
    (window_field o.window))
