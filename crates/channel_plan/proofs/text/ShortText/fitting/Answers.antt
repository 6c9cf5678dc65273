-- `ShortText::fitting`: a text that fits.
use Rattle.std.proofs.Common.{◌≡◌, ◌≤◌, ◌-◌, ◌++◌, length, drop, subst, sym}
use Rattle.std.proofs.Math.ListN.{replicate}
use Rattle.channel_plan.proofs.TextLemmas.{padded}
use Rattle.channel_plan.proofs.text.ShortText.fitting.Goals as goal

pub invariant_of-result : goal.invariant_of-result
invariant_of-result g c =
    let text = c.args.text.now in
    subst (λ front. (length text ≤ g.row.N) × (length (front ++ drop (length text) (replicate g.row.N 0)) ≡ g.row.N)
    × (drop (length text) (front ++ drop (length text) (replicate g.row.N 0)) ≡ replicate (g.row.N - length text) 0))
    (sym c.copy_from_slice.ensures.after) (padded g.row.N text c.requires)
