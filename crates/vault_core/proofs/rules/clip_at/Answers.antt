-- `clip_at`: the clip with this number, which is its place, counted from 1.
use Rattle.std.proofs.Common.{◌<◌, ◌≤◌, ◌-◌, ◌∙◌, ap, sym, refl, length, arith}
use Rattle.std.specs.Prelude.{option_copied}
use Rattle.std.proofs.lemmas.Bool.Decides.{nat_tests}
use Rattle.std.proofs.lemmas.Option.{slice_get_past, slice_get_read}
use Rattle.vault_core.proofs.NumberLemmas.{none_below, numbered_from_one}
use Rattle.vault_core.proofs.rules.clip_at.Goals as goal

pub returns-then-number-eq0 : goal.returns-then-number-eq0
returns-then-number-eq0 c =
    sym
    (none_below (λ k. k.n) c.args.clips.now 1 c.args.number c.requires (grind (arith, nat_tests, c.if-number-eq0.true)))

pub returns-in_err-clip : goal.returns-in_err-clip
returns-in_err-clip c =
    let clips = c.args.clips.now in
    let past : length clips ≤ c.args.number - 1 = grind (arith, nat_tests, c.in_err-clip.ensures.lookup) in
    ap option_copied c.from_residual.ensures ∙ sym (slice_get_past clips (c.args.number - 1) past)
    ∙ numbered_from_one (λ k. k.n) clips c.args.number c.requires (omega (arith, c.if-number-eq0.false))

pub returns : goal.returns
returns c =
    let clips = c.args.clips.now in
    let within : c.args.number - 1 < length clips = grind (arith, nat_tests, c.in_ok-clip.ensures.lookup) in
    sym (slice_get_read clips (length clips) (c.args.number - 1) c.in_ok-clip.clip.now refl within
    c.in_ok-clip.ensures.lookup.1)
    ∙ numbered_from_one (λ k. k.n) clips c.args.number c.requires (omega (arith, c.if-number-eq0.false))
