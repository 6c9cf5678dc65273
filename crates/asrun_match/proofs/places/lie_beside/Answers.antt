-- `lie_beside`: whether no row covers a frame that one of the others covers.
use Rattle.std.proofs.Common.{◌≡◌, ℕ, Option, Some, None, false, is_some, get_or, refl, sym, ◌∙◌, ap, subst, ⊎_elim}
use Rattle.std.proofs.Common.{arith}
use Rattle.std.proofs.lemmas.Bool.{cases_lt, false≢true}
use Rattle.std.proofs.lemmas.List.{get_or_default}
use Rattle.playlist_core.specs.Picture.{first_painted, picture_of}
use Rattle.asrun_match.specs.declared.aired.AiredRow.{AiredRow}
use Rattle.asrun_match.specs.Aired.{aired}
use Rattle.asrun_match.proofs.TwiceLemmas.{fits, free-from_none, none-from_free}
use Rattle.asrun_match.proofs.places.lie_beside.Goals as goal

none_there : (o : Option ℕ) → is_some o ≡ false → o ≡ None
none_there None h = refl
none_there (Some p) h = absurd (false≢true (sym h))

pub first_taken-requires-clause-some : goal.first_taken-requires-clause-some
first_taken-requires-clause-some c =
    (fits c.requires.others.0 c.args.others.now c.loop-other.other-index c.other-item.result c.requires.others.1
    c.loop-other-test.true c.other-item.is).0

pub returns-then-is_some : goal.returns-then-is_some
returns-then-is_some c =
    let rows = c.args.rows.now in
    let others = c.args.others.now in
    let i = c.loop-other.other-index in
    let r = c.other-item.result in
    λ day apart apart_others. (
      λ no. absurd (false≢true no),
      λ none.
          let free : c.first_taken.result ≡ None =
          c.first_taken.ensures day apart (fits day others i r apart_others c.loop-other-test.true c.other-item.is).1
          ∙ ap (λ (x : AiredRow). first_painted x.pos x.frames (picture_of aired day rows)) c.other-item.is
          ∙ free-from_none day rows others i r apart apart_others none c.loop-other-test.true in
          absurd (false≢true (sym (c.is_some.ensures ∙ ap is_some free) ∙ c.if-is_some.true)),
    )

pub loop-other-preserved : goal.loop-other-preserved
loop-other-preserved c =
    λ day apart apart_others k d lt.
    let rows = c.args.rows.now in
    let others = c.args.others.now in
    let i = c.loop-other.other-index in
    let r = c.other-item.result in
    ⊎_elim
    (λ before. c.loop-other.invariant day apart apart_others k d before)
    (λ here.
    let same : i ≡ k = omega arith in
    let free : first_painted r.pos r.frames (picture_of aired day rows) ≡ None =
    sym (c.first_taken.ensures day apart (fits day others i r apart_others c.loop-other-test.true c.other-item.is).1)
    ∙ none_there c.first_taken.result (sym c.is_some.ensures ∙ c.if-is_some.false) in
    subst (λ j. first_painted (get_or others j d).pos (get_or others j d).frames (picture_of aired day rows) ≡ None)
    same
    (subst (λ (x : AiredRow). first_painted x.pos x.frames (picture_of aired day rows) ≡ None)
    (c.other-item.is ∙ get_or_default others i r d c.loop-other-test.true) free))
    (cases_lt k i)

pub returns : goal.returns
returns c =
    λ day apart apart_others. (
      λ yes. none-from_free day c.args.rows.now c.args.others.now apart apart_others
          (λ k d lt. c.loop-other.invariant day apart apart_others k d (omega (arith, lt))),
      λ none. refl,
    )
