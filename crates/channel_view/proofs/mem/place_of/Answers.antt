-- `place_of`: the place of the channel's row with this number, where its rows are numbered from 1.
use Rattle.std.proofs.Common.{◌≡◌, ◌+◌, ◌-◌, ◌∙◌, ap, sym, refl, arith, length, get_or}
use Rattle.std.proofs.lemmas.Bool.Decides.{nat_tests}
use Rattle.std.proofs.lemmas.Option.{slice_get_read, slice_get_within}
use Rattle.channel_view_rules.proofs.BisectLemmas.{rises}
use Rattle.channel_view.proofs.NumberLemmas.{some_is, none_low, row_changed, row_lacking}
use Rattle.channel_view.proofs.mem.place_of.Goals.{else-place-table-via-then-place-table+else-table-place}
use Rattle.channel_view.proofs.mem.place_of.Goals.{else-place-table-via-else-place-table}
use Rattle.channel_view.proofs.mem.place_of.Goals as goal

pub returns-then-number-eq0-clause-none : goal.returns-then-number-eq0-clause-none
returns-then-number-eq0-clause-none g c =
    λ number f h. sym
    (none_low number f c.args.channel c.args.number 1 c.args.table.now h
    (grind (arith, nat_tests, c.if-number-eq0.true)))

pub channel_start-requires : goal.channel_start-requires
channel_start-requires g c = rises c.args.table.now c.requires

pub returns-then-table-place-clause-changed : goal.returns-then-table-place-clause-changed
returns-then-table-place-clause-changed g c = λ number f h r read.
    let table = c.args.table.now in
    let k = c.args.number - 1 in
    let changed = slice_get_read table (length table) (c.channel_start.result + k) r refl (omega arith) read in
    let there =
    slice_get_read table (length table) (c.channel_start.result + k) c.index-table-place.result refl (omega arith)
    c.index-table-place.is in
    let mine : r.0 ≡ c.args.channel =
    ap (λ s. s.0) (some_is _ _ (sym changed ∙ there) ∙ c.index-table-place.is) ∙ c.if-table-place.true in
    row_changed number f c.args.channel table c.channel_start.result c.args.number c.requires h
    c.channel_start.ensures.place (omega (arith, c.if-number-eq0.false))
    k r refl (omega arith) read mine

pub returns-else-place-table-clause-none : goal.returns-else-place-table-clause-none
returns-else-place-table-clause-none g c = λ number f h.
    let table = c.args.table.now in
    let k = c.args.number - 1 in
    row_lacking number f c.args.channel table c.channel_start.result c.args.number c.requires h
    c.channel_start.ensures.place (omega (arith, c.if-number-eq0.false))
    k refl c.channel_start.ensures.within
    (λ r there. elim c.else-place-table.branch [
      | else-place-table-via-then-place-table+else-table-place w ↦
          let read =
          slice_get_read table (length table) (c.channel_start.result + k) w.index-table-place.result refl
          (slice_get_within table _ r there) w.index-table-place.is in
          let same : r ≡ w.index-table-place.result = some_is _ _ (sym there ∙ read) in
          let first : r.0 ≡ (get_or table (c.channel_start.result + k) w.index-table-place.result).0 =
          ap (λ s. s.0) (same ∙ w.index-table-place.is) in
          grind (arith, nat_tests, first, w.if-table-place.false)
      | else-place-table-via-else-place-table w ↦ let within = slice_get_within table _ r there in absurd (omega arith)
    ])
