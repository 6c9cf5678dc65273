-- One step of the sweep over the items and the aired rows, and what the contracts of its parts say of it.
use Rattle.std.proofs.Common.{◌≡◌, ℕ, ◌-◌, ◌<◌, ◌≤◌, List, [], ◌∷◌, min, drop, Some, None, Option, sym, ◌∙◌, ap, ⊎_elim}
use Rattle.std.specs.Prelude.{nat_lt, slice_get, IfSome, IfNone, if◌then◌else◌}
use Rattle.std.proofs.lemmas.Bool.{cases_lt, lt-ltb, le-ltb}
use Rattle.playlist_core.specs.declared.item.Item.{Item}
use Rattle.playlist_core.specs.Picture.{Strip}
use Rattle.playlist_core.specs.Order.{end_of}
use Rattle.playlist_core.specs.Item.{planned}
use Rattle.asrun_match.specs.declared.aired.AiredRow.{AiredRow}
use Rattle.asrun_match.specs.declared.status.Status.{Status}
use Rattle.asrun_match.specs.declared.status.Status.TheVariants as statuses
use Rattle.asrun_match.specs.Aired.{aired}
use Rattle.asrun_match.specs.Status.{status_of}

-- up to where nothing changes: the item ends, or the next row begins or ends
abbrev pub piece_end : Item → List AiredRow → ℕ → ℕ
piece_end item [] at = end_of (planned item)
piece_end item (r ∷ rs) at = min (end_of (planned item)) (if nat_lt at r.pos then r.pos else end_of (aired r))

abbrev pub piece_status : Item → List AiredRow → ℕ → Status
piece_status item [] at = statuses.Missed
piece_status item (r ∷ rs) at =
    if nat_lt at r.pos then statuses.Missed
    else status_of (Some ((planned item).shows (at - item.pos))) (Some ((aired r).shows (at - r.pos)))

-- without the first, where it has ended
abbrev pub behind : {R C : Type 0} → (R → Strip C) → ℕ → List R → List R
behind strip at [] = []
behind strip at (r ∷ rs) = if nat_lt at (end_of (strip r)) then r ∷ rs else rs

-- what the contracts of a step say is this one
pub end_is : (item : Item) (rows : List AiredRow) (at e : ℕ) → IfNone (slice_get rows 0) (e ≡ end_of (planned item))
    → IfSome (slice_get rows 0) (λ row. at < row.pos → e ≡ min (end_of (planned item)) row.pos)
    → IfSome (slice_get rows 0) (λ row. row.pos ≤ at → e ≡ min (end_of (planned item)) (end_of (aired row)))
    → e ≡ piece_end item rows at
end_is item [] at e alone before beside = alone
end_is item (r ∷ rs) at e alone before beside =
    ⊎_elim
    (λ lt. before lt
    ∙ ap (λ b. min (end_of (planned item)) (if b then r.pos else end_of (aired r))) (sym (lt-ltb at r.pos lt)))
    (λ ge. beside ge
    ∙ ap (λ b. min (end_of (planned item)) (if b then r.pos else end_of (aired r))) (sym (le-ltb at r.pos ge)))
    (cases_lt at r.pos)

pub status_is : (item : Item) (rows : List AiredRow) (at : ℕ) (s : Status)
    → IfNone (slice_get rows 0) (s ≡ statuses.Missed)
    → IfSome (slice_get rows 0) (λ row. at < row.pos → s ≡ statuses.Missed)
    → IfSome (slice_get rows 0)
    (λ row. row.pos ≤ at → s
    ≡ status_of (Some ((planned item).shows (at - item.pos))) (Some ((aired row).shows (at - row.pos))))
    → s ≡ piece_status item rows at
status_is item [] at s alone before beside = alone
status_is item (r ∷ rs) at s alone before beside =
    let other : Status =
    status_of (Some ((planned item).shows (at - item.pos))) (Some ((aired r).shows (at - r.pos))) in
    ⊎_elim
    (λ lt. before lt ∙ ap (λ b. if b then statuses.Missed else other) (sym (lt-ltb at r.pos lt)))
    (λ ge. beside ge ∙ ap (λ b. if b then statuses.Missed else other) (sym (le-ltb at r.pos ge)))
    (cases_lt at r.pos)

pub behind_is : {R C : Type 0} (strip : R → Strip C) (at : ℕ) (rs left : List R) → IfNone (slice_get rs 0) (left ≡ rs)
    → IfSome (slice_get rs 0) (λ r. at < end_of (strip r) → left ≡ rs)
    → IfSome (slice_get rs 0) (λ r. end_of (strip r) ≤ at → left ≡ drop 1 rs) → left ≡ behind strip at rs
behind_is strip at [] left none lasts ended = none
behind_is strip at (r ∷ rs) left none lasts ended =
    ⊎_elim
    (λ lt. lasts lt ∙ ap (λ b. if b then r ∷ rs else rs) (sym (lt-ltb at (end_of (strip r)) lt)))
    (λ ge. ended ge ∙ ap (λ b. if b then r ∷ rs else rs) (sym (le-ltb at (end_of (strip r)) ge)))
    (cases_lt at (end_of (strip r)))

-- a part of a fact on the first of a list
pub of_none : {R : Type 0} (o : Option R) (P Q : Type 0) → IfNone o (P × Q) → (IfNone o P) × (IfNone o Q)
of_none None P Q h = h
of_none (Some r) P Q h = (tt, tt)

pub of_some : {R : Type 0} (o : Option R) (A P Q : R → Type 0) → IfSome o (λ r. A r → P r × Q r)
    → (IfSome o (λ r. A r → P r)) × (IfSome o (λ r. A r → Q r))
of_some None A P Q h = (tt, tt)
of_some (Some r) A P Q h = (λ a. (h a).0, λ a. (h a).1)
