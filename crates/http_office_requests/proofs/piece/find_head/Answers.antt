-- `find_head`: what stands at the front of the bytes, in the first of which no head ends.
use Rattle.std.proofs.Common.{◌≡◌, ◌≤◌, ◌<◌, ℕ, List, take, length, None, sym, subst, take_all, length-take, arith}
use Rattle.http_office_requests.specs.Piece.{head_len}
use Rattle.http_office_requests.proofs.PieceLemmas.{waits_for_head, found_head, endless_piece, seen_in_window}
use Rattle.http_office_requests.proofs.piece.find_head.Goals as goal

pub head_end-requires-clause-searched : goal.head_end-requires-clause-searched
head_end-requires-clause-searched c =
    seen_in_window c.args.bytes.now c.args.searched c.min.result (omega (arith, c.requires.0, c.requires.1))
    (omega arith) c.requires.2

pub after_head-requires-clause-within : goal.after_head-requires-clause-within
after_head-requires-clause-within c =
    (found_head c.args.bytes.now c.min.result c.in-Some.n (omega arith) (omega arith) (sym c.in-Some.ensures)).0

pub after_head-requires-clause-head : goal.after_head-requires-clause-head
after_head-requires-clause-head c =
    (found_head c.args.bytes.now c.min.result c.in-Some.n (omega arith) (omega arith) (sym c.in-Some.ensures)).1

pub returns-then-window-lt-HEAD_LIMIT : goal.returns-then-window-lt-HEAD_LIMIT
returns-then-window-lt-HEAD_LIMIT c =
    let bytes = c.args.bytes.now in
    let few : length bytes < 8192 = omega (arith, length-take c.min.result bytes) in
    let all : take c.min.result bytes ≡ bytes = take_all c.min.result bytes (omega arith) in
    let none : head_len bytes ≡ None = subst (λ (l : List ℕ). head_len l ≡ None) all (sym c.in-None.ensures) in
    let searched : head_len (take (length bytes) bytes) ≡ None =
    subst (λ (l : List ℕ). head_len l ≡ None) (sym (take_all (length bytes) bytes (omega arith))) none in
    (waits_for_head bytes none few, (omega arith, omega arith, searched))

pub returns-else-window-lt-HEAD_LIMIT : goal.returns-else-window-lt-HEAD_LIMIT
returns-else-window-lt-HEAD_LIMIT c =
    let many : 8192 ≤ length c.args.bytes.now = omega (arith, length-take c.min.result c.args.bytes.now) in
    let k_is : c.min.result ≡ 8192 = omega arith in
    endless_piece c.args.bytes.now many
    (subst (λ (k : ℕ). head_len (take k c.args.bytes.now) ≡ None) k_is (sym c.in-None.ensures))
