-- `look_up`: the route of a path, and the numbers in the path.
use Rattle.std.proofs.Common.{◌≡◌, Some, refl, ap, sym, ◌∙◌}
use Rattle.std.specs.Prelude.{option_and_then, option_map}
use Rattle.http_office_requests.specs.Request.{channel_number, row_number}
use Rattle.http_office_requests.proofs.RouteLemmas.{match_text, got_named}
use Rattle.http_office_requests.proofs.routes.look_up.Goals.{in-Some, in-None, in-Some-get, in-None-get, in-Some-get-2}
use Rattle.http_office_requests.proofs.routes.look_up.Goals.{in-None-get-2}
use Rattle.http_office_requests.proofs.routes.look_up.Goals as goal

pub returns-after-get-3 : goal.returns-after-get-3
returns-after-get-3 c =
    let found = c.in-Ok.ensures.found in
    let texts = match_text _ _ _ c.requires.plain c.requires.texts found in
    let known = rw c.in-Ok.ensures.path at c.get.ensures in
    let known_day = rw c.in-Ok.ensures.path at c.get-in-Ok.ensures in
    let known_row = rw c.in-Ok.ensures.path at c.get-in-Ok-2.ensures in
    let got = got_named c.get.result _ (known texts) in
    let got_day = got_named c.get-in-Ok.result _ (known_day texts) in
    let got_row = got_named c.get-in-Ok-2.result _ (known_row texts) in
    let channel : c.match-get.channel ≡ option_and_then channel_number (option_map (λ v. v.now) c.get.result) =
    elim c.match-get.branch [
      | in-Some w ↦ rw (w.channel-is, w.in-Some.is) w.channel_in_path-channel.ensures
      | in-None w ↦ rw (w.channel-is, w.in-None.is) refl
    ] in
    let day : c.match-get-2.day ≡ option_and_then row_number (option_map (λ v. v.now) c.get-in-Ok.result) =
    elim c.match-get-2.branch [
      | in-Some-get w ↦ rw (w.day-is, w.in-Some-get.is) w.row_in_path-day.ensures
      | in-None-get w ↦ rw (w.day-is, w.in-None-get.is) refl
    ] in
    let row : c.match-get-3.row ≡ option_and_then row_number (option_map (λ v. v.now) c.get-in-Ok-2.result) =
    elim c.match-get-3.branch [
      | in-Some-get-2 w ↦ rw (w.row-is, w.in-Some-get-2.is) w.row_in_path-row.ensures
      | in-None-get-2 w ↦ rw (w.row-is, w.in-None-get-2.is) refl
    ] in
    let ch = channel ∙ sym (ap (option_and_then channel_number) got) in
    let d = day ∙ sym (ap (option_and_then row_number) got_day) in
    let n = row ∙ sym (ap (option_and_then row_number) got_row) in
    rw found (λ i. Some (c.in-Ok.found.value.now, record { channel = ch i; day = d i; row = n i }))
