-- Part of the promise: what a message asks: a command of a channel, or an answer that is its own and no channel's.
use Rattle.std.specs.Prelude.{ℕ, true, false, ◌^◌, ◌+◌, List, [], ◌∷◌, if◌then◌else◌, ◌==◌, nat_lt, nat_le}
use Rattle.std.specs.Prelude.{Option, Some, None, Result, Ok, Err, option_map, option_and_then, ok_or, codes, bytes_eq}
use Rattle.std.specs.Option.{option_map_or}
use Rattle.std.specs.List.{list_all}
use Rattle.std.specs.Char.{is_ascii}
use Rattle.std.specs.Str.{is_utf8}
use Rattle.matchit.specs.Rows.{RowsOf}
use Rattle.matchit.specs.Route.{Scan, parse_route}
use Rattle.matchit.specs.Router.{RouteOf, route_from}
use Rattle.matchit.specs.Order.{placed}
use Rattle.matchit.specs.Seek.{first}
use Rattle.matchit.specs.Params.{walk, named}
use Rattle.matchit.specs.declared.error.InsertError.{InsertError}
use Rattle.serde_json.specs.Data.{Data, Items as Values, no_items, item, Members, no_members, member}
use Rattle.serde_json.specs.Read.{read as read_text}
use Rattle.serde_json.specs.Find.{get, as_str, as_number, as_u64, as_array, as_object}
use Rattle.http_office_requests.specs.Piece.{Piece, message, last}
use Rattle.timecode.specs.Decimal.{whole_number}
use Rattle.channel_plan.specs.Limits.{last_channel}
use Rattle.vault_core.specs.Window.{Window, is_window}
use Rattle.channel_view_model.specs.declared.command.Command.{Command}
use Rattle.channel_view_model.specs.declared.command.Command.TheVariants.{Vault, Day as OnDay, Airing as OnAiring}
use Rattle.channel_view_model.specs.declared.command.Command.TheVariants.{PlanRow, Table as WriteTable}
use Rattle.channel_view_model.specs.declared.day_command.DayCommand.TheVariants as days
use Rattle.channel_view_model.specs.declared.command.AiringCommand.TheVariants as airings
use Rattle.channel_view_model.specs.Days.{day_number, mix_frames}
use Rattle.channel_view_model.specs.declared.revision.SaidItem.{SaidItem}
use Rattle.channel_view_model.specs.Revision.{revision_said}
use Rattle.channel_view_model.specs.declared.command.VaultCommand.TheVariants.{Tape as OnTapes, Clip as OnClips}
use Rattle.channel_view_model.specs.declared.command.VaultCommand.TheVariants.{Offer as OnOffers}
use Rattle.vault_core.specs.declared.command.TapeCommand.TheVariants as tapes
use Rattle.vault_core.specs.declared.command.ClipCommand.TheVariants as clips
use Rattle.grant_core.specs.declared.command.OfferCommand.TheVariants as offers
use Rattle.channel_view_model.specs.declared.table.Table.TheVariants as tables
use Rattle.http_office_requests.specs.declared.routes.PathNumbers.{PathNumbers}
use Rattle.http_office_requests.specs.declared.routes.Route.{Route}
use Rattle.http_office_requests.specs.declared.routes.Route.TheVariants as routes

pub data Asked : Type 0 where
  -- the status of the answer
  refused : ℕ → Asked
  -- a command of this channel
  command : ℕ → Command → Asked

-- ---- the path

-- the routes of a router, after one more is put into it
abbrev pub with_route : Result Scan InsertError → Route → RowsOf (RouteOf Route) → RowsOf (RouteOf Route)
with_route (Ok s) value rows = placed ((route_from s value).pattern, route_from s value) rows
with_route (Err e) value rows = rows

-- the same after these, one after another
abbrev pub with_routes : List (List ℕ × Route) → RowsOf (RouteOf Route) → RowsOf (RouteOf Route)
with_routes [] rows = rows
with_routes (route ∷ more) rows = with_routes more (with_route (parse_route route.0) route.1 rows)

-- the paths of the method POST, and those of GET, each with what it asks, which `command_of` says
abbrev pub post_routes : List (List ℕ × Route)
post_routes =
    (codes "/ch/{ch}/tapes", routes.AddTape)
    ∷ (codes "/ch/{ch}/tapes/{n}/pull", routes.PullTape)
    ∷ (codes "/ch/{ch}/tapes/{n}/shelve", routes.ShelveTape)
    ∷ (codes "/ch/{ch}/clips", routes.AddClip)
    ∷ (codes "/ch/{ch}/clips/{n}/retire", routes.RetireClip)
    ∷ (codes "/ch/{ch}/offers", routes.MakeOffer)
    ∷ (codes "/ch/{ch}/offers/{n}/withdraw", routes.WithdrawOffer)
    ∷ (codes "/ch/{ch}/days", routes.OpenDay)
    ∷ (codes "/ch/{ch}/days/{day}/items", routes.AddItem)
    ∷ (codes "/ch/{ch}/days/{day}/items/{n}/remove", routes.RemoveItem)
    ∷ (codes "/ch/{ch}/days/{day}/revise", routes.Revise)
    ∷ (codes "/ch/{ch}/days/{day}/import/strict", routes.ImportStrict)
    ∷ (codes "/ch/{ch}/days/{day}/import/ignore", routes.ImportIgnoring)
    ∷ (codes "/ch/{ch}/days/{day}/seal", routes.Seal)
    ∷ (codes "/ch/{ch}/days/{day}/asrun/{n}", routes.TakeBatch)
    ∷ []

abbrev pub get_routes : List (List ℕ × Route)
get_routes =
    (codes "/ch/{ch}", routes.PlanRow)
    ∷ (codes "/ch/{ch}/tapes", routes.WriteTable tables.Vault)
    ∷ (codes "/ch/{ch}/clips", routes.WriteTable tables.Clips)
    ∷ (codes "/ch/{ch}/offers", routes.WriteTable tables.Offers)
    ∷ (codes "/ch/{ch}/lent", routes.WriteTable tables.Lent)
    ∷ (codes "/ch/{ch}/days", routes.WriteTable tables.Days)
    ∷ (codes "/ch/{ch}/days/{day}", routes.WritePlan)
    ∷ (codes "/ch/{ch}/days/{day}/list", routes.ExportList)
    ∷ (codes "/ch/{ch}/days/{day}/match", routes.WriteMatch)
    ∷ []

-- the routes as they lie in a router
unfoldable pub post_router : RowsOf (RouteOf Route)
post_router = with_routes post_routes []

unfoldable pub get_router : RowsOf (RouteOf Route)
get_router = with_routes get_routes []

-- the route of a path, which is ASCII (RFC 3986, section 2)
abbrev pub route_of : RowsOf (RouteOf Route) → List ℕ → Option (RouteOf Route)
route_of router path = if list_all is_ascii path then first router path else None

-- the part of the path that a parameter of its route took
abbrev pub part_named : List ℕ → RouteOf Route → List ℕ → Option (List ℕ)
part_named name r path = named name (walk r.pattern r.text path r.names 0 0)

-- a row's number in a path: 1 to 5 digits, the first not 0
abbrev pub row_number : List ℕ → Option ℕ
row_number part = whole_number 5 part

-- a channel's: the same, to 999
abbrev pub channel_number : List ℕ → Option ℕ
channel_number part = option_and_then (λ n. if nat_le n last_channel then Some n else None) (whole_number 5 part)

-- a route, and the numbers in a path of it
abbrev pub route_and_numbers : List ℕ → RouteOf Route → Route × PathNumbers
route_and_numbers path r = (
  r.value,
  record {
    channel = option_and_then channel_number (part_named (codes "ch") r path);
    day = option_and_then row_number (part_named (codes "day") r path);
    row = option_and_then row_number (part_named (codes "n") r path);
  },
)

-- ---- the body

-- a JSON text (RFC 8259), at most 127 deep
abbrev pub json_of : List ℕ → Option Data
json_of content = if is_utf8 content then read_text content else None

abbrev pub member_count : Members → ℕ
member_count no_members = 0
member_count (member key value more) = member_count more + 1

-- how many members an object has
abbrev pub members_in : Data → ℕ
members_in d = option_map_or member_count (as_object d) 0

abbrev pub text_at : List ℕ → Data → Option (List ℕ)
text_at key d = option_and_then as_str (get key d)

abbrev pub number_of : Data → Option ℕ
number_of d = option_and_then (λ n. if nat_lt n (2 ^ 32) then Some n else None) (option_and_then as_u64 (as_number d))

abbrev pub number_at : List ℕ → Data → Option ℕ
number_at key d = option_and_then (λ n. if nat_lt n (2 ^ 32) then Some n else None)
    (option_and_then as_u64 (option_and_then as_number (get key d)))

-- {"barcode": text, "slot": number}, and no other member
abbrev pub add_tape_of : Data → Option Command
add_tape_of d =
    if members_in d == 2
    then option_and_then
    (λ barcode. option_map (λ slot. Vault (OnTapes (tapes.Add barcode slot))) (number_at (codes "slot") d))
    (text_at (codes "barcode") d)
    else None

-- {"slot": number}, and no other member
abbrev pub shelve_of : ℕ → Data → Option Command
shelve_of tape d =
    if members_in d == 1
    then option_map (λ slot. Vault (OnTapes (tapes.Shelve tape slot))) (number_at (codes "slot") d)
    else None

-- {"frames": number, "in": text, "tape": number, "title": text, "umid": text}, and no other member
abbrev pub add_clip_of : Data → Option Command
add_clip_of d =
    if members_in d == 5
    then option_and_then (λ tape. option_and_then (λ frames. option_and_then (λ title. option_and_then (λ umid.
    option_map (λ source_in. Vault (OnClips (clips.Add tape title umid source_in frames)))
    (text_at (codes "in") d)) (text_at (codes "umid") d)) (text_at (codes "title") d)) (number_at (codes "frames") d))
    (number_at (codes "tape") d)
    else None

-- the window from "first" to "last", two numbers, if they make one
abbrev pub window_of : ℕ → ℕ → Option Window
window_of m n = if is_window m n then Some (record { first = m; last = n }) else None

abbrev pub window_at : Data → Option Window
window_at d = option_and_then (λ m. option_and_then (λ n. window_of m n) (number_at (codes "last") d))
    (number_at (codes "first") d)

-- of "clip": text and "to": number
abbrev pub offer_for : Option Window → Data → Option Command
offer_for window d =
    option_and_then
    (λ clip. option_map (λ to. Vault (OnOffers (offers.Make clip to window))) (number_at (codes "to") d))
    (text_at (codes "clip") d)

-- {"clip": text, "to": number}, or with "first": number and "last": number besides, and no other member
abbrev pub offer_of : Data → Option Command
offer_of d =
    if members_in d == 2 then offer_for None d else
    if members_in d == 4 then option_and_then (λ window. offer_for (Some window) d) (window_at d) else
    None

-- {"day": number}, and no other member
abbrev pub open_day_of : Data → Option Command
open_day_of d =
    if members_in d == 1
    then option_map (λ n. OnDay n days.Open) (option_and_then day_number (number_at (codes "day") d))
    else None

-- {"at": text, "frames": number, "in": text, "mix": number, "source": text}, and no other member
abbrev pub add_item_of : ℕ → Data → Option Command
add_item_of day d =
    if members_in d == 5
    then option_and_then (λ frames. option_and_then (λ mix. option_and_then (λ at. option_and_then (λ source_in.
    option_map (λ source. OnDay day (days.AddItem at frames source_in mix source))
    (text_at (codes "source") d)) (text_at (codes "in") d)) (text_at (codes "at") d))
    (option_and_then mix_frames (number_at (codes "mix") d))) (number_at (codes "frames") d)
    else None

-- a list, in the order that it stands in
abbrev pub list_of : {X : Type 0} → (Data → Option X) → Values → Option (List X)
list_of value no_items = Some []
list_of value (item d ds) = option_and_then (λ x. option_map (λ xs. x ∷ xs) (list_of value ds)) (value d)

-- the list of a member, of which each is such a value
abbrev pub list_at : {X : Type 0} → (Data → Option X) → List ℕ → Data → Option (List X)
list_at value key d = option_and_then (list_of value) (option_and_then as_array (get key d))

-- the item of "at": text, "frames": number, "in": text, "mix": number, "source": text
abbrev pub said_with : Option ℕ → Data → Option SaidItem
said_with wipe d =
    option_and_then (λ frames. option_and_then (λ mix. option_and_then (λ at. option_and_then (λ source_in.
    option_map (λ source. record {
      at = at;
      frames = frames;
      source_in = source_in;
      mix = mix;
      wipe = wipe;
      source = source;
    })
    (text_at (codes "source") d)) (text_at (codes "in") d)) (text_at (codes "at") d))
    (number_at (codes "mix") d)) (number_at (codes "frames") d)

-- with these five members, or with "wipe": number besides, and no other member
abbrev pub said_of : Data → Option SaidItem
said_of d =
    if members_in d == 5 then said_with None d else
    if members_in d == 6 then option_and_then (λ wipe. said_with (Some wipe) d) (number_at (codes "wipe") d) else
    None

-- {"add": list of items, "remove": list of numbers}, and no other member
abbrev pub revise_of : ℕ → Data → Option Command
revise_of day d =
    if members_in d == 2
    then option_and_then (λ remove. option_and_then (λ add. option_map (λ said. OnDay day (days.Revise said))
    (revision_said (record { remove = remove; add = add }))) (list_at said_of (codes "add") d))
    (list_at number_of (codes "remove") d)
    else None

-- ---- the commands

-- what needs a number of the path, or the status of the answer where the path has none
abbrev pub with_number : Option ℕ → (ℕ → Result Command ℕ) → Result Command ℕ
with_number None f = Err 404
with_number (Some n) f = f n

abbrev pub with_row : PathNumbers → (ℕ → Result Command ℕ) → Result Command ℕ
with_row path f = with_number path.row f

abbrev pub with_day : PathNumbers → (ℕ → Result Command ℕ) → Result Command ℕ
with_day path f = with_number (option_and_then day_number path.day) f

-- the command of a JSON body
abbrev pub in_body : (Data → Option Command) → List ℕ → Result Command ℕ
in_body members content = ok_or (option_and_then members (json_of content)) 400

-- What each route asks, by the numbers in its path and by its body. The numbers come before the body.
abbrev pub command_of : Route → PathNumbers → List ℕ → Result Command ℕ
command_of routes.AddTape path body = in_body add_tape_of body
command_of routes.PullTape path body = with_row path (λ tape. Ok (Vault (OnTapes (tapes.Pull tape))))
command_of routes.ShelveTape path body = with_row path (λ tape. in_body (shelve_of tape) body)
command_of routes.AddClip path body = in_body add_clip_of body
command_of routes.RetireClip path body = with_row path (λ clip. Ok (Vault (OnClips (clips.Retire clip))))
command_of routes.MakeOffer path body = in_body offer_of body
command_of routes.WithdrawOffer path body = with_row path (λ offer. Ok (Vault (OnOffers (offers.Withdraw offer))))
command_of routes.OpenDay path body = in_body open_day_of body
command_of routes.AddItem path body = with_day path (λ day. in_body (add_item_of day) body)
command_of routes.RemoveItem path body =
    with_day path (λ day. with_row path (λ item. Ok (OnDay day (days.RemoveItem item))))
command_of routes.Revise path body = with_day path (λ day. in_body (revise_of day) body)
command_of routes.ImportStrict path body = with_day path (λ day. Ok (OnDay day (days.Import body false)))
command_of routes.ImportIgnoring path body = with_day path (λ day. Ok (OnDay day (days.Import body true)))
command_of routes.Seal path body = with_day path (λ day. Ok (OnDay day days.Seal))
command_of routes.TakeBatch path body =
    with_day path (λ day. with_row path (λ n. Ok (OnAiring day (airings.TakeBatch n body))))
command_of routes.PlanRow path body = Ok PlanRow
command_of (routes.WriteTable table) path body = Ok (WriteTable table)
command_of routes.WritePlan path body = with_day path (λ day. Ok (OnDay day days.WritePlan))
command_of routes.ExportList path body = with_day path (λ day. Ok (OnDay day days.ExportList))
command_of routes.WriteMatch path body = with_day path (λ day. Ok (OnAiring day airings.WriteMatch))

-- ---- the whole message

-- The number of the channel comes before all else.
abbrev pub asked_by : Option ℕ → Result Command ℕ → Asked
asked_by None found = refused 404
asked_by (Some ch) (Ok c) = command ch c
asked_by (Some ch) (Err status) = refused status

abbrev pub asked_of : Route → PathNumbers → List ℕ → Asked
asked_of route path content = asked_by path.channel (command_of route path content)

abbrev pub asked_at : Option (Route × PathNumbers) → List ℕ → Asked
asked_at None content = refused 404
asked_at (Some found) content = asked_of found.0 found.1 content

abbrev pub asked_in : RowsOf (RouteOf Route) → List ℕ → List ℕ → Asked
asked_in router path content = asked_at (option_map (route_and_numbers path) (route_of router path)) content

-- what a method, a path and a body ask
unfoldable pub asked : List ℕ → List ℕ → List ℕ → Asked
asked method path content =
    if bytes_eq method (codes "POST") then asked_in post_router path content
    else (if bytes_eq method (codes "GET") then asked_in get_router path content else refused 501)

abbrev pub request_of : Piece → Asked
request_of (last status) = refused status
request_of (message h content) = asked h.method h.target content
