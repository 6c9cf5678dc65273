-- Part of the promise: the bytes of an answer.
use Rattle.std.specs.Prelude.{ℕ, List, ◌++◌, length, [], Option, Some, None, unwrap_or, codes, decimal, if◌then◌else◌}
use Rattle.std.specs.Prelude.{◌==◌}
use Rattle.http.specs.StatusCode.{reason_phrase}
use Rattle.serde_json.specs.Data.{Data, Members, object, member, no_members, number, unsigned, string}
use Rattle.serde_json.specs.Written.{compact_text}
use Rattle.timecode.specs.Rate.{rate_text}
use Rattle.timecode.specs.Label.{label_text}
use Rattle.channel_plan.specs.declared.plan.PlanRow.{PlanRow}
use Rattle.channel_plan.specs.declared.refusal.Refusal.{Refusal}
use Rattle.channel_view_model.specs.declared.command.Reply.{Reply}
use Rattle.channel_view_model.specs.declared.command.Reply.TheVariants.{Tape, Clip, Offer, Day, Item, Items}
use Rattle.channel_view_model.specs.declared.command.Reply.TheVariants.{Batch, PlanRow as RowOf, Table, Refused}
use Rattle.channel_view_model.specs.declared.command.Reply.TheVariants.{Revised as RevisedOf, ItemRefused}
use Rattle.channel_view_model.specs.declared.revision.ItemRefusal.{ItemRefusal}
use Rattle.channel_view_model.specs.declared.revision.Revised.{Revised}
use Rattle.playlist_core.specs.Day.{label_at}
use Rattle.playlist_edl.specs.declared.importing.Imported.{Imported}
use Rattle.channel_view_model.specs.declared.command.Outcome.{Outcome}
use Rattle.channel_view_model.specs.declared.command.Outcome.TheVariants.{Replied, NoChannel, Unavailable}
use Rattle.channel_plan.specs.Refusal.{number_of, name_of, text_of}
use Rattle.vault_core.specs.Reel.{clip_reel}
use Rattle.http_office_answers.specs.declared.answers.Answer.{Answer}
use Rattle.http_office_answers.specs.declared.answers.Answer.TheVariants as answers

-- a status line, two fields and an empty line (RFC 9112, section 4)
abbrev pub head_text : ℕ → List ℕ → List ℕ → ℕ → List ℕ
head_text status phrase content_type len =
    codes "HTTP/1.1 " ++ (decimal status ++ (codes " " ++ (phrase ++ (codes "\r\nContent-Length: " ++ (decimal len
    ++ (codes "\r\nContent-Type: " ++ (content_type ++ codes "\r\n\r\n")))))))

-- a body of this type behind them, under the status's phrase
unfoldable pub with_body : ℕ → List ℕ → List ℕ → List ℕ
with_body status content_type content =
    head_text status (unwrap_or (reason_phrase status) []) content_type (length content) ++ content

abbrev pub json_type : List ℕ
json_type = codes "application/json"

unfoldable pub json_answer : ℕ → Data → List ℕ
json_answer status d = with_body status json_type (compact_text d)

-- {"code":n,"refused":"Name"}, or {"at":"text","code":n,"refused":"Name"}
abbrev pub code_and_name : ℕ → List ℕ → Members
code_and_name code name =
    member (codes "code") (number (unsigned code)) (member (codes "refused") (string name) no_members)

abbrev pub refusal_data : Option (List ℕ) → ℕ → List ℕ → Data
refusal_data None code name = object (code_and_name code name)
refusal_data (Some at) code name = object (member (codes "at") (string at) (code_and_name code name))

-- of one of a list: with "item":k, its place there, behind the code
abbrev pub code_place_and_name : ℕ → ℕ → List ℕ → Members
code_place_and_name code k name =
    member (codes "code") (number (unsigned code)) (member (codes "item") (number (unsigned k))
    (member (codes "refused") (string name) no_members))

abbrev pub item_refusal_data : Option (List ℕ) → ℕ → ℕ → List ℕ → Data
item_refusal_data None code k name = object (code_place_and_name code k name)
item_refusal_data (Some at) code k name = object (member (codes "at") (string at) (code_place_and_name code k name))

-- {"tape":n}
abbrev pub number_data : List ℕ → ℕ → Data
number_data key n = object (member key (number (unsigned n)) no_members)

-- {"items":n,"skipped":m}
abbrev pub counts_data : Imported → Data
counts_data counts =
    object (member (codes "items") (number (unsigned counts.items))
    (member (codes "skipped") (number (unsigned counts.skipped)) no_members))

-- {"items":n,"removed":m}
abbrev pub revised_data : Revised → Data
revised_data counts =
    object (member (codes "items") (number (unsigned counts.items))
    (member (codes "removed") (number (unsigned counts.removed)) no_members))

-- {"batch":n,"frames":m}
abbrev pub batch_data : ℕ → ℕ → Data
batch_data n frames =
    object (member (codes "batch") (number (unsigned n))
    (member (codes "frames") (number (unsigned frames)) no_members))

-- {"ch":n,"rate":"25","slots":n,"start":"06:00:00:00"}: the start is the label of the broadcast day's first frame
abbrev pub plan_row_data : PlanRow → Data
plan_row_data row =
    object (member (codes "ch") (number (unsigned row.ch))
    (member (codes "rate") (string (rate_text row.rate))
    (member (codes "slots") (number (unsigned row.slots))
    (member (codes "start") (string (label_text (label_at row 0))) no_members))))

-- {"clip":"C0000001"}
abbrev pub text_data : List ℕ → List ℕ → Data
text_data key text = object (member key (string text) no_members)

-- the name of a status that isn't 200 or 409
abbrev pub status_name : ℕ → List ℕ
status_name status =
    if status == 400 then codes "BadMessage"
    else (if status == 404 then codes "NotFound"
    else (if status == 413 then codes "TooLarge" else codes "NotImplemented"))

-- the answer to a message that asks nothing of a channel
abbrev pub status_answer : ℕ → List ℕ
status_answer status = json_answer status (refusal_data None status (status_name status))

abbrev pub refusal_answer : Refusal → List ℕ
refusal_answer r = json_answer 409 (refusal_data (text_of r.at) (number_of r.code) (name_of r.code))

abbrev pub item_refusal_answer : ItemRefusal → List ℕ
item_refusal_answer r =
    json_answer 409
    (item_refusal_data (text_of r.refusal.at) (number_of r.refusal.code) r.item (name_of r.refusal.code))

abbrev pub reply_answer : Reply → List ℕ
reply_answer (Tape n) = json_answer 200 (number_data (codes "tape") n)
reply_answer (Clip n) = json_answer 200 (text_data (codes "clip") (clip_reel n))
reply_answer (Offer n) = json_answer 200 (number_data (codes "offer") n)
reply_answer (Day n) = json_answer 200 (number_data (codes "day") n)
reply_answer (Item n) = json_answer 200 (number_data (codes "item") n)
reply_answer (Items counts) = json_answer 200 (counts_data counts)
reply_answer (RevisedOf counts) = json_answer 200 (revised_data counts)
reply_answer (Batch n frames) = json_answer 200 (batch_data n frames)
reply_answer (RowOf row) = json_answer 200 (plan_row_data row)
reply_answer (Table text) = with_body 200 (codes "text/plain") text
reply_answer (Refused r) = refusal_answer r
reply_answer (ItemRefused r) = item_refusal_answer r

-- the answer where memory or the store failed: a constant
unfoldable pub unavailable_answer : List ℕ
unavailable_answer = with_body 503 json_type (codes "{\"code\":100,\"refused\":\"Unavailable\"}")

-- the bytes of what became of a request
abbrev pub bytes_of : Outcome → List ℕ
bytes_of (Replied reply) = reply_answer reply
bytes_of NoChannel = status_answer 404
bytes_of Unavailable = unavailable_answer

-- what is written for a message: where memory or the store failed, the constant
abbrev pub answer_bytes : Answer → List ℕ
answer_bytes (answers.Given bytes) = bytes.items
answer_bytes answers.Unavailable = unavailable_answer
