-- What a body and a path ask.
use Rattle.std.proofs.Common.{◌≡◌, ℕ, ◌+◌, Bool, true, false, cond, List, [], ◌∷◌, length, take, drop, ◌-◌, ◌<◌, ◌&&◌}
use Rattle.std.proofs.Common.{leb, Some, None, Option, refl, sym, ap, ◌∙◌, arith}
use Rattle.std.specs.Prelude.{String}
use Rattle.std.specs.declared.alloc.Global.{Global}
use Rattle.std.specs.Option.{option_map_or}
use Rattle.std.specs.Str.{is_utf8, IsUtf8}
use Rattle.std.specs.Borrow.{Bor}
use Rattle.std.specs.Prelude.{MatchOption, option_map}
use Rattle.std.specs.Str.{IsAscii}
use Rattle.std.specs.List.{list_all}
use Rattle.std.specs.Char.{is_ascii}
use Rattle.matchit.specs.Rows.{RowsOf}
use Rattle.matchit.specs.Seek.{first}
use Rattle.matchit.specs.Params.{walk, part_of, AllText}
use Rattle.matchit.specs.Router.{RouteOf, rename, map_key}
use Rattle.matchit.proofs.RenameLemmas.{first-rename}
use Rattle.http_office_requests.specs.declared.routes.Route.{Route}
use Rattle.http_office_requests.specs.Found.{HasPlainTexts}
use Rattle.std.proofs.lemmas.Bool.Decides.{nat_tests}
use Rattle.std.proofs.lemmas.Str.Ascii.{IsAscii-from_all}
use Rattle.std.proofs.lemmas.List.Elements.{All-weaker}
use Rattle.std.proofs.lemmas.List.Sums.{AllPass-from_list_all}
use Rattle.std.proofs.lemmas.Str.{IsUtf8-from_ascii, IsUtf8-nil, IsAscii-take, IsAscii-drop, IsUtf8-from_is_utf8}
use Rattle.std.proofs.lemmas.Str.{is_utf8-from_IsUtf8}
use Rattle.serde_json.specs.Data.{Data}
use Rattle.serde_json.specs.Read.{read as read_text}
use Rattle.serde_json.specs.Find.{as_object}
use Rattle.serde_json.specs.View.{members_view}
use Rattle.serde_json.specs.declared.value.Value.{Value}
use Rattle.http_office_requests.specs.Request.{json_of, member_count, members_in}

pub json_read : (content : List ℕ) (d : Data) → IsUtf8 content → read_text content ≡ Some d → Some d ≡ json_of content
json_read content d text e = rw (is_utf8-from_IsUtf8 content text) (sym e)

pub json_refused : (content : List ℕ) → (IsUtf8 content → read_text content ≡ None) → None ≡ json_of content
json_refused content h = by (is_utf8 content) refl
  where
    by : (b : Bool) → is_utf8 content ≡ b → None ≡ cond b (read_text content) None
    by true e = sym (h (IsUtf8-from_is_utf8 content e))
    by false e = refl

member_count-view : (ms : List (String Global × Value)) → member_count (members_view ms) ≡ length ms
member_count-view [] = refl
member_count-view (m ∷ ms) = ap (λ (n : ℕ). n + 1) (member_count-view ms) ∙ omega arith

pub members_total : (d : Data) (ms : List (String Global × Value)) → Some (members_view ms) ≡ as_object d
    → length ms ≡ members_in d
members_total d ms e = sym (member_count-view ms) ∙ ap (λ o. option_map_or member_count o 0) e

-- ---- the parts of a path

pub ascii_at : (bytes : List ℕ) → list_all is_ascii bytes ≡ true → IsAscii bytes
ascii_at bytes h =
    IsAscii-from_all bytes
    (All-weaker (λ (x : ℕ). is_ascii x ≡ true) (λ (x : ℕ). x < 128) below bytes
    (AllPass-from_list_all is_ascii bytes h))
  where
    below : (x : ℕ) → is_ascii x ≡ true → x < 128
    below x e = grind (arith, nat_tests)

part_text : (bytes : List ℕ) (start end : ℕ) → IsAscii bytes → IsUtf8 (part_of bytes start end)
part_text bytes start end h = by (leb start end && leb end (length bytes))
  where
    by : (b : Bool) → IsUtf8 (cond b (take (end - start) (drop start bytes)) [])
    by true = IsUtf8-from_ascii _ (IsAscii-take (drop start bytes) (end - start) (IsAscii-drop bytes start h))
    by false = IsUtf8-nil

-- the names and the parts of an ASCII path are text
walk_text : (pattern text path : List ℕ) (names : List (ℕ × ℕ)) (token at : ℕ) → IsAscii text → IsAscii path
    → AllText (walk pattern text path names token at)
walk_text pattern text path [] token at t p = tt
walk_text pattern text path (name ∷ rest) token at t p =
    (part_text text name.0 name.1 t, part_text path _ _ p, walk_text pattern text path rest _ _ t p)

-- what holds of each route of a router holds of the one that a path matches
holds_of_match : (rows : RowsOf (RouteOf Route)) (path : List ℕ) (test : RouteOf Route → Bool) (r : RouteOf Route)
    → rename test rows ≡ rename (λ _. true) rows → first rows path ≡ Some r → test r ≡ true
holds_of_match rows path test r all found =
    let same : map_key test (first rows path) ≡ map_key (λ _. true) (first rows path) =
    sym (first-rename test rows path) ∙ ap (λ (rs : RowsOf Bool). first rs path) all
    ∙ first-rename (λ _. true) rows path in
    let some : Some (test r) ≡ Some true = rw found at same in
    cc

pub match_text : (rows : RowsOf (RouteOf Route)) (path : List ℕ) (r : RouteOf Route) → list_all is_ascii path ≡ true
    → HasPlainTexts rows → first rows path ≡ Some r
    → AllText (walk r.pattern r.text path r.names 0 0)
match_text rows path r plain texts found =
    walk_text r.pattern r.text path r.names 0 0
    (ascii_at r.text (holds_of_match rows path (λ (x : RouteOf Route). list_all is_ascii x.text) r texts found))
    (ascii_at path plain)

pub plain_text : (path : List ℕ) → list_all is_ascii path ≡ true → IsUtf8 path
plain_text path h = IsUtf8-from_ascii path (ascii_at path h)

-- what was found under a name
pub got_named : (got : Option (Bor (List ℕ))) (o : Option (List ℕ)) → MatchOption got (o ≡ None) (λ v. o ≡ Some v.now)
    → o ≡ option_map (λ v. v.now) got
got_named None o h = h
got_named (Some v) o h = h
