-- What is read of a request beside its call.
use Rattle.std.specs.Prelude.{ℕ, suc, Bool, false, ◌&&◌, not, List, codes, Option, Some, None, is_some, option_and_then, unwrap_or}
use Rattle.std.specs.Str.{bytes_eq}
use Rattle.json.specs.Json.{Json, Items, no_items, item}
use Rattle.json.specs.Json as json
use Rattle.json.specs.Find.{get, at, as_str}

abbrev pub names_second : Option (List ℕ) → Bool
names_second None = false
names_second (Some version) = bytes_eq version (codes "2.0")

-- the request is one of JSON-RPC 2.0: its member `jsonrpc` says so (its specification, section 4)
abbrev pub is_second : Json → Bool
is_second request = names_second (option_and_then as_str (get (codes "jsonrpc") request))

-- it is a notification, which isn't answered (section 4.1)
abbrev pub is_note : Json → Bool
is_note request = is_second request && not (is_some (get (codes "id") request))

abbrev pub count_of : Items → ℕ
count_of no_items = 0
count_of (item j js) = suc (count_of js)

-- how many requests a list has; 0 if it is none
abbrev pub size_of : Json → ℕ
size_of json.null = 0
size_of (json.boolean b) = 0
size_of (json.number s) = 0
size_of (json.string s) = 0
size_of (json.array js) = count_of js
size_of (json.object ms) = 0

-- the request at a place of a list
abbrev pub request_at : ℕ → Json → Json
request_at place requests = unwrap_or (at place requests) json.null
