-- What was sent, by commands, as it is printed.
use Rattle.std.specs.Prelude.{ℕ, nat_lt, if◌then◌else◌, List, [], ◌∷◌, ◌++◌, codes, Option, Some, None, slice_get}
use Rattle.std.specs.Fmt.{decimal}
use Rattle.std.specs.List.{flat_map, range_with_len}
use Rattle.cb_net_node.specs.declared.traffic.Row.{Row}

-- the commands of messages, and all others, in their order
abbrev pub command_names : List (List ℕ)
command_names =
    codes "version" ∷ codes "verack" ∷ codes "ping" ∷ codes "pong" ∷ codes "sendheaders"
    ∷ codes "sendcmpct" ∷ codes "inv" ∷ codes "getdata" ∷ codes "notfound" ∷ codes "headers"
    ∷ codes "getheaders" ∷ codes "tx" ∷ codes "block" ∷ codes "cmpctblock" ∷ codes "getblocktxn"
    ∷ codes "blocktxn" ∷ codes "other" ∷ []

-- ---- in words

-- a command with how many messages and bytes were sent, if there were any
abbrev pub sent_text : List ℕ → Row → List ℕ
sent_text name row =
    if nat_lt 0 row.messages
    then codes " " ++ (name ++ (codes " " ++ (decimal row.messages
    ++ (codes " " ++ decimal row.bytes))))
    else []

abbrev pub sent_of : Option (List ℕ) → Option Row → List ℕ
sent_of None row = []
sent_of (Some name) None = []
sent_of (Some name) (Some row) = sent_text name row

-- the command at a place
abbrev pub sent_at : List Row → ℕ → List ℕ
sent_at rows place = sent_of (slice_get command_names place) (slice_get rows place)

-- all of them, to the line's end
abbrev pub traffic_line : List Row → List ℕ
traffic_line rows = flat_map (sent_at rows) (range_with_len 0 17) ++ codes "\n"

-- ---- in a row of comma-separated values

-- the names of the two columns of a command
abbrev pub head_of : Option (List ℕ) → List ℕ
head_of None = []
head_of (Some name) = codes "," ++ (name ++ (codes "_messages," ++ (name ++ codes "_bytes")))

abbrev pub head_at : ℕ → List ℕ
head_at place = head_of (slice_get command_names place)

abbrev pub heads_text : List ℕ
heads_text = flat_map head_at (range_with_len 0 17) ++ codes "\n"

-- its two columns
abbrev pub columns_of : Row → List ℕ
columns_of row = codes "," ++ (decimal row.messages ++ (codes "," ++ decimal row.bytes))

abbrev pub columns_text : List Row → List ℕ
columns_text rows = flat_map columns_of rows ++ codes "\n"
