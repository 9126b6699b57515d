-- Announcers: the connections that are asked to announce new blocks as compact blocks (BIP 152: at
-- most three peers), chosen by the new tips that they gave.
use Rattle.std.specs.Prelude.{ℕ, ◌-◌, Bool, ◌&&◌, ◌||◌, false, not, nat_eq, List, [], ◌∷◌, ◌++◌, length, drop, filter}
use Rattle.cb_state.specs.declared.connection.Connection.{Connection}

abbrev pub same_connection : Connection → Connection → Bool
same_connection a b = nat_eq a.peer b.peer && nat_eq a.generation b.generation

abbrev pub is_among : List Connection → Connection → Bool
is_among [] connection = false
is_among (other ∷ others) connection =
    same_connection other connection || is_among others connection

abbrev pub without : List Connection → Connection → List Connection
without announcers connection = filter (λ other. not (same_connection other connection)) announcers

-- The last three.
abbrev pub last_three : List Connection → List Connection
last_three connections = drop (length connections - 3) connections

-- The connection is moved or added to the end. If there are then four, the first is dropped.
abbrev pub with_announcer : List Connection → Connection → List Connection
with_announcer announcers connection = last_three (without announcers connection ++ connection ∷ [])

-- All connections of a peer are removed.
abbrev pub without_peer : List Connection → ℕ → List Connection
without_peer announcers peer = filter (λ other. not (nat_eq other.peer peer)) announcers
