-- What is known of the connections of a node's peers (this node's own bookkeeping).
use Rattle.std.specs.Prelude.{ℕ, zero, suc, ◌+◌, ◌≤◌, Bool, true, false, List, [], ◌∷◌, ◌++◌, length, replicate, IfSome, Option, None, option_and_then, slice_get}
use Rattle.std.specs.Option.{option_map_or}
use Rattle.cb_state.specs.declared.connection.Connection.{Connection}
use Rattle.cb_hall.specs.declared.connections.Connected.{Connected}

-- How many peers a node can have.
abbrev pub most_peers : ℕ
most_peers = 1024

-- One list for each peer, with the connection of generation 1 first.
abbrev pub Slots : Type 0
Slots = List (List Connected)

-- ---- looking

-- The connection of a generation in one peer's list; generations count from 1.
abbrev pub connected_at : List Connected → ℕ → Option Connected
connected_at slot zero = None
connected_at slot (suc place) = slice_get slot place

abbrev pub connected_of : Slots → Connection → Option Connected
connected_of slots connection =
    option_and_then (λ slot. connected_at slot connection.generation)
    (slice_get slots connection.peer)

abbrev pub is_kicked : Slots → Connection → Bool
is_kicked slots connection =
    option_map_or (λ connected. connected.kicked) (connected_of slots connection) false

-- The generation of a peer's latest connection; 0 if there is no such peer.
abbrev pub latest_of : Slots → ℕ → ℕ
latest_of slots peer = option_map_or length (slice_get slots peer) 0

-- ---- changing

-- The element at this place is changed, if there is one.
unfoldable pub changed_at : {A : Type 0} → (A → A) → ℕ → List A → List A
changed_at change place [] = []
changed_at change zero (x ∷ xs) = change x ∷ xs
changed_at change (suc place) (x ∷ xs) = x ∷ changed_at change place xs

abbrev pub in_slot : (Connected → Connected) → ℕ → List Connected → List Connected
in_slot change zero slot = slot
in_slot change (suc place) slot = changed_at change place slot

-- What is known of one connection is changed, if the connection exists.
abbrev pub put_in : (Connected → Connected) → Connection → Slots → Slots
put_in change connection slots =
    changed_at (in_slot change connection.generation) connection.peer slots

-- A connection that has asked nothing.
abbrev pub fresh : Connected
fresh = record { count = 0; kicked = false }

-- One more question was granted.
abbrev pub counted : Connected → Connected
counted connected = record { count = connected.count + 1; kicked = connected.kicked }

abbrev pub kicked : Connected → Connected
kicked connected = record { count = connected.count; kicked = true }

-- A peer's next connection is opened.
abbrev pub opened : List Connected → List Connected
opened slot = slot ++ fresh ∷ []

-- At the start each peer has its first connection.
unfoldable pub first_slots : Slots
first_slots = replicate most_peers (fresh ∷ [])

-- No connection was granted more than `most` questions.
abbrev pub AreCounted : ℕ → Slots → Type 0
AreCounted most slots =
    (connection : Connection)
    → IfSome (connected_of slots connection) (λ connected. connected.count ≤ most)
