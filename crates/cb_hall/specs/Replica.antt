-- The state that a journal of calls leads to, and the answers to its questions: a fold over the
-- entries (state machine replication).
use Rattle.std.specs.Prelude.{◌≡◌, ℕ, ◌+◌, ◌<◌, List, [], ◌∷◌, ◌++◌, Option, None, Some}
use Rattle.cb_state.specs.declared.connection.Connection.{Connection}
use Rattle.cb_state.specs.Announcers.{without_peer}
use Rattle.cb_state.specs.State.{RelayState}
use Rattle.cb_state.specs.State as relay
use Rattle.cb_hall.specs.declared.answer.Answer.{Answer}
use Rattle.cb_hall.specs.declared.entry.Entry.{Entry}
use Rattle.cb_hall.specs.declared.entry.Entry.TheVariants.{Asked, Kick, Opened, Submitted}
use Rattle.cb_hall.specs.Connections.{Slots, changed_at, counted, first_slots, is_kicked, kicked, latest_of, most_peers, opened, put_in}
use Rattle.cb_hall.specs.Replies.{Replies, Submits}

-- The state that the peers share, what is known of their connections, and how many entries there
-- were.
pub record ReplicaState : Type 0 where
  pub relay : RelayState
  pub connections : Slots
  pub entries : ℕ

-- The state before any entry.
abbrev pub opening : ReplicaState
opening = record { relay = relay.opening; connections = first_slots; entries = 0 }

-- The connection is the next one of one of the peers.
abbrev pub IsNext : Slots → Connection → Type 0
IsNext connections connection =
    (connection.peer < most_peers)
    × (connection.generation ≡ latest_of connections connection.peer + 1)

-- The entry can come next. Only the opening of a connection is restricted.
abbrev pub IsFit : Slots → Entry → Type 0
IsFit connections (Opened connection) = IsNext connections connection
IsFit connections other = Unit {0}

-- What is known of the connections after an entry.
abbrev pub slots_after : Slots → Entry → Slots
slots_after connections (Asked connection question) = put_in counted connection connections
slots_after connections (Kick connection) = put_in kicked connection connections
slots_after connections (Opened connection) = changed_at opened connection.peer connections
slots_after connections (Submitted local) = connections

-- Each entry can come after the ones before it.
abbrev pub AreFit : Slots → List Entry → Type 0
AreFit connections [] = Unit {0}
AreFit connections (entry ∷ entries) =
    IsFit connections entry × AreFit (slots_after connections entry) entries

-- ---- one entry

-- What an entry does to the shared state, and the answer.
abbrev pub Tells : RelayState → Slots → Entry → Option Answer → RelayState → Type 0
Tells old connections (Asked connection question) told new =
    (answer : Answer) × (told ≡ Some answer)
    × Replies (is_kicked connections connection) old connection question answer new
Tells old connections (Kick connection) told new = (told ≡ None) × (new ≡ old)
-- A peer's earlier connections are no longer asked to announce new blocks as compact blocks.
Tells old connections (Opened connection) told new =
    (told ≡ None) × IsNext connections connection
    × (new ≡ record old { announcers = without_peer old.announcers connection.peer })
Tells old connections (Submitted local) told new =
    (answer : Answer) × (told ≡ Some answer) × Submits old local answer new

-- What an entry does to the shared state and to the connections, and the answer.
abbrev pub Does : RelayState → Slots → Entry → Option Answer → RelayState → Slots → Type 0
Does old connections entry told new after =
    Tells old connections entry told new × (after ≡ slots_after connections entry)

-- One entry is applied.
pub record Steps (old : ReplicaState) (entry : Entry) (told : Option Answer) (new : ReplicaState)
    : Type 0 where
  pub does : Does old.relay old.connections entry told new.relay new.connections
  pub entries : new.entries ≡ old.entries + 1

-- ---- a journal

-- The answer, if the entry is a question.
abbrev pub heard : Entry → Option Answer → List Answer
heard (Asked connection question) (Some answer) = answer ∷ []
heard entry other = []

-- The entries, applied in order, lead from one state to another. `answers` are the answers to the
-- questions among them, in order.
abbrev pub Leads : ReplicaState → List Entry → List Answer → ReplicaState → Type 0
Leads old [] answers new = (answers ≡ []) × (new ≡ old)
Leads old (entry ∷ entries) answers new =
    (told : Option Answer) × (next : ReplicaState) × (others : List Answer)
    × Steps old entry told next × (answers ≡ heard entry told ++ others)
    × Leads next entries others new
