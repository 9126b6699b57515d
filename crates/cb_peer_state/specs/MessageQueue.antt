-- What waits to be written to a connection's socket.
use Rattle.std.specs.Prelude.{◌≡◌, ℕ, ◌+◌, ◌*◌, ◌<◌, ◌≤◌, Bool, true, false, List, [], ◌∷◌, ◌++◌, length, map, sum}
use Rattle.cb_wire.specs.declared.message.Message.{Message}
use Rattle.cb_peer_state.specs.declared.message_queue.Waiting.{Waiting}

-- A queue of messages: those that wait, in order, each with how many bytes it keeps for itself, and
-- whether it takes further ones.
pub record QueueState : Type 0 where
  pub waiting : List Waiting
  pub takes : Bool

-- nothing waits, and nothing is taken
abbrev pub idle_queue : QueueState
idle_queue = record { waiting = []; takes = false }

-- this message was put behind those that wait
abbrev pub with_message : QueueState → Waiting → QueueState
with_message queue one = record { waiting = queue.waiting ++ one ∷ []; takes = queue.takes }

-- it takes messages from now on
abbrev pub opened_queue : QueueState → QueueState
opened_queue queue = record { waiting = queue.waiting; takes = true }

-- it takes no further messages; those that wait still do
abbrev pub closed_queue : QueueState → QueueState
closed_queue queue = record { waiting = queue.waiting; takes = false }

-- how many bytes the messages that wait keep for themselves
abbrev pub own_of : List Waiting → ℕ
own_of waiting = sum (map (λ one. one.own) waiting)

-- A message that keeps so many bytes for itself has room: 100,000 messages wait at most, and keep
-- 8,000,000 bytes for themselves at most.
abbrev pub HasRoomFor : QueueState → ℕ → Type 0
HasRoomFor queue own = (length queue.waiting < 100000) × (own_of queue.waiting + own ≤ 8000000)

-- how many bytes a queue holds: 200 for each message, and what they keep for themselves
abbrev pub held_by : QueueState → ℕ
held_by queue = length queue.waiting * 200 + own_of queue.waiting

-- the messages of those that wait
abbrev pub messages_of : List Waiting → List Message
messages_of waiting = map (λ one. one.message) waiting

-- Of those that waited, these messages were taken off in their order, and the others wait still.
pub record WereTaken (before : List Waiting) (messages : List Message) (after : List Waiting)
    : Type 0 where
  pub first : List Waiting
  pub parts : before ≡ first ++ after
  pub taken : messages ≡ messages_of first
